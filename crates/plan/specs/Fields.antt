-- The meta block's fields, some of them changed.
use Rattle.std.specs.Prelude.{List, ℕ}
use Rattle.image.specs.declared.Meta.{Meta}

-- m with others in the fields that calls change
abbrev pub fields_with : Meta → (count max high low point free : ℕ) → (spares : List ℕ) → Meta
fields_with m count max high low point free spares =
    record {
      count = count;
      fill = m.fill;
      max = max;
      high = high;
      low = low;
      point = point;
      free = free;
      size = m.size;
      spares = spares;
      number = m.number;
    }

-- m with another count, first free and spares
abbrev pub fields_of : Meta → (count free : ℕ) → (spares : List ℕ) → Meta
fields_of m count free spares = fields_with m count m.max m.high m.low m.point free spares

-- m with another count and first free
abbrev pub fields_after : Meta → (count free : ℕ) → Meta
fields_after m count free = fields_of m count free m.spares
