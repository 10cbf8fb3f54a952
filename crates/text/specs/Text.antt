-- docs/RULES.md 8.5 and 8.7: the lines of output, each with its LF.
use Rattle.std.specs.Prelude.{List, [], ◌∷◌, ◌++◌, ℕ, ◌+◌, ◌*◌}
use Rattle.lists.specs.Lists.{bind, up_from}
use Rattle.endian.specs.Endian.{u16_at, u32_at}
use Rattle.text.specs.Digits.{digits}

-- the bytes that one line can need: 5,000 matches of 17 bytes, their number, a colon and LF
abbrev pub line_output : ℕ
line_output = 85006

-- two numbers, each after a word, and LF
abbrev pub two_text : (first : List ℕ) (a : ℕ) (second : List ℕ) (b : ℕ) → List ℕ
two_text first a second b = first ++ digits a ++ second ++ digits b ++ (10 ∷ [])

-- `store N fill F`
unfoldable pub store_text : (blocks fill : ℕ) → List ℕ
store_text n fill =
    two_text (115 ∷ 116 ∷ 111 ∷ 114 ∷ 101 ∷ 32 ∷ []) n (32 ∷ 102 ∷ 105 ∷ 108 ∷ 108 ∷ 32 ∷ []) fill

-- `ok`
unfoldable pub ok_text : List ℕ
ok_text = 111 ∷ 107 ∷ 10 ∷ []

-- `line L: refused R`
unfoldable pub refused_text : (line number : ℕ) → List ℕ
refused_text line number =
    two_text (108 ∷ 105 ∷ 110 ∷ 101 ∷ 32 ∷ []) line
    (58 ∷ 32 ∷ 114 ∷ 101 ∷ 102 ∷ 117 ∷ 115 ∷ 101 ∷ 100 ∷ 32 ∷ []) number

-- `steps S stop T`
unfoldable pub steps_text : (steps stop : ℕ) → List ℕ
steps_text steps stop =
    two_text (115 ∷ 116 ∷ 101 ∷ 112 ∷ 115 ∷ 32 ∷ []) steps (32 ∷ 115 ∷ 116 ∷ 111 ∷ 112 ∷ 32 ∷ []) stop

-- ` b/o`, the i-th match of a lookup's output
unfoldable pub place_text : (output : List ℕ) (i : ℕ) → List ℕ
place_text out i = (32 ∷ []) ++ digits (u32_at out (6 * i)) ++ (47 ∷ []) ++ digits (u16_at out (6 * i + 4))

-- `M: b/o b/o`, no match is `0:`
unfoldable pub found_text : (count : ℕ) (output : List ℕ) → List ℕ
found_text m out = digits m ++ (58 ∷ []) ++ bind (up_from 0 m) (place_text out) ++ (10 ∷ [])
