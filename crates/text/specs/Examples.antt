-- The lines of the whole case (docs/RULES.md 8.7), to the byte.
use Rattle.std.specs.Prelude.{◌≡◌, refl, List, [], ◌∷◌, ◌++◌, ℕ}
use Rattle.endian.specs.Endian.{le16, le32, u16_at, u32_at}
use Rattle.text.specs.Digits.{digits}
use Rattle.text.specs.Text.{store_text, ok_text, refused_text, steps_text, place_text, found_text}

-- two matches in a lookup's output: block 3 offset 2, block 7 offset 1
places : List ℕ
places = le32 3 ++ le16 2 ++ le32 7 ++ le16 1

texts : List (List ℕ)
texts =
    store_text 16 10 ∷ ok_text ∷ refused_text 4 10 ∷ found_text 2 places ∷
    found_text 1 places ∷ found_text 0 places ∷ steps_text 0 9 ∷ []

bytes : List (List ℕ)
bytes =
    -- `store 16 fill 10`
    (115 ∷ 116 ∷ 111 ∷ 114 ∷ 101 ∷ 32 ∷ 49 ∷ 54 ∷ 32 ∷ 102 ∷ 105 ∷ 108 ∷ 108 ∷ 32 ∷ 49 ∷ 48 ∷ 10 ∷ []) ∷
    -- `ok`
    (111 ∷ 107 ∷ 10 ∷ []) ∷
    -- `line 4: refused 10`
    (108 ∷ 105 ∷ 110 ∷ 101 ∷ 32 ∷ 52 ∷ 58 ∷ 32 ∷ 114 ∷ 101 ∷ 102 ∷ 117 ∷ 115 ∷ 101 ∷ 100 ∷ 32 ∷ 49 ∷ 48 ∷ 10 ∷ []) ∷
    -- `2: 3/2 7/1`
    (50 ∷ 58 ∷ 32 ∷ 51 ∷ 47 ∷ 50 ∷ 32 ∷ 55 ∷ 47 ∷ 49 ∷ 10 ∷ []) ∷
    -- `1: 3/2`
    (49 ∷ 58 ∷ 32 ∷ 51 ∷ 47 ∷ 50 ∷ 10 ∷ []) ∷
    -- `0:`
    (48 ∷ 58 ∷ 10 ∷ []) ∷
    -- `steps 0 stop 9`
    (115 ∷ 116 ∷ 101 ∷ 112 ∷ 115 ∷ 32 ∷ 48 ∷ 32 ∷ 115 ∷ 116 ∷ 111 ∷ 112 ∷ 32 ∷ 57 ∷ 10 ∷ []) ∷
    []

texts-are-bytes : texts ≡ bytes
unfolding places texts bytes digits le16 le32 u16_at u32_at store_text ok_text refused_text steps_text place_text found_text
texts-are-bytes = refl
