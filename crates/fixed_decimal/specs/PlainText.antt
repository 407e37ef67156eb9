-- A text without a letter that marks an exponent: what comes before such a letter and what follows it.
-- Defined in docs/numbers.md, "Compact and scientific texts".
-- Cited by the definitions of the compact and the scientific text.
use Rattle.std.specs.Prelude.{◌≡◌, ℕ, ◌⊎◌, List, [], ◌∷◌}
use Rattle.fixed_decimal_signed.specs.NumberText.{small_mark, capital_mark}

-- the letter `c`, before the exponent of a compact text
abbrev pub compact_mark : ℕ
compact_mark = 99

-- `c`, `e` or `E`
abbrev pub MarksExponent : ℕ → Type 0
MarksExponent c = (c ≡ compact_mark) ⊎ ((c ≡ small_mark) ⊎ (c ≡ capital_mark))

-- the text has none of these letters
abbrev pub HasNoMark : List ℕ → Type 0
HasNoMark [] = Unit {0}
HasNoMark (c ∷ cs) = (¬ (MarksExponent c)) × HasNoMark cs
