-- What follows the first group: each group with the separator before it.
-- Defined in docs/plain-text.md, "Groups".
-- Cited only by private steps of the writer.
use Rattle.std.specs.Prelude.{ℕ, List, [], ◌∷◌, ◌++◌, codes, drop, map, take}
use Rattle.writeable.specs.AnnotatedText.{Event}
use Rattle.icu_decimal_plain.specs.Affixes.{as_part, decimal_part}
use Rattle.icu_decimal_plain.specs.PlainText.{chained, digit_events}

-- of a separator, what each digit is written as, the sizes of the groups and all their digits
abbrev pub groups_ahead : {A : Type 0} → List A → (ℕ → List A) → List ℕ → List ℕ → List A
groups_ahead separator digit [] ds = []
groups_ahead separator digit (n ∷ ns) ds =
    (separator ++ chained (map digit (take n ds))) ++ groups_ahead separator digit ns (drop n ds)

-- with parts: of the text of a separator and a table of ten characters
abbrev pub later_events : List ℕ → List ℕ → List ℕ → List ℕ → List Event
later_events separator table ns ds =
    groups_ahead (as_part (decimal_part (codes "group")) separator) (digit_events table) ns ds
