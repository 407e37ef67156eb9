-- Laws of exact forms: what is shown for a number, sent back in the exact form of the same table.
-- Defined in docs/compact-text.md, "Laws".
-- Cited by the functions of the module `laws`.
use Rattle.std.specs.Prelude.{◌≡◌, ℕ, ◌+◌, ◌*◌, ◌^◌, ◌≤◌, ◌==◌, cond, List, None, Some}
use Rattle.std.specs.List.{AllByRecursion}
use Rattle.icu_decimal_compact_value.specs.declared.entry.CompactEntry.{CompactEntry}
use Rattle.icu_decimal_compact_value.specs.Choice.{CanShow, chosen, entry_at, exact_entry, exponent_of, shown_under}
use Rattle.icu_decimal_compact_value.specs.Entries.{Rises}
use Rattle.icu_decimal_compact_value.specs.ExactForms.{IsInRange}
use Rattle.icu_decimal_compact_value.specs.ShownValue.{magnitude}

-- the entry of the magnitude of the shown value is the one that the number is shown under
abbrev pub UsesShownEntry : ℕ → List CompactEntry → ℕ → Type 0
UsesShownEntry ones entries n = entry_at ones entries (magnitude ones (shown_under ones entries n)) ≡ (chosen ones entries n).entry

-- the significand and the exponent shown have the entry shown as their exact form
abbrev pub WritesSame : ℕ → List CompactEntry → ℕ → Type 0
WritesSame ones entries n = let c = chosen ones entries n in exact_entry ones entries c.count c.exponent ≡ Some c.entry

-- each type is its exponent
abbrev pub IsFlat : List CompactEntry → Type 0
IsFlat entries = AllByRecursion (λ x. x.exponent ≡ x.log10_type) entries

-- the significand times ten to the exponent is the shown value
abbrev pub ChoiceIsShownValue : Type 0
ChoiceIsShownValue = (ones : ℕ) (entries : List CompactEntry) (n : ℕ) → 1 ≤ ones → Rises 0 entries → (chosen ones entries n).count * 10 ^ (chosen ones entries n).exponent ≡ shown_under ones entries n

-- the exact form is refused exactly where the entry of the shown value's magnitude has another exponent, and else written under that entry
abbrev pub ExactFormAnswers : Type 0
ExactFormAnswers = (ones : ℕ) (entries : List CompactEntry) (n : ℕ) → 1 ≤ ones → Rises 0 entries
    → let c = chosen ones entries n in let entry = entry_at ones entries (magnitude ones (shown_under ones entries n)) in
    exact_entry ones entries c.count c.exponent ≡ cond (exponent_of entry == c.exponent) (Some entry) None

-- it writes the same where the entry shown is that of the shown value's magnitude
abbrev pub ExactFormWritesSame : Type 0
ExactFormWritesSame = (ones : ℕ) (entries : List CompactEntry) (n : ℕ) → 1 ≤ ones → Rises 0 entries → UsesShownEntry ones entries n → WritesSame ones entries n

-- which it is where the shown value has the magnitude of the number
abbrev pub KeptMagnitudeUsesShownEntry : Type 0
KeptMagnitudeUsesShownEntry = (ones : ℕ) (entries : List CompactEntry) (n : ℕ) → magnitude ones (shown_under ones entries n) ≡ magnitude ones n → UsesShownEntry ones entries n

-- and in every table whose types are its exponents
abbrev pub FlatTableUsesShownEntry : Type 0
FlatTableUsesShownEntry = (ones : ℕ) (entries : List CompactEntry) (n : ℕ) → Rises 0 entries → IsFlat entries → UsesShownEntry ones entries n

-- the exact form has the magnitude of the shown value
abbrev pub ExactFormHasShownMagnitude : Type 0
ExactFormHasShownMagnitude = (ones : ℕ) (entries : List CompactEntry) (n : ℕ) → 1 ≤ ones → Rises 0 entries
    → let c = chosen ones entries n in magnitude ones c.count + c.exponent ≡ magnitude ones (shown_under ones entries n)

-- so it is in range where the number can be shown
abbrev pub ExactFormIsInRange : Type 0
ExactFormIsInRange = (entries : List CompactEntry) (n : ℕ) → Rises 0 entries → CanShow entries n
    → let c = chosen 32768 entries n in IsInRange c.count c.exponent
