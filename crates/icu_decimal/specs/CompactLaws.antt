-- Laws of exact forms: their text, and what is shown for a number, sent back as one of the same tables: whether it is written, and that it is one of the type.
-- Defined in docs/compact-text.md, "Laws".
-- Cited by the functions of the module `laws`.
-- It names many files, since its laws are about compact text, exact forms and the values and entries that both show.
use Rattle.std.specs.Prelude.{◌≡◌, ◌*◌, ◌^◌, ◌==◌, ℕ, cond, List, None, Some, option_map}
use Rattle.writeable.specs.AnnotatedText.{text_of}
use Rattle.fixed_decimal.specs.CompactText.{IsCompact}
use Rattle.fixed_decimal.specs.Number.{IsNumber, Number}
use Rattle.fixed_decimal.specs.SignedValue.{SignedValue}
use Rattle.icu_decimal_patterns.specs.SmallEntries.{AreSmall}
use Rattle.icu_decimal_compact_value.specs.declared.entry.CompactEntry.{CompactEntry}
use Rattle.icu_decimal_compact_value.specs.Choice.{CanShow, entry_at, exponent_of, shown_under}
use Rattle.icu_decimal_compact_value.specs.Entries.{Rises}
use Rattle.icu_decimal_compact_value.specs.ExactForms.{IsInRange}
use Rattle.icu_decimal_compact_value.specs.ExactLaws.{UsesShownEntry}
use Rattle.icu_decimal_compact_value.specs.ShownValue.{magnitude}
use Rattle.icu_decimal.specs.CompactTables.{CompactTables}
use Rattle.icu_decimal.specs.CompactText.{compact_decimal_text, significand_of, value_shown}
use Rattle.icu_decimal.specs.ExactText.{exact_events, exact_formatted, exact_text, written_text}

-- the text of an exact form is that of the events that it is written as, and there is none where it is refused
abbrev pub ExactTextIsOfEvents : Type 0
ExactTextIsOfEvents = (t : CompactTables) (d : SignedValue Number) (x : ℕ)
    → exact_text t d x ≡ option_map (λ shown. text_of (exact_events shown)) (exact_formatted t d x)

-- it is refused exactly where the entry of the shown value's magnitude has another exponent, and else it is written under that entry
abbrev pub ShownFormAnswers : Type 0
ShownFormAnswers = (t : CompactTables) (d : SignedValue Number) → Rises 0 t.patterns.entries
    → let entry = entry_at 32768 t.patterns.entries (magnitude 32768 (shown_under 32768 t.patterns.entries d.absolute.count)) in
    let shown = value_shown t d in
    exact_text t shown.significand shown.exponent ≡ cond (exponent_of entry == shown.exponent) (Some (written_text t shown.significand entry)) None

-- it has the same text where that entry is the one shown
abbrev pub ShownFormWritesSame : Type 0
ShownFormWritesSame = (t : CompactTables) (d : SignedValue Number) → Rises 0 t.patterns.entries → UsesShownEntry 32768 t.patterns.entries d.absolute.count
    → let shown = value_shown t d in exact_text t shown.significand shown.exponent ≡ Some (compact_decimal_text t d)

-- it is in range where the number can be shown
abbrev pub ShownFormIsInRange : Type 0
ShownFormIsInRange = (t : CompactTables) (d : SignedValue Number) → Rises 0 t.patterns.entries → CanShow t.patterns.entries d.absolute.count
    → let shown = value_shown t d in IsInRange shown.significand.absolute.count shown.exponent

-- its significand times ten to its exponent is the shown value
abbrev pub ShownFormIsShownValue : Type 0
ShownFormIsShownValue = (t : CompactTables) (d : SignedValue Number) → Rises 0 t.patterns.entries
    → let shown = value_shown t d in shown.significand.absolute.count * 10 ^ shown.exponent ≡ shown_under 32768 t.patterns.entries d.absolute.count

-- its significand is a number where the number can be shown
abbrev pub SignificandIsNumber : Type 0
SignificandIsNumber = (entries : List CompactEntry) (number : Number) → IsNumber number → CanShow entries number.count → IsNumber (significand_of entries number)

-- and it is a compact number where the entries fit into bytes
abbrev pub ShownIsCompact : Type 0
ShownIsCompact = (t : CompactTables) (d : SignedValue Number) → AreSmall t.patterns.entries → IsNumber d.absolute → CanShow t.patterns.entries d.absolute.count
    → IsCompact (value_shown t d)
