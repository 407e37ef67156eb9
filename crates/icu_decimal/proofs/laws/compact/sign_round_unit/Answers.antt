use Rattle.std.specs.Prelude.{List, ℕ}
use Rattle.writeable.proofs.AnnotatedTextLemmas.{text_of_bytes}
use Rattle.icu_decimal_plain.specs.Affixes.{affixes_of}
use Rattle.icu_decimal.specs.HeldTables.{tables_of}
use Rattle.icu_decimal_plain.specs.PlainText.{PlainNumber, unsigned_events, unsigned_text}
use Rattle.icu_decimal_plain.proofs.TextLemmas.{unsigned_is_text}
use Rattle.writeable.specs.AnnotatedText.{bytes}
use Rattle.icu_decimal.specs.CompactText.{compact_of, compact_text}
use Rattle.icu_decimal.specs.HeldCompact.{compact_tables_of}
use Rattle.icu_decimal.proofs.CompactTextLemmas.{unit_is_text}
use Rattle.icu_decimal.proofs.laws.compact.sign_round_unit.Goals as goal

pub returns-clause-plain : goal.returns-clause-plain
returns-clause-plain c = λ f before d behind.
    let number : PlainNumber = record { number = d.absolute; tables = tables_of f } in
    unit_is_text (affixes_of (tables_of f).symbols.strings d.sign) before behind (unsigned_events number) (unsigned_text (tables_of f) d.absolute) (unsigned_is_text number)

pub returns-clause-compact : goal.returns-clause-compact
returns-clause-compact c = λ f before d behind.
    let text : List ℕ = compact_text (compact_of (compact_tables_of f) d.absolute) in
    unit_is_text (affixes_of (compact_tables_of f).plain.symbols.strings d.sign) before behind (bytes text) text (text_of_bytes text)
