use Rattle.std.proofs.Common.{◌≡◌, ◌++◌, subst, sym}
use Rattle.icu_decimal_plain.specs.Affixes.{affixes_of}
use Rattle.icu_decimal_plain.specs.PlainText.{prefix_text, suffix_text}
use Rattle.icu_decimal_symbols.specs.Symbols.{Symbols}
use Rattle.icu_decimal_scientific.specs.HeldTables.{settings_of}
use Rattle.icu_decimal_scientific.specs.ReadingSteps.{text_with}
use Rattle.icu_decimal_scientific.specs.ScientificReading.{IsScientificText}
use Rattle.icu_decimal_scientific.proofs.ReaderLemmas.{signed_missing, signed_written}
use Rattle.icu_decimal_scientific.proofs.reader.read_signed.Goals as goal

pub returns-in-Ok-clause-value : goal.returns-in-Ok-clause-value
returns-in-Ok-clause-value c =
    let is : c.args.text.now ≡ text_with (settings_of c.args.tables.now) c.args.sign c.in-Some.inner.now =
    subst (λ (s : Symbols). c.args.text.now ≡ prefix_text (affixes_of s.strings c.args.sign) ++ (c.in-Some.inner.now ++ suffix_text (affixes_of s.strings c.args.sign))) c.symbols.ensures c.in-Some.ensures.some in
    subst (IsScientificText (settings_of c.args.tables.now) c.args.text.now) (sym c.with_sign.ensures)
    (signed_written (settings_of c.args.tables.now) c.args.sign c.args.text.now c.in-Some.inner.now c.in-Ok.number is c.in-Ok.ensures.value)

pub returns-in-Err-clause-not_written : goal.returns-in-Err-clause-not_written
returns-in-Err-clause-not_written c =
    let is : c.args.text.now ≡ text_with (settings_of c.args.tables.now) c.args.sign c.in-Some.inner.now =
    subst (λ (s : Symbols). c.args.text.now ≡ prefix_text (affixes_of s.strings c.args.sign) ++ (c.in-Some.inner.now ++ suffix_text (affixes_of s.strings c.args.sign))) c.symbols.ensures c.in-Some.ensures.some in
    λ refused. signed_missing (settings_of c.args.tables.now) c.args.sign c.args.text.now c.in-Some.inner.now is (c.in-Err.ensures.not_written refused)
