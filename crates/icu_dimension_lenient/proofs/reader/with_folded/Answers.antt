use Rattle.std.proofs.Common.{◌≡◌, ◌&&◌, Bool, true, false, Result, Ok, Err, IsErrOf, refl, sym, ap}
use Rattle.std.proofs.lemmas.Bool.{false≢true}
use Rattle.icu_decimal_plain.specs.PlainText.{Tables}
use Rattle.icu_decimal_reading.specs.declared.error.ReadError.{ReadError}
use Rattle.icu_decimal_reading.specs.declared.error.ReadError.TheVariants.{Unreadable}
use Rattle.icu_decimal_lenient.specs.Folding.{plain_digits}
use Rattle.icu_decimal_lenient.specs.LenientReading.{is_leniently_readable_by}
use Rattle.icu_dimension_affixes.specs.UnitReading.{are_clear_pairs, do_pairs_differ, is_unit_readable_by}
use Rattle.icu_dimension_lenient.specs.LenientUnits.{LenientTexts, texts_with}
use Rattle.icu_dimension_lenient.proofs.reader.with_folded.Goals as goal

fails_before : (a b rest : Bool) → (a && b) ≡ false → (a && (b && rest)) ≡ false
fails_before true true rest e = absurd (false≢true (sym e))
fails_before true false rest e = refl
fails_before false b rest e = refl

-- an error is one of a reader and of tables
abbrev of_reader : ReadError → Result LenientTexts ReadError
of_reader e = Err e

abbrev of_tables : ReadError → Result Tables ReadError
of_tables e = Err e

abbrev error_or : ReadError → Result LenientTexts ReadError → ReadError
error_or other (Ok a) = other
error_or other (Err e) = e

refused_too : (e f : ReadError) → IsErrOf (of_reader e) f → IsErrOf (of_tables e) f
refused_too e f is = ap of_tables (ap (error_or e) is)

pub returns-in-Err-clause-unreadable : goal.returns-in-Err-clause-unreadable
returns-in-Err-clause-unreadable c = λ refused.
    let a : LenientTexts = texts_with c.args.exact c.args.unit.now c.args.code.now in
    fails_before (is_unit_readable_by a.reader) (is_leniently_readable_by a.reader.tables) (are_clear_pairs plain_digits a.folded.pairs && do_pairs_differ a.folded.pairs)
    (c.in-Err.ensures.unreadable (refused_too c.in-Err.error Unreadable refused))
