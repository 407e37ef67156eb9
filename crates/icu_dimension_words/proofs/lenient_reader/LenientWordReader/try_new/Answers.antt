use Rattle.std.proofs.Common.{sym, ap, ◌∙◌}
use Rattle.std.proofs.lemmas.Bool.{and_parts}
use Rattle.icu_decimal_plain.specs.PlainText.{Tables}
use Rattle.icu_decimal_lenient.specs.LenientReading.{is_leniently_readable_by}
use Rattle.icu_decimal_reading.specs.declared.error.ReadError.TheVariants.{Unreadable}
use Rattle.icu_dimension_words.specs.HeldWords.{settings_of}
use Rattle.icu_dimension_words.specs.WordsReading.{is_words_readable_by}
use Rattle.icu_dimension_words.specs.LenientWords.{LenientWords, is_leniently_words_readable_by}
use Rattle.icu_dimension_words.proofs.TypedReaderLemmas.{error_too}
use Rattle.icu_dimension_words.proofs.lenient_reader.LenientWordReader.try_new.Goals as goal

pub returns-in-Err-clause-unreadable : goal.returns-in-Err-clause-unreadable
returns-in-Err-clause-unreadable c = (
  (λ refused. sym (ap is_leniently_words_readable_by c.new-exact.ensures) ∙ c.in-Err.ensures.unreadable.0 (error_too LenientWords Tables c.in-Err.error Unreadable refused)),
  (λ broken. error_too Tables LenientWords c.in-Err.error Unreadable (c.in-Err.ensures.unreadable.1 (ap is_leniently_words_readable_by c.new-exact.ensures ∙ broken))),
)

pub invariant_of-result : goal.invariant_of-result
invariant_of-result c = record {
  tables = c.in-Ok.ensures.value;
  texts = c.in-Ok.ensures.texts;
  readable = (and_parts (is_words_readable_by (settings_of c.new-exact.result)) (is_leniently_readable_by (settings_of c.new-exact.result).tables) c.in-Ok.ensures.readable).0;
}
