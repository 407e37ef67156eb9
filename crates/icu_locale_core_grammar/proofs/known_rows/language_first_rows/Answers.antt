use Rattle.std.proofs.Common.{codes}
use Rattle.icu_locale_core_grammar.proofs.AnswerLemmas.{language_first_row}
use Rattle.icu_locale_core_grammar.proofs.KnownParts as Rows
use Rattle.icu_locale_core_grammar.proofs.known_rows.language_first_rows.Goals as goal

pub returns : goal.returns
returns c = record {
  subdivision_and_override = language_first_row (codes "en-US-u-rg-gbeng-sd-ustx") (codes "en-US-u-sd-ustx") Rows.subdivision_and_override_by_language;
  subdivision_of_elsewhere = language_first_row (codes "en-US-u-sd-gbeng") (codes "en-US-u-sd-gbeng") Rows.subdivision_of_elsewhere_by_language;
  override_with_one_letter = language_first_row (codes "en-US-u-rg-gbr") (codes "en-US") Rows.override_with_one_letter_by_language;
  least_variant = language_first_row (codes "de-fonipa-1996") (codes "de-1996") Rows.least_variant_by_language;
  two_pieces_do_not_read = language_first_row (codes "en-u-sd-ustx-gbeng") (codes "en") Rows.two_pieces_do_not_read_by_language;
  digits_in_front = language_first_row (codes "es-u-rg-419abc") (codes "es") Rows.digits_in_front_by_language;
  first_key_does_not_read = language_first_row (codes "en-u-rg-rg-gbeng") (codes "en") Rows.first_key_does_not_read_by_language;
  all_else_left_out = language_first_row (codes "en-u-foo-ca-hebrew-nu-thai-t-de-x-bar") (codes "en") Rows.all_else_left_out_by_language;
  digits_and_letters_do_not_read = language_first_row (codes "en-u-sd-u12abc") (codes "en") Rows.digits_and_letters_do_not_read_by_language;
  first_subdivision = language_first_row (codes "en-u-sd-ustx-sd-gbeng") (codes "en-u-sd-ustx") Rows.first_subdivision_by_language;
}
