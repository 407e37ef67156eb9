use Rattle.std.proofs.Common.{codes}
use Rattle.icu_locale_core_grammar.proofs.AnswerLemmas.{region_first_row}
use Rattle.icu_locale_core_grammar.proofs.KnownParts as Rows
use Rattle.icu_locale_core_grammar.proofs.known_rows.region_first_rows.Goals as goal

pub returns : goal.returns
returns c = record {
  subdivision_and_override = region_first_row (codes "en-US-u-rg-gbeng-sd-ustx") (codes "en-GB-u-sd-gbeng") Rows.subdivision_and_override_by_region;
  subdivision_of_elsewhere = region_first_row (codes "en-US-u-sd-gbeng") (codes "en-US-u-sd-gbeng") Rows.subdivision_of_elsewhere_by_region;
  override_with_one_letter = region_first_row (codes "en-US-u-rg-gbr") (codes "en-GB-u-sd-gbr") Rows.override_with_one_letter_by_region;
  least_variant = region_first_row (codes "de-fonipa-1996") (codes "de-1996") Rows.least_variant_by_region;
  two_pieces_do_not_read = region_first_row (codes "en-u-sd-ustx-gbeng") (codes "en") Rows.two_pieces_do_not_read_by_region;
  digits_in_front = region_first_row (codes "es-u-rg-419abc") (codes "es-419-u-sd-419abc") Rows.digits_in_front_by_region;
  first_key_does_not_read = region_first_row (codes "en-u-rg-rg-gbeng") (codes "en") Rows.first_key_does_not_read_by_region;
  all_else_left_out = region_first_row (codes "en-u-foo-ca-hebrew-nu-thai-t-de-x-bar") (codes "en") Rows.all_else_left_out_by_region;
  digits_and_letters_do_not_read = region_first_row (codes "en-u-sd-u12abc") (codes "en") Rows.digits_and_letters_do_not_read_by_region;
  first_subdivision = region_first_row (codes "en-u-sd-ustx-sd-gbeng") (codes "en-u-sd-ustx") Rows.first_subdivision_by_region;
}
