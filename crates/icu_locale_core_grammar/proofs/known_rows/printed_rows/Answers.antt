use Rattle.std.proofs.Common.{codes}
use Rattle.icu_locale_core_grammar.proofs.AnswerLemmas.{printed_row}
use Rattle.icu_locale_core_grammar.proofs.KnownValues as Rows
use Rattle.icu_locale_core_grammar.proofs.known_rows.printed_rows.Goals as goal

pub returns : goal.returns
returns c = record {
  script_region_variants = printed_row (codes "en-latn-us-fonipa-1996") (codes "en-Latn-US-1996-fonipa") Rows.script_region_variants;
  blocks_in_order = printed_row (codes "en-b-foo-a-bar-x-B-a") (codes "en-a-bar-b-foo-x-b-a") Rows.blocks_in_order;
  first_of_equal_keys = printed_row (codes "en-u-ca-buddhist-ca-coptic") (codes "en-u-ca-buddhist") Rows.first_of_equal_keys;
  true_left_out = printed_row (codes "EN-u-nu-true") (codes "en-u-nu") Rows.true_left_out;
  inner_lower = printed_row (codes "en-t-DE-Latn-m0-true") (codes "en-t-de-latn-m0-true") Rows.inner_lower;
  digit_singletons = printed_row (codes "und-a-foo-1-bar") (codes "und-1-bar-a-foo") Rows.digit_singletons;
  extensions_around_transform = printed_row (codes "en-z-foo-u-nu-t-it-s-bar") (codes "en-s-bar-t-it-u-nu-z-foo") Rows.extensions_around_transform;
  key_stands_where_empty = printed_row (codes "en-u-nu-nu-thai") (codes "en-u-nu") Rows.key_stands_where_empty;
  true_within_value = printed_row (codes "en-u-nu-foo-TRUE-bar") (codes "en-u-nu-foo-bar") Rows.true_within_value;
  true_is_an_attribute = printed_row (codes "en-u-true-foo-TRUE") (codes "en-u-foo-true") Rows.true_is_an_attribute;
  attributes_before_keys = printed_row (codes "en-u-foo-bar-nu-latn-ca-hebrew") (codes "en-u-bar-foo-ca-hebrew-nu-latn") Rows.attributes_before_keys;
  key_with_digit = printed_row (codes "en-u-1a-foo") (codes "en-u-1a-foo") Rows.key_with_digit;
  fields_in_order = printed_row (codes "en-t-m0-foo-k0-bar-M0-other") (codes "en-t-k0-bar-m0-foo") Rows.fields_in_order;
  field_without_inner = printed_row (codes "und-t-h0-hybrid") (codes "und-t-h0-hybrid") Rows.field_without_inner;
  inner_without_field = printed_row (codes "und-t-de-1996-1994") (codes "und-t-de-1994-1996") Rows.inner_without_field;
  private_alone = printed_row (codes "en-X-A-12345678") (codes "en-x-a-12345678") Rows.private_alone;
  region_of_digits = printed_row (codes "es-419-1ABC") (codes "es-419-1abc") Rows.region_of_digits;
  no_region_after_it = printed_row (codes "en-a-us") (codes "en-a-us") Rows.no_region_after_it;
  three_letters = printed_row (codes "UND") (codes "und") Rows.three_letters;
  whole_tag = printed_row (codes "en-Latn-US-u-nu-thai") (codes "en-Latn-US-u-nu-thai") Rows.whole_tag;
  private_twice = printed_row (codes "en-x-a-a") (codes "en-x-a-a") Rows.private_twice;
}
