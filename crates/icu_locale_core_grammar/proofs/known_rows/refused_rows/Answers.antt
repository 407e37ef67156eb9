use Rattle.std.proofs.Common.{codes}
use Rattle.icu_locale_core_grammar.proofs.AnswerLemmas.{refused_row}
use Rattle.icu_locale_core_grammar.proofs.KnownValues as Rows
use Rattle.icu_locale_core_grammar.specs.declared.error.ParseError.TheVariants.{InvalidLanguage, InvalidSubtag, InvalidExtension, DuplicatedExtension}
use Rattle.icu_locale_core_grammar.proofs.known_rows.refused_rows.Goals as goal

pub returns : goal.returns
returns c = record {
  empty_text = refused_row (codes "") InvalidLanguage Rows.empty_text;
  four_letters = refused_row (codes "abcd") InvalidLanguage Rows.four_letters;
  private_first = refused_row (codes "x-foo") InvalidLanguage Rows.private_first;
  one_letter = refused_row (codes "e") InvalidLanguage Rows.one_letter;
  language_with_digit = refused_row (codes "e1") InvalidLanguage Rows.language_with_digit;
  empty_piece = refused_row (codes "en-") InvalidSubtag Rows.empty_piece;
  repeated_variant = refused_row (codes "de-1996-1996") InvalidSubtag Rows.repeated_variant;
  repeated_variant_case = refused_row (codes "de-fonipa-FONIPA") InvalidSubtag Rows.repeated_variant_case;
  too_long = refused_row (codes "en-toolongpiece") InvalidSubtag Rows.too_long;
  script_after_region = refused_row (codes "en-us-latn") InvalidSubtag Rows.script_after_region;
  second_region = refused_row (codes "en-us-gb") InvalidSubtag Rows.second_region;
  region_after_variant = refused_row (codes "en-1996-us") InvalidSubtag Rows.region_after_variant;
  underscore = refused_row (codes "en_us") InvalidLanguage Rows.underscore;
  ends_after_u = refused_row (codes "en-u") InvalidExtension Rows.ends_after_u;
  empty_then_repeated = refused_row (codes "en-u-u") InvalidExtension Rows.empty_then_repeated;
  empty_then_other = refused_row (codes "en-a-b-foo") InvalidExtension Rows.empty_then_other;
  empty_then_private = refused_row (codes "en-a-x-foo") InvalidExtension Rows.empty_then_private;
  empty_piece_within = refused_row (codes "en-u-nu-") InvalidExtension Rows.empty_piece_within;
  ends_after_field = refused_row (codes "und-t-h0") InvalidExtension Rows.ends_after_field;
  field_then_repeated = refused_row (codes "und-a-foo-t-h0-a-bar") InvalidExtension Rows.field_then_repeated;
  field_then_field = refused_row (codes "und-t-h0-k0-foo") InvalidExtension Rows.field_then_field;
  too_long_within = refused_row (codes "en-a-toolongpiece") InvalidExtension Rows.too_long_within;
  ends_after_x = refused_row (codes "en-x") InvalidExtension Rows.ends_after_x;
  repeated_variant_within = refused_row (codes "und-t-de-1996-1996") InvalidExtension Rows.repeated_variant_within;
  region_twice_within = refused_row (codes "und-t-de-us-gb") InvalidExtension Rows.region_twice_within;
  key_of_digit_within = refused_row (codes "en-u-a1-foo") InvalidExtension Rows.key_of_digit_within;
  repeated_singleton = refused_row (codes "en-a-foo-a-bar") DuplicatedExtension Rows.repeated_singleton;
  repeated_singleton_case = refused_row (codes "en-a-foo-u-nu-A-bar") DuplicatedExtension Rows.repeated_singleton_case;
  repeated_unicode = refused_row (codes "en-u-nu-u-ca") DuplicatedExtension Rows.repeated_unicode;
  repeated_transform = refused_row (codes "en-t-de-t-fr") DuplicatedExtension Rows.repeated_transform;
  repeated_digit = refused_row (codes "en-1-foo-1-bar") DuplicatedExtension Rows.repeated_digit;
  repeated_after_fault = refused_row (codes "en-a-foo-toolongpiece-a-bar") InvalidExtension Rows.repeated_after_fault;
}
