-- The definitions of the parts at known texts: language identifiers, tags of one variant and one keyword, preferences.
use Rattle.std.proofs.Common.{◌≡◌, refl, Ok, Err, codes}
use Rattle.icu_locale_core_grammar.specs.declared.error.ParseError.TheVariants.{InvalidLanguage, InvalidSubtag, InvalidExtension}
use Rattle.icu_locale_core_grammar.specs.SingleVariant.{single_after}
use Rattle.icu_locale_core_grammar.specs.Stepping.{headed_after, whole_after}
use Rattle.icu_locale_core_grammar.specs.TagStages.{with_piece, body_after}
use Rattle.icu_locale_core_grammar.specs.KnownRows.{language_answer, single_answer, language_first_answer, region_first_answer}

-- each part in its own case
pub case_by_place : language_answer (codes "EN-lATN-us-FONIPA-1996") ≡ Ok (codes "en-Latn-US-1996-fonipa")
unfolding with_piece
case_by_place = refl

-- a region without a script
pub region_alone : language_answer (codes "de-at") ≡ Ok (codes "de-AT")
unfolding with_piece
region_alone = refl

-- a language alone
pub undetermined : language_answer (codes "und") ≡ Ok (codes "und")
unfolding with_piece
undetermined = refl

-- a singleton is no part of it
pub singleton_refused : language_answer (codes "en-u-nu-latn") ≡ Err InvalidSubtag
unfolding with_piece
singleton_refused = refl

-- nor is `x`
pub private_refused : language_answer (codes "en-x-foo") ≡ Err InvalidSubtag
unfolding with_piece
private_refused = refl

-- the empty text
pub nothing_read : language_answer (codes "") ≡ Err InvalidLanguage
unfolding with_piece
nothing_read = refl

-- a variant twice
pub twice_refused : language_answer (codes "de-1996-1996") ≡ Err InvalidSubtag
unfolding with_piece
twice_refused = refl

-- one variant, one keyword, one piece
pub one_of_each : single_answer (codes "EN-latn-us-FONIPA-u-NU-Latn") ≡ Ok (codes "en-Latn-US-fonipa-u-nu-latn")
unfolding single_after with_piece
one_of_each = refl

-- a keyword without a value
pub key_alone : single_answer (codes "en-u-nu") ≡ Ok (codes "en-u-nu")
unfolding single_after with_piece
key_alone = refl

-- `true` is left out
pub true_is_no_piece : single_answer (codes "en-u-kn-true") ≡ Ok (codes "en-u-kn")
unfolding single_after with_piece
true_is_no_piece = refl

-- no keyword
pub no_keyword : single_answer (codes "de-1996") ≡ Ok (codes "de-1996")
unfolding single_after with_piece
no_keyword = refl

-- a second variant
pub second_variant : single_answer (codes "de-1996-fonipa") ≡ Err InvalidSubtag
unfolding single_after with_piece
second_variant = refl

-- a second keyword
pub second_keyword : single_answer (codes "en-u-nu-latn-ca-hebrew") ≡ Err InvalidExtension
unfolding single_after with_piece
second_keyword = refl

-- a second keyword with the same key
pub equal_keyword : single_answer (codes "en-u-nu-latn-nu-thai") ≡ Err InvalidExtension
unfolding single_after with_piece
equal_keyword = refl

-- a second piece of a value
pub second_piece : single_answer (codes "en-u-ca-islamic-civil") ≡ Err InvalidExtension
unfolding single_after with_piece
second_piece = refl

-- an attribute
pub attribute_refused : single_answer (codes "en-u-foo") ≡ Err InvalidExtension
unfolding single_after with_piece
attribute_refused = refl

-- another extension
pub other_extension : single_answer (codes "en-a-foo") ≡ Err InvalidExtension
unfolding single_after with_piece
other_extension = refl

-- the private part
pub private_extension : single_answer (codes "en-x-foo") ≡ Err InvalidExtension
unfolding single_after with_piece
private_extension = refl

-- `t`
pub transform_extension : single_answer (codes "en-t-de") ≡ Err InvalidExtension
unfolding single_after with_piece
transform_extension = refl

-- `u` twice
pub unicode_twice : single_answer (codes "en-u-nu-u") ≡ Err InvalidExtension
unfolding single_after with_piece
unicode_twice = refl

-- an empty extension
pub empty_extension : single_answer (codes "en-u") ≡ Err InvalidExtension
unfolding single_after with_piece
empty_extension = refl

-- a character that is no singleton
pub no_singleton : single_answer (codes "en-@") ≡ Err InvalidSubtag
unfolding single_after with_piece
no_singleton = refl

-- a singleton first
pub no_language : single_answer (codes "x-foo") ≡ Err InvalidLanguage
unfolding single_after with_piece
no_language = refl

-- `sd` and `rg` read, language first
pub subdivision_and_override_by_language : language_first_answer (codes "en-US-u-rg-gbeng-sd-ustx") ≡ Ok (codes "en-US-u-sd-ustx")
unfolding whole_after headed_after body_after with_piece
subdivision_and_override_by_language = refl

-- `sd` and `rg` read, region first
pub subdivision_and_override_by_region : region_first_answer (codes "en-US-u-rg-gbeng-sd-ustx") ≡ Ok (codes "en-GB-u-sd-gbeng")
unfolding whole_after headed_after body_after with_piece
subdivision_and_override_by_region = refl

-- the region in `sd` changes nothing, language first
pub subdivision_of_elsewhere_by_language : language_first_answer (codes "en-US-u-sd-gbeng") ≡ Ok (codes "en-US-u-sd-gbeng")
unfolding whole_after headed_after body_after with_piece
subdivision_of_elsewhere_by_language = refl

-- the region in `sd` changes nothing, region first
pub subdivision_of_elsewhere_by_region : region_first_answer (codes "en-US-u-sd-gbeng") ≡ Ok (codes "en-US-u-sd-gbeng")
unfolding whole_after headed_after body_after with_piece
subdivision_of_elsewhere_by_region = refl

-- a suffix of one character reads, language first
pub override_with_one_letter_by_language : language_first_answer (codes "en-US-u-rg-gbr") ≡ Ok (codes "en-US")
unfolding whole_after headed_after body_after with_piece
override_with_one_letter_by_language = refl

-- a suffix of one character reads, region first
pub override_with_one_letter_by_region : region_first_answer (codes "en-US-u-rg-gbr") ≡ Ok (codes "en-GB-u-sd-gbr")
unfolding whole_after headed_after body_after with_piece
override_with_one_letter_by_region = refl

-- the first variant in byte order, language first
pub least_variant_by_language : language_first_answer (codes "de-fonipa-1996") ≡ Ok (codes "de-1996")
unfolding whole_after headed_after body_after with_piece
least_variant_by_language = refl

-- the first variant in byte order, region first
pub least_variant_by_region : region_first_answer (codes "de-fonipa-1996") ≡ Ok (codes "de-1996")
unfolding whole_after headed_after body_after with_piece
least_variant_by_region = refl

-- a value of two pieces does not read, language first
pub two_pieces_do_not_read_by_language : language_first_answer (codes "en-u-sd-ustx-gbeng") ≡ Ok (codes "en")
unfolding whole_after headed_after body_after with_piece
two_pieces_do_not_read_by_language = refl

-- a value of two pieces does not read, region first
pub two_pieces_do_not_read_by_region : region_first_answer (codes "en-u-sd-ustx-gbeng") ≡ Ok (codes "en")
unfolding whole_after headed_after body_after with_piece
two_pieces_do_not_read_by_region = refl

-- a region of digits, language first
pub digits_in_front_by_language : language_first_answer (codes "es-u-rg-419abc") ≡ Ok (codes "es")
unfolding whole_after headed_after body_after with_piece
digits_in_front_by_language = refl

-- a region of digits, region first
pub digits_in_front_by_region : region_first_answer (codes "es-u-rg-419abc") ≡ Ok (codes "es-419-u-sd-419abc")
unfolding whole_after headed_after body_after with_piece
digits_in_front_by_region = refl

-- the first of equal keys counts even where it does not read, language first
pub first_key_does_not_read_by_language : language_first_answer (codes "en-u-rg-rg-gbeng") ≡ Ok (codes "en")
unfolding whole_after headed_after body_after with_piece
first_key_does_not_read_by_language = refl

-- the first of equal keys counts even where it does not read, region first
pub first_key_does_not_read_by_region : region_first_answer (codes "en-u-rg-rg-gbeng") ≡ Ok (codes "en")
unfolding whole_after headed_after body_after with_piece
first_key_does_not_read_by_region = refl

-- nothing else is asked for, language first
pub all_else_left_out_by_language : language_first_answer (codes "en-u-foo-ca-hebrew-nu-thai-t-de-x-bar") ≡ Ok (codes "en")
unfolding whole_after headed_after body_after with_piece
all_else_left_out_by_language = refl

-- nothing else is asked for, region first
pub all_else_left_out_by_region : region_first_answer (codes "en-u-foo-ca-hebrew-nu-thai-t-de-x-bar") ≡ Ok (codes "en")
unfolding whole_after headed_after body_after with_piece
all_else_left_out_by_region = refl

-- a letter and digits are no region, language first
pub digits_and_letters_do_not_read_by_language : language_first_answer (codes "en-u-sd-u12abc") ≡ Ok (codes "en")
unfolding whole_after headed_after body_after with_piece
digits_and_letters_do_not_read_by_language = refl

-- a letter and digits are no region, region first
pub digits_and_letters_do_not_read_by_region : region_first_answer (codes "en-u-sd-u12abc") ≡ Ok (codes "en")
unfolding whole_after headed_after body_after with_piece
digits_and_letters_do_not_read_by_region = refl

-- of two subdivisions the first counts, language first
pub first_subdivision_by_language : language_first_answer (codes "en-u-sd-ustx-sd-gbeng") ≡ Ok (codes "en-u-sd-ustx")
unfolding whole_after headed_after body_after with_piece
first_subdivision_by_language = refl

-- of two subdivisions the first counts, region first
pub first_subdivision_by_region : region_first_answer (codes "en-u-sd-ustx-sd-gbeng") ≡ Ok (codes "en-u-sd-ustx")
unfolding whole_after headed_after body_after with_piece
first_subdivision_by_region = refl
