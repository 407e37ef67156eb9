-- The definitions at known texts: what each is printed as, or refused as.
use Rattle.std.proofs.Common.{◌≡◌, refl, Ok, Err, codes}
use Rattle.icu_locale_core_grammar.specs.declared.error.ParseError.TheVariants.{InvalidLanguage, InvalidSubtag, InvalidExtension, DuplicatedExtension}
use Rattle.icu_locale_core_grammar.specs.Stepping.{headed_after, whole_after}
use Rattle.icu_locale_core_grammar.specs.TagStages.{with_piece, body_after}
use Rattle.icu_locale_core_grammar.specs.KnownRows.{answer_to}

-- ---- printed

-- a script, a region and variants: case by place, variants in order
pub script_region_variants : answer_to (codes "en-latn-us-fonipa-1996") ≡ Ok (codes "en-Latn-US-1996-fonipa")
unfolding whole_after headed_after body_after with_piece
script_region_variants = refl

-- extensions by singleton; a private piece may be any letter, and twice
pub blocks_in_order : answer_to (codes "en-b-foo-a-bar-x-B-a") ≡ Ok (codes "en-a-bar-b-foo-x-b-a")
unfolding whole_after headed_after body_after with_piece
blocks_in_order = refl

-- of two equal keys the first counts
pub first_of_equal_keys : answer_to (codes "en-u-ca-buddhist-ca-coptic") ≡ Ok (codes "en-u-ca-buddhist")
unfolding whole_after headed_after body_after with_piece
first_of_equal_keys = refl

-- `true` is left out of a keyword's value
pub true_left_out : answer_to (codes "EN-u-nu-true") ≡ Ok (codes "en-u-nu")
unfolding whole_after headed_after body_after with_piece
true_left_out = refl

-- all is lower case within `t`, and a field without a value shows `true`
pub inner_lower : answer_to (codes "en-t-DE-Latn-m0-true") ≡ Ok (codes "en-t-de-latn-m0-true")
unfolding whole_after headed_after body_after with_piece
inner_lower = refl

-- a digit is a singleton too, and is before the letters
pub digit_singletons : answer_to (codes "und-a-foo-1-bar") ≡ Ok (codes "und-1-bar-a-foo")
unfolding whole_after headed_after body_after with_piece
digit_singletons = refl

-- `t` and `u` are before the first other singleton above `t`
pub extensions_around_transform : answer_to (codes "en-z-foo-u-nu-t-it-s-bar") ≡ Ok (codes "en-s-bar-t-it-u-nu-z-foo")
unfolding whole_after headed_after body_after with_piece
extensions_around_transform = refl

-- the first of equal keys counts even where its value is empty
pub key_stands_where_empty : answer_to (codes "en-u-nu-nu-thai") ≡ Ok (codes "en-u-nu")
unfolding whole_after headed_after body_after with_piece
key_stands_where_empty = refl

-- `true` is left out anywhere in a value
pub true_within_value : answer_to (codes "en-u-nu-foo-TRUE-bar") ≡ Ok (codes "en-u-nu-foo-bar")
unfolding whole_after headed_after body_after with_piece
true_within_value = refl

-- an attribute may be `true`, and attributes are a set
pub true_is_an_attribute : answer_to (codes "en-u-true-foo-TRUE") ≡ Ok (codes "en-u-foo-true")
unfolding whole_after headed_after body_after with_piece
true_is_an_attribute = refl

-- attributes are in order, before keywords by key
pub attributes_before_keys : answer_to (codes "en-u-foo-bar-nu-latn-ca-hebrew") ≡ Ok (codes "en-u-bar-foo-ca-hebrew-nu-latn")
unfolding whole_after headed_after body_after with_piece
attributes_before_keys = refl

-- a key may begin with a digit
pub key_with_digit : answer_to (codes "en-u-1a-foo") ≡ Ok (codes "en-u-1a-foo")
unfolding whole_after headed_after body_after with_piece
key_with_digit = refl

-- fields stand by key, and the first of equal keys counts
pub fields_in_order : answer_to (codes "en-t-m0-foo-k0-bar-M0-other") ≡ Ok (codes "en-t-k0-bar-m0-foo")
unfolding whole_after headed_after body_after with_piece
fields_in_order = refl

-- `t` may have fields alone
pub field_without_inner : answer_to (codes "und-t-h0-hybrid") ≡ Ok (codes "und-t-h0-hybrid")
unfolding whole_after headed_after body_after with_piece
field_without_inner = refl

-- `t` may have a language part alone
pub inner_without_field : answer_to (codes "und-t-de-1996-1994") ≡ Ok (codes "und-t-de-1994-1996")
unfolding whole_after headed_after body_after with_piece
inner_without_field = refl

-- a private part may be right after the language
pub private_alone : answer_to (codes "en-X-A-12345678") ≡ Ok (codes "en-x-a-12345678")
unfolding whole_after headed_after body_after with_piece
private_alone = refl

-- a region may be three digits, and a variant may begin with one
pub region_of_digits : answer_to (codes "es-419-1ABC") ≡ Ok (codes "es-419-1abc")
unfolding whole_after headed_after body_after with_piece
region_of_digits = refl

-- a piece of two letters after a singleton is no region
pub no_region_after_it : answer_to (codes "en-a-us") ≡ Ok (codes "en-a-us")
unfolding whole_after headed_after body_after with_piece
no_region_after_it = refl

-- a language may have three letters
pub three_letters : answer_to (codes "UND") ≡ Ok (codes "und")
unfolding whole_after headed_after body_after with_piece
three_letters = refl

-- a language, a script, a region and a keyword
pub whole_tag : answer_to (codes "en-Latn-US-u-nu-thai") ≡ Ok (codes "en-Latn-US-u-nu-thai")
unfolding whole_after headed_after body_after with_piece
whole_tag = refl

-- within `x` a letter may be twice
pub private_twice : answer_to (codes "en-x-a-a") ≡ Ok (codes "en-x-a-a")
unfolding whole_after headed_after body_after with_piece
private_twice = refl

-- ---- refused

-- the empty text is one empty piece
pub empty_text : answer_to (codes "") ≡ Err InvalidLanguage
unfolding whole_after headed_after body_after with_piece
empty_text = refl

-- four letters are no language
pub four_letters : answer_to (codes "abcd") ≡ Err InvalidLanguage
unfolding whole_after headed_after body_after with_piece
four_letters = refl

-- nor is a singleton
pub private_first : answer_to (codes "x-foo") ≡ Err InvalidLanguage
unfolding whole_after headed_after body_after with_piece
private_first = refl

-- nor is one letter
pub one_letter : answer_to (codes "e") ≡ Err InvalidLanguage
unfolding whole_after headed_after body_after with_piece
one_letter = refl

-- nor is a piece with a digit
pub language_with_digit : answer_to (codes "e1") ≡ Err InvalidLanguage
unfolding whole_after headed_after body_after with_piece
language_with_digit = refl

-- an empty piece is a piece
pub empty_piece : answer_to (codes "en-") ≡ Err InvalidSubtag
unfolding whole_after headed_after body_after with_piece
empty_piece = refl

-- a variant is twice
pub repeated_variant : answer_to (codes "de-1996-1996") ≡ Err InvalidSubtag
unfolding whole_after headed_after body_after with_piece
repeated_variant = refl

-- a variant is twice, but for its case
pub repeated_variant_case : answer_to (codes "de-fonipa-FONIPA") ≡ Err InvalidSubtag
unfolding whole_after headed_after body_after with_piece
repeated_variant_case = refl

-- nine characters and more are no subtag
pub too_long : answer_to (codes "en-toolongpiece") ≡ Err InvalidSubtag
unfolding whole_after headed_after body_after with_piece
too_long = refl

-- a script after a region
pub script_after_region : answer_to (codes "en-us-latn") ≡ Err InvalidSubtag
unfolding whole_after headed_after body_after with_piece
script_after_region = refl

-- a second region
pub second_region : answer_to (codes "en-us-gb") ≡ Err InvalidSubtag
unfolding whole_after headed_after body_after with_piece
second_region = refl

-- a region after a variant
pub region_after_variant : answer_to (codes "en-1996-us") ≡ Err InvalidSubtag
unfolding whole_after headed_after body_after with_piece
region_after_variant = refl

-- a character that is no letter and no digit
pub underscore : answer_to (codes "en_us") ≡ Err InvalidLanguage
unfolding whole_after headed_after body_after with_piece
underscore = refl

-- an extension is empty at the end
pub ends_after_u : answer_to (codes "en-u") ≡ Err InvalidExtension
unfolding whole_after headed_after body_after with_piece
ends_after_u = refl

-- an empty extension, though the piece repeats its singleton
pub empty_then_repeated : answer_to (codes "en-u-u") ≡ Err InvalidExtension
unfolding whole_after headed_after body_after with_piece
empty_then_repeated = refl

-- an empty extension, and then another
pub empty_then_other : answer_to (codes "en-a-b-foo") ≡ Err InvalidExtension
unfolding whole_after headed_after body_after with_piece
empty_then_other = refl

-- an empty extension, and then `x`
pub empty_then_private : answer_to (codes "en-a-x-foo") ≡ Err InvalidExtension
unfolding whole_after headed_after body_after with_piece
empty_then_private = refl

-- an empty piece within an extension
pub empty_piece_within : answer_to (codes "en-u-nu-") ≡ Err InvalidExtension
unfolding whole_after headed_after body_after with_piece
empty_piece_within = refl

-- a field without a value at the end
pub ends_after_field : answer_to (codes "und-t-h0") ≡ Err InvalidExtension
unfolding whole_after headed_after body_after with_piece
ends_after_field = refl

-- a field without a value, though the piece repeats a singleton
pub field_then_repeated : answer_to (codes "und-a-foo-t-h0-a-bar") ≡ Err InvalidExtension
unfolding whole_after headed_after body_after with_piece
field_then_repeated = refl

-- a field without a value, and then another
pub field_then_field : answer_to (codes "und-t-h0-k0-foo") ≡ Err InvalidExtension
unfolding whole_after headed_after body_after with_piece
field_then_field = refl

-- a piece that is too long within an extension
pub too_long_within : answer_to (codes "en-a-toolongpiece") ≡ Err InvalidExtension
unfolding whole_after headed_after body_after with_piece
too_long_within = refl

-- no private piece
pub ends_after_x : answer_to (codes "en-x") ≡ Err InvalidExtension
unfolding whole_after headed_after body_after with_piece
ends_after_x = refl

-- a variant is twice within `t`
pub repeated_variant_within : answer_to (codes "und-t-de-1996-1996") ≡ Err InvalidExtension
unfolding whole_after headed_after body_after with_piece
repeated_variant_within = refl

-- a second region within `t`
pub region_twice_within : answer_to (codes "und-t-de-us-gb") ≡ Err InvalidExtension
unfolding whole_after headed_after body_after with_piece
region_twice_within = refl

-- a keyword's key ends with a letter
pub key_of_digit_within : answer_to (codes "en-u-a1-foo") ≡ Err InvalidExtension
unfolding whole_after headed_after body_after with_piece
key_of_digit_within = refl

-- a singleton is twice
pub repeated_singleton : answer_to (codes "en-a-foo-a-bar") ≡ Err DuplicatedExtension
unfolding whole_after headed_after body_after with_piece
repeated_singleton = refl

-- a singleton is twice, but for its case
pub repeated_singleton_case : answer_to (codes "en-a-foo-u-nu-A-bar") ≡ Err DuplicatedExtension
unfolding whole_after headed_after body_after with_piece
repeated_singleton_case = refl

-- `u` is twice
pub repeated_unicode : answer_to (codes "en-u-nu-u-ca") ≡ Err DuplicatedExtension
unfolding whole_after headed_after body_after with_piece
repeated_unicode = refl

-- `t` is twice
pub repeated_transform : answer_to (codes "en-t-de-t-fr") ≡ Err DuplicatedExtension
unfolding whole_after headed_after body_after with_piece
repeated_transform = refl

-- a digit is twice as a singleton
pub repeated_digit : answer_to (codes "en-1-foo-1-bar") ≡ Err DuplicatedExtension
unfolding whole_after headed_after body_after with_piece
repeated_digit = refl

-- the first fault counts: the second `a` comes later
pub repeated_after_fault : answer_to (codes "en-a-foo-toolongpiece-a-bar") ≡ Err InvalidExtension
unfolding whole_after headed_after body_after with_piece
repeated_after_fault = refl
