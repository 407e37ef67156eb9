-- Worked rows of `specs/TagReading.antt`, `specs/Fields.antt` and `specs/Seeding.antt`: what known texts and fields say, and what keys hash to.
use Rattle.std.proofs.Common.{◌≡◌, ◌∷◌, [], true, codes, ℕ, List, Option, Some, None, option_map, refl}
use Rattle.serde_json.specs.Data.{number, string, unsigned, array, no_items}
use Rattle.icu_locale_core.specs.Subtags.{Text}
use Rattle.icu_locale_core.specs.Pieces.{pieces}
use Rattle.icu_locale_core.specs.TagPreferences.{DataLocaleMeaning, preferences_of}
use Rattle.icu_locale_core.specs.Stepping.{headed_after, whole_after}
use Rattle.icu_locale_core.specs.TagStages.{with_piece, body_after}
use Rattle.locale_numbers_tables.specs.TagReading.{tag_of, data_locale_of}
use Rattle.locale_numbers_tables.specs.Fields.{size_in, system_in, system_or_none_in, digits_in, plain_text_in}
use Rattle.locale_numbers_tables.specs.Entries.{has_count}
use Rattle.locale_numbers_tables.specs.Seeding.{hash_under}
use Rattle.std.specs.Char.{encode_utf8}
use Rattle.std.specs.Str.{chars, is_utf8}
use Rattle.std.specs.Hash as fed
use Rattle.std.specs.Hash.FoldHasher.{initial, write, folded_multiply, mix_blocks, read_short, read_u32, read_u64}

-- ---- what a tag asks for

abbrev system_asked : Text → Option (Option Text)
system_asked text = option_map (λ tag. (preferences_of tag).numbering_system) (tag_of (pieces text))

-- case is ignored, and the value is kept in lower case
english_wxyz : system_asked (codes "EN-u-NU-Wxyz") ≡ Some (Some (codes "wxyz"))
unfolding tag_of whole_after headed_after body_after with_piece
english_wxyz = refl

-- the value `true` says nothing, and neither does one of two pieces
no_system : system_asked (codes "ar-eg-u-nu-TRUE") ≡ Some None
unfolding tag_of whole_after headed_after body_after with_piece
no_system = refl

two_pieces : system_asked (codes "en-u-nu-latn-thai") ≡ Some None
unfolding tag_of whole_after headed_after body_after with_piece
two_pieces = refl

-- other keywords, attributes and extensions are beside it
beside_others : system_asked (codes "en-a-foo-u-attr-ca-buddhist-nu-thai-x-bar") ≡ Some (Some (codes "thai"))
unfolding tag_of whole_after headed_after body_after with_piece
beside_others = refl

-- an empty piece, an extension without a piece
not_a_tag : tag_of (pieces (codes "en-")) ≡ None
unfolding tag_of whole_after headed_after body_after with_piece
not_a_tag = refl

not_whole : tag_of (pieces (codes "en-a")) ≡ None
unfolding tag_of whole_after headed_after body_after with_piece
not_whole = refl

-- ---- the locales of a book

abbrev locale_read : Text → Option DataLocaleMeaning
locale_read text = data_locale_of (pieces text)

three_parts : locale_read (codes "ZH-hANT-419") ≡ Some (record { language = codes "zh"; script = Some (codes "Hant"); region = Some (codes "419"); variant = None; subdivision = None })
unfolding data_locale_of tag_of whole_after headed_after body_after with_piece
three_parts = refl

all_parts : locale_read (codes "ca-ES-VALENCIA-u-sd-ESVC") ≡ Some (record {
  language = codes "ca";
  script = None;
  region = Some (codes "ES");
  variant = Some (codes "valencia");
  subdivision = Some (record { region = codes "ES"; suffix = codes "vc" });
})
unfolding data_locale_of tag_of whole_after headed_after body_after with_piece
all_parts = refl

-- a subdivision that does not read, a system, a region override, a second variant
not_read : locale_read (codes "en-u-sd-12a") ≡ None
unfolding data_locale_of tag_of whole_after headed_after body_after with_piece
not_read = refl

not_alone : locale_read (codes "en-u-nu-thai") ≡ None
unfolding data_locale_of tag_of whole_after headed_after body_after with_piece
not_alone = refl

not_overridden : locale_read (codes "en-u-rg-gbzzzz") ≡ None
unfolding data_locale_of tag_of whole_after headed_after body_after with_piece
not_overridden = refl

one_variant_alone : locale_read (codes "de-1996-fonipa") ≡ None
unfolding data_locale_of tag_of whole_after headed_after body_after with_piece
one_variant_alone = refl

-- ---- fields

-- 255 is a size, 256 is not one
largest_size : size_in (number (unsigned 255)) ≡ Some 255
largest_size = refl

too_large : size_in (number (unsigned 256)) ≡ None
too_large = refl

-- only the field of the system asked for may be empty
empty_system : system_or_none_in (string []) ≡ Some []
empty_system = refl

not_empty : system_in (string []) ≡ None
not_empty = refl

upper_case_system : system_in (string (codes "Latn")) ≡ None
upper_case_system = refl

-- ten digits are digits, nine are none
ten_digits : digits_in (string (codes "0123456789")) ≡ Some (codes "0123456789")
unfolding chars is_utf8 encode_utf8
ten_digits = refl

nine_digits : digits_in (string (codes "012345678")) ≡ None
unfolding chars is_utf8 encode_utf8
nine_digits = refl

-- a tab in a symbol
tab_in_symbol : plain_text_in (string (9 ∷ [])) ≡ None
unfolding chars is_utf8 encode_utf8
tab_in_symbol = refl

no_fields : has_count 0 (array no_items) ≡ true
no_fields = refl

-- ---- what a key hashes to

-- the digest of `abc` that RFC 1321 gives in its test suite
abbrev abc_digest : List ℕ
abc_digest =
    0x90 ∷ 0x01 ∷ 0x50 ∷ 0x98 ∷ 0x3c ∷ 0xd2 ∷ 0x4f ∷ 0xb0 ∷ 0xd6 ∷ 0x96 ∷ 0x3f ∷ 0x7d ∷ 0x28 ∷ 0xe1 ∷ 0x7f ∷ 0x72 ∷ []

latn_under_abc : hash_under abc_digest (fed.str (codes "latn")) ≡ 11698808782720541066
unfolding initial write folded_multiply mix_blocks read_short read_u32 read_u64 fed.le_bytes
latn_under_abc = refl

thai_under_abc : hash_under abc_digest (fed.str (codes "thai")) ≡ 10701652591302944543
unfolding initial write folded_multiply mix_blocks read_short read_u32 read_u64 fed.le_bytes
thai_under_abc = refl
