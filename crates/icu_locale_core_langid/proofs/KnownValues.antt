-- The steps along the pieces of known texts, and whether reading them may allocate.
use Rattle.std.proofs.Common.{◌≡◌, true, false, List, Option, None, Some, codes, refl}
use Rattle.icu_locale_core_grammar.specs.Subtags.{Text}
use Rattle.icu_locale_core_grammar.specs.LanguagePart.{LanguageId}
use Rattle.icu_locale_core_grammar.specs.Pieces.{pieces}
use Rattle.icu_locale_core_grammar.specs.Stepping.{run}
use Rattle.icu_locale_core_grammar.specs.TagStages.{with_piece}
use Rattle.icu_locale_core_grammar.specs.SingleVariant.{SingleStage, InLanguage, AfterUnicode, AfterKey, AfterValue, single_after}
use Rattle.icu_locale_core_langid.specs.OneVariant.{one_variant, one_variant_after}
use Rattle.icu_locale_core_langid.specs.Allocation.{may_grow}

abbrev stages : List Text → Option SingleStage
stages ps = run single_after (Some (InLanguage None)) ps

abbrev parts : List Text → Option (Option LanguageId)
parts ps = run one_variant_after (Some None) ps

-- identifiers that the rows have
abbrev pub english : LanguageId
english = one_variant (codes "en") None None None

abbrev pub american : LanguageId
american = one_variant (codes "en") None (Some (codes "US")) None

abbrev pub phonetic : LanguageId
phonetic = one_variant (codes "en") (Some (codes "Latn")) (Some (codes "US")) (Some (codes "fonipa"))

abbrev pub german : LanguageId
german = one_variant (codes "de") None None (Some (codes "1996"))

-- ---- whole tags

pub keyword : stages (pieces (codes "EN-us-u-NU-Thai")) ≡ Some (AfterValue american (codes "nu") (Some (codes "thai")))
unfolding single_after with_piece
keyword = refl

pub true_is_no_value : stages (pieces (codes "en-u-nu-true")) ≡ Some (AfterValue english (codes "nu") None)
unfolding single_after with_piece
true_is_no_value = refl

pub key_alone : stages (pieces (codes "en-u-nu")) ≡ Some (AfterKey english (codes "nu"))
unfolding single_after with_piece
key_alone = refl

pub after_value : stages (pieces (codes "en-u-nu-thai")) ≡ Some (AfterValue english (codes "nu") (Some (codes "thai")))
unfolding single_after with_piece
after_value = refl

pub behind_unicode : stages (pieces (codes "en-u")) ≡ Some (AfterUnicode english)
unfolding single_after with_piece
behind_unicode = refl

pub after_variant : stages (pieces (codes "de-1996")) ≡ Some (InLanguage (Some german))
unfolding single_after with_piece
after_variant = refl

pub behind_language : stages (pieces (codes "en")) ≡ Some (InLanguage (Some english))
unfolding single_after with_piece
behind_language = refl

-- ---- pieces that do not fit

pub second_variant : single_after (InLanguage (Some german)) (codes "fonipa") ≡ None
unfolding single_after with_piece
second_variant = refl

pub no_transform : single_after (InLanguage (Some english)) (codes "t") ≡ None
unfolding single_after with_piece
no_transform = refl

pub no_attribute : single_after (AfterUnicode english) (codes "foo") ≡ None
unfolding single_after
no_attribute = refl

pub no_second : (k : Text) (v : Option Text) (p : Text) → single_after (AfterValue english k v) p ≡ None
unfolding single_after
no_second k v p = refl

pub no_first : single_after (InLanguage None) (codes "") ≡ None
unfolding single_after
no_first = refl

-- ---- language parts

pub whole_part : parts (pieces (codes "EN-latn-us-FONIPA")) ≡ Some (Some phonetic)
unfolding with_piece
whole_part = refl

pub american_part : parts (pieces (codes "en-US")) ≡ Some (Some american)
unfolding with_piece
american_part = refl

pub german_part : parts (pieces (codes "de-1996")) ≡ Some (Some german)
unfolding with_piece
german_part = refl

pub english_part : parts (pieces (codes "en")) ≡ Some (Some english)
unfolding with_piece
english_part = refl

pub american_ends : one_variant_after (Some american) (codes "u") ≡ None
unfolding with_piece
american_ends = refl

pub german_ends : one_variant_after (Some german) (codes "fonipa") ≡ None
unfolding with_piece
german_ends = refl

pub english_ends : one_variant_after (Some english) (codes "t") ≡ None
unfolding with_piece
english_ends = refl

-- ---- no memory

pub language_alone : may_grow (pieces (codes "de")) ≡ false
unfolding with_piece
language_alone = refl

pub script_and_region : may_grow (pieces (codes "zh-Hant-TW")) ≡ false
unfolding with_piece
script_and_region = refl

-- a piece at fault is before the variant
pub fault_before_variant : may_grow (pieces (codes "de-toolongpiece-1996")) ≡ false
unfolding with_piece
fault_before_variant = refl

pub no_language_before_variant : may_grow (pieces (codes "abcd-1996")) ≡ false
unfolding with_piece
no_language_before_variant = refl

-- what has the form of a variant is after a singleton
pub value_of_keyword : may_grow (pieces (codes "en-u-ca-buddhist")) ≡ false
unfolding with_piece
value_of_keyword = refl

pub private_subtag : may_grow (pieces (codes "de-x-1996")) ≡ false
unfolding with_piece
private_subtag = refl

pub private_alone : may_grow (pieces (codes "de-x")) ≡ false
unfolding with_piece
private_alone = refl

-- ---- memory

pub variant_kept : may_grow (pieces (codes "de-1996")) ≡ true
unfolding with_piece
variant_kept = refl

pub variant_after_region : may_grow (pieces (codes "zh-Hant-TW-pinyin")) ≡ true
unfolding with_piece
variant_after_region = refl

-- a variant is taken before the fault
pub fault_after_variant : may_grow (pieces (codes "en-1996-toolongpiece")) ≡ true
unfolding with_piece
fault_after_variant = refl

pub repeated_variant : may_grow (pieces (codes "de-1996-1996")) ≡ true
unfolding with_piece
repeated_variant = refl
