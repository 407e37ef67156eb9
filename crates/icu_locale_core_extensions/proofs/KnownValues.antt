-- Whether reading known extensions, with their singleton, may allocate.
use Rattle.std.proofs.Common.{◌≡◌, true, false, codes, refl}
use Rattle.icu_locale_core_grammar.specs.Subtags.{is_unicode, is_transform}
use Rattle.icu_locale_core_grammar.specs.Pieces.{pieces}
use Rattle.icu_locale_core_grammar.specs.Stepping.{headed_after}
use Rattle.icu_locale_core_grammar.specs.TagStages.{with_piece}
use Rattle.icu_locale_core_extensions.specs.Allocation.{unicode_may_grow, transform_may_grow, grows_after}

-- ---- nothing allocated

pub unicode_alone : grows_after is_unicode unicode_may_grow (pieces (codes "u")) ≡ false
unfolding headed_after with_piece
unicode_alone = refl

pub fault_after_key : grows_after is_unicode unicode_may_grow (pieces (codes "u-nu-toolongpiece")) ≡ false
unfolding headed_after with_piece
fault_after_key = refl

-- `true` is left out of a value
pub fault_after_true : grows_after is_unicode unicode_may_grow (pieces (codes "u-nu-true-toolongpiece")) ≡ false
unfolding headed_after with_piece
fault_after_true = refl

pub field_fault_after_true : grows_after is_transform transform_may_grow (pieces (codes "t-k0-true-toolongpiece")) ≡ false
unfolding headed_after with_piece
field_fault_after_true = refl

pub other_singleton : grows_after is_unicode unicode_may_grow (pieces (codes "t-foo")) ≡ false
unfolding headed_after with_piece
other_singleton = refl

pub inner_language : grows_after is_transform transform_may_grow (pieces (codes "t-de-Latn")) ≡ false
unfolding headed_after with_piece
inner_language = refl

pub fault_before_variant : grows_after is_transform transform_may_grow (pieces (codes "t-de-toolongpiece-1996")) ≡ false
unfolding headed_after with_piece
fault_before_variant = refl

pub field_without_value : grows_after is_transform transform_may_grow (pieces (codes "t-de-k0")) ≡ false
unfolding headed_after with_piece
field_without_value = refl

-- ---- allocated

pub attribute_kept : grows_after is_unicode unicode_may_grow (pieces (codes "u-foo")) ≡ true
unfolding headed_after with_piece
attribute_kept = refl

pub keyword_kept : grows_after is_unicode unicode_may_grow (pieces (codes "u-nu")) ≡ true
unfolding headed_after with_piece
keyword_kept = refl

pub value_kept : grows_after is_unicode unicode_may_grow (pieces (codes "u-nu-thai")) ≡ true
unfolding headed_after with_piece
value_kept = refl

pub variant_kept : grows_after is_transform transform_may_grow (pieces (codes "t-de-1996")) ≡ true
unfolding headed_after with_piece
variant_kept = refl

pub field_kept : grows_after is_transform transform_may_grow (pieces (codes "t-k0-true")) ≡ true
unfolding headed_after with_piece
field_kept = refl

-- before the fault
pub fault_after_keyword : grows_after is_unicode unicode_may_grow (pieces (codes "u-nu-ca-toolongpiece")) ≡ true
unfolding headed_after with_piece
fault_after_keyword = refl

pub fault_after_variant : grows_after is_transform transform_may_grow (pieces (codes "t-de-1996-toolongpiece")) ≡ true
unfolding headed_after with_piece
fault_after_variant = refl
