-- The definitions at known tags.
use Rattle.std.proofs.Common.{◌≡◌, true, false, codes, refl}
use Rattle.icu_locale_core_grammar.specs.Pieces.{pieces}
use Rattle.icu_locale_core_grammar.specs.Stepping.{headed_after, whole_after}
use Rattle.icu_locale_core_grammar.specs.TagStages.{with_piece, body_after}
use Rattle.icu_locale_core_locale.specs.Allocation.{tag_may_grow}

-- ---- no memory

-- a singleton alone, and a piece at fault right after it
pub singleton_alone : tag_may_grow (pieces (codes "en-u")) ≡ false
unfolding whole_after headed_after body_after with_piece
singleton_alone = refl

pub fault_after_singleton : tag_may_grow (pieces (codes "en-u-toolongpiece")) ≡ false
unfolding whole_after headed_after body_after with_piece
fault_after_singleton = refl

pub private_alone : tag_may_grow (pieces (codes "en-x")) ≡ false
unfolding whole_after headed_after body_after with_piece
private_alone = refl

pub singleton_after_singleton : tag_may_grow (pieces (codes "en-a-b")) ≡ false
unfolding whole_after headed_after body_after with_piece
singleton_after_singleton = refl

-- a language of `t`, and a key of `t` without a value
pub inner_language : tag_may_grow (pieces (codes "en-t-de-Latn")) ≡ false
unfolding whole_after headed_after body_after with_piece
inner_language = refl

pub field_without_value : tag_may_grow (pieces (codes "en-t-de-k0")) ≡ false
unfolding whole_after headed_after body_after with_piece
field_without_value = refl

pub after_inner_language : tag_may_grow (pieces (codes "en-t-de-u")) ≡ false
unfolding whole_after headed_after body_after with_piece
after_inner_language = refl

-- a piece at fault is before what would want memory
pub fault_before_variant : tag_may_grow (pieces (codes "de-toolongpiece-1996")) ≡ false
unfolding whole_after headed_after body_after with_piece
fault_before_variant = refl

pub fault_before_extension : tag_may_grow (pieces (codes "de-toolongpiece-u-ca-buddhist")) ≡ false
unfolding whole_after headed_after body_after with_piece
fault_before_extension = refl

-- a piece at fault after a keyword, which is then not kept
pub fault_after_keyword : tag_may_grow (pieces (codes "en-u-nu-toolongpiece")) ≡ false
unfolding whole_after headed_after body_after with_piece
fault_after_keyword = refl

-- ---- memory

pub keyword_kept : tag_may_grow (pieces (codes "en-u-ca")) ≡ true
unfolding whole_after headed_after body_after with_piece
keyword_kept = refl

pub value_kept : tag_may_grow (pieces (codes "en-u-ca-buddhist")) ≡ true
unfolding whole_after headed_after body_after with_piece
value_kept = refl

pub attribute_kept : tag_may_grow (pieces (codes "en-u-foo")) ≡ true
unfolding whole_after headed_after body_after with_piece
attribute_kept = refl

pub private_kept : tag_may_grow (pieces (codes "de-x-a")) ≡ true
unfolding whole_after headed_after body_after with_piece
private_kept = refl

pub variant_kept : tag_may_grow (pieces (codes "de-1996")) ≡ true
unfolding whole_after headed_after body_after with_piece
variant_kept = refl

-- memory is wanted before the fault
pub fault_after_value : tag_may_grow (pieces (codes "en-u-ca-buddhist-toolongpiece")) ≡ true
unfolding whole_after headed_after body_after with_piece
fault_after_value = refl
