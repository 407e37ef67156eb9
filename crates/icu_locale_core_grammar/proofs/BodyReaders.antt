-- The stages of each kind of extension are a right reader, and so among all kinds.
use Rattle.std.proofs.Common.{◌≡◌, true, false, not, ◌&&◌, List, [], ◌∷◌, ◌++◌, Option, None, Some, option_map, codes, sym, refl, ap, ◌∙◌, subst}
use Rattle.std.specs.Prelude.{if◌then◌else◌, is_none}
use Rattle.std.proofs.Math.Bool.{and-false}
use Rattle.icu_locale_core_grammar.specs.Subtags.{Text, is_single, is_language, is_script, is_region, is_variant, is_attribute, is_key, is_field_key, is_other_piece, is_unicode, is_transform, is_other, lower}
use Rattle.icu_locale_core_grammar.specs.Collections.{contains_text, insert_text}
use Rattle.icu_locale_core_grammar.specs.LanguagePart.{LanguageId, MeansInner}
use Rattle.icu_locale_core_grammar.specs.Meaning.{MeansAttributes, MeansOther, MeansUnicode, MeansTransform, UnicodeMeaning, TransformMeaning, Part, unicode, transform, other, MeansPart}
use Rattle.icu_locale_core_grammar.specs.Stepping.{run, CanEnd, IsReader, InHead, InEntry, headed_after}
use Rattle.icu_locale_core_grammar.specs.TagStages.{only_language, has_none, fits_region, fits_variant, with_script, with_region, with_variant, with_piece, language_after, inner_ends, attributes_after, attributes_end, UnicodeStage, unicode_after, unicode_ends, TransformStage, transform_after, transform_ends, other_after, other_ends, BodyStage, InUnicode, InTransform, InOther, body_after, body_ends, opens}
use Rattle.icu_locale_core_grammar.proofs.SubtagLemmas.{single_no_language, single_no_script, single_no_region, single_no_variant, single_no_value, single_no_other_piece, single_no_key, single_no_field_key, key_no_value, field_key_no_value, field_key_no_language, field_key_no_script, field_key_no_region, field_key_no_variant}
use Rattle.icu_locale_core_grammar.proofs.SingletonLemmas.{unicode_no_transform, unicode_no_other, transform_no_unicode, transform_no_other, unicode_opens, transform_opens, other_opens, Opening, by_unicode, by_transform, by_other, opening}
use Rattle.icu_locale_core_grammar.proofs.SetLemmas.{put_text}
use Rattle.icu_locale_core_grammar.proofs.LanguageReader.{inner_reader}
use Rattle.icu_locale_core_grammar.proofs.ListReaders.{pieces_run, pieces_stand, fold-lower, fold-pushed}
use Rattle.icu_locale_core_grammar.proofs.HeadedReader.{headed_reader, headed_closed, key_opens}
use Rattle.icu_locale_core_grammar.proofs.Embedded.{embedded_goes_on, embedded_reader}

-- ---- attributes, and the pieces of other extensions

attributes_found : (ps : List Text) (s m : List Text) → run attributes_after (Some []) ps ≡ Some s → attributes_end s ≡ Some m → MeansAttributes ps m
attributes_found ps s m e f =
    let same : s ≡ m = cc in
    let g = pieces_stand is_attribute (λ set p. insert_text (lower p) set) [] ps s e in
    record { each = g.0; meant = sym (fold-lower put_text [] ps) ∙ g.1 ∙ same }

attributes_only : (ps m : List Text) → MeansAttributes ps m → (s : List Text) × (run attributes_after (Some []) ps ≡ Some s) × (attributes_end s ≡ Some m)
attributes_only ps m a = (m, pieces_run is_attribute (λ set p. insert_text (lower p) set) [] ps a.each ∙ ap Some (fold-lower put_text [] ps ∙ a.meant), refl)

pub attributes_reader : IsReader attributes_after [] attributes_end MeansAttributes
attributes_reader = record { found = attributes_found; only = attributes_only; goes_on = λ s. ([], s, s, refl, refl) }

other_found : (ps s m : List Text) → run other_after (Some []) ps ≡ Some s → other_ends s ≡ Some m → MeansOther ps m
other_found ps s m e f =
    let same : s ≡ m = cc in
    let g = pieces_stand is_other_piece (λ ws p. ws ++ lower p ∷ []) [] ps s e in
    record { each = g.0; meant = sym (fold-pushed [] ps) ∙ g.1 ∙ same }

other_only : (ps m : List Text) → MeansOther ps m → (s : List Text) × (run other_after (Some []) ps ≡ Some s) × (other_ends s ≡ Some m)
other_only ps m a = (m, pieces_run is_other_piece (λ ws p. ws ++ lower p ∷ []) [] ps a.each ∙ ap Some (fold-pushed [] ps ∙ a.meant), refl)

pub other_reader : IsReader other_after [] other_ends MeansOther
other_reader = record { found = other_found; only = other_only; goes_on = λ s. ([], s, s, refl, refl) }

-- ---- what the heads do not take

attribute_refused : (set : List Text) (p : Text) → is_attribute p ≡ false → attributes_after set p ≡ None
attribute_refused set p e = ap (λ b. if b then Some (insert_text (lower p) set) else None) e

language_refused : (s : Option LanguageId) (p : Text) → is_language p ≡ false → is_script p ≡ false → is_region p ≡ false → is_variant p ≡ false → language_after s p ≡ None
unfolding with_piece
language_refused None p l e f g = ap (λ b. if b then Some (Some (only_language p)) else None) l
language_refused (Some id) p l e f g =
    ap (λ b. option_map Some (if b then Some (with_script id p) else (if fits_region id p then Some (with_region id p) else (if fits_variant id p then Some (with_variant id p) else None))))
    (ap (λ b. (is_none id.script && (is_none id.region && has_none id.variants)) && b) e ∙ and-false (is_none id.script && (is_none id.region && has_none id.variants)))
    ∙ ap (λ b. option_map Some (if b then Some (with_region id p) else (if fits_variant id p then Some (with_variant id p) else None)))
    (ap (λ b. (is_none id.region && has_none id.variants) && b) f ∙ and-false (is_none id.region && has_none id.variants))
    ∙ ap (λ b. option_map Some (if b then Some (with_variant id p) else None)) (ap (λ b. b && not (contains_text (lower p) id.variants)) g)

pub language_closed : (s : Option LanguageId) (p : Text) → is_single p ≡ true → language_after s p ≡ None
language_closed s p e = language_refused s p (single_no_language p e) (single_no_script p e) (single_no_region p e) (single_no_variant p e)

field_key_closed : (s : Option LanguageId) (p : Text) → is_field_key p ≡ true → language_after s p ≡ None
field_key_closed s p e = language_refused s p (field_key_no_language p e) (field_key_no_script p e) (field_key_no_region p e) (field_key_no_variant p e)

-- ---- each kind

pub unicode_reader : IsReader unicode_after (InHead []) unicode_ends MeansUnicode
unicode_reader = headed_reader attributes_after [] attributes_end MeansAttributes is_key false attributes_reader key_no_value (λ s p e. attribute_refused s p (key_no_value p e))

pub transform_reader : IsReader transform_after (InHead None) transform_ends MeansTransform
transform_reader = headed_reader language_after None inner_ends MeansInner is_field_key true inner_reader field_key_no_value field_key_closed

unicode_closed : (s : UnicodeStage) (p : Text) → is_single p ≡ true → unicode_after s p ≡ None
unicode_closed s p e = headed_closed attributes_after attributes_end is_key false (λ t q f. attribute_refused t q (single_no_value q f)) single_no_key s p e

transform_closed : (s : TransformStage) (p : Text) → is_single p ≡ true → transform_after s p ≡ None
transform_closed s p e = headed_closed language_after inner_ends is_field_key true language_closed single_no_field_key s p e

other_closed : (own : List Text) (p : Text) → is_single p ≡ true → other_after own p ≡ None
other_closed own p e = ap (λ b. if b then Some (own ++ lower p ∷ []) else None) (single_no_other_piece p e)

-- ---- among all kinds

unicode_steps : (s : UnicodeStage) (p : Text) → body_after (InUnicode s) p ≡ option_map InUnicode (unicode_after s p)
unfolding body_after
unicode_steps s p = refl

transform_steps : (s : TransformStage) (p : Text) → body_after (InTransform s) p ≡ option_map InTransform (transform_after s p)
unfolding body_after
transform_steps s p = refl

other_steps : (own : List Text) (p : Text) → body_after (InOther own) p ≡ option_map InOther (other_after own p)
unfolding body_after
other_steps own p = refl

pub body_goes_on : CanEnd body_after body_ends
body_goes_on (InUnicode s) = embedded_goes_on unicode_after unicode_ends body_after body_ends InUnicode unicode unicode_steps (λ t. refl) unicode_reader.goes_on s
body_goes_on (InTransform s) = embedded_goes_on transform_after transform_ends body_after body_ends InTransform transform transform_steps (λ t. refl) transform_reader.goes_on s
body_goes_on (InOther own) = embedded_goes_on other_after other_ends body_after body_ends InOther other other_steps (λ t. refl) other_reader.goes_on own

unicode_back : (s : Text) → is_unicode s ≡ true → (ps : List Text) (q : Part) → MeansPart s ps q → (m : UnicodeMeaning) × MeansUnicode ps m × (unicode m ≡ q)
unicode_back s e ps (unicode u) a = (u, a.1, refl)
unicode_back s e ps (transform t) a = let f = unicode_no_transform s e in let g = a.0 in cc
unicode_back s e ps (other own) a = absurd (unicode_no_other s e a.0)

transform_back : (s : Text) → is_transform s ≡ true → (ps : List Text) (q : Part) → MeansPart s ps q → (m : TransformMeaning) × MeansTransform ps m × (transform m ≡ q)
transform_back s e ps (unicode u) a = let f = transform_no_unicode s e in let g = a.0 in cc
transform_back s e ps (transform t) a = (t, a.1, refl)
transform_back s e ps (other own) a = absurd (transform_no_other s e a.0)

other_back : (s : Text) → is_other s ≡ true → (ps : List Text) (q : Part) → MeansPart s ps q → (m : List Text) × MeansOther ps m × (other m ≡ q)
other_back s e ps (unicode u) a = absurd (unicode_no_other s a.0 e)
other_back s e ps (transform t) a = absurd (transform_no_other s a.0 e)
other_back s e ps (other own) a = (own, a.1, refl)

-- after a singleton the pieces of its extension are read right
pub body_reader : (s : Text) (b : BodyStage) → opens s ≡ Some b → IsReader body_after b body_ends (MeansPart s)
body_reader s b e = by_opening (opening s b e)
  where
    by_opening : Opening s b → IsReader body_after b body_ends (MeansPart s)
    by_opening (by_unicode f g) =
        subst (λ c. IsReader body_after c body_ends (MeansPart s)) (sym g)
        (embedded_reader unicode_after unicode_ends body_after body_ends InUnicode unicode unicode_steps (λ t. refl) (InHead []) MeansUnicode unicode_reader (MeansPart s) (λ ps m a. (f, a)) (unicode_back s f) body_goes_on)
    by_opening (by_transform f g) =
        subst (λ c. IsReader body_after c body_ends (MeansPart s)) (sym g)
        (embedded_reader transform_after transform_ends body_after body_ends InTransform transform transform_steps (λ t. refl) (InHead None) MeansTransform transform_reader (MeansPart s) (λ ps m a. (f, a)) (transform_back s f) body_goes_on)
    by_opening (by_other f g) =
        subst (λ c. IsReader body_after c body_ends (MeansPart s)) (sym g)
        (embedded_reader other_after other_ends body_after body_ends InOther other other_steps (λ t. refl) [] MeansOther other_reader (MeansPart s) (λ ps m a. (f, a)) (other_back s f) body_goes_on)

pub body_closed : (b : BodyStage) (p : Text) → is_single p ≡ true → body_after b p ≡ None
body_closed (InUnicode s) p e = unicode_steps s p ∙ ap (option_map InUnicode) (unicode_closed s p e)
body_closed (InTransform s) p e = transform_steps s p ∙ ap (option_map InTransform) (transform_closed s p e)
body_closed (InOther own) p e = other_steps own p ∙ ap (option_map InOther) (other_closed own p e)

-- some piece fits each stage of an extension
pub body_begins : (b : BodyStage) → (p : Text) × (c : BodyStage) × (body_after b p ≡ Some c)
unfolding body_after headed_after
body_begins (InUnicode (InHead set)) = (codes "abc", InUnicode (InHead (insert_text (codes "abc") set)), refl)
body_begins (InUnicode (InEntry h es e full)) = (codes "abc", _, refl)
body_begins (InTransform (InHead s)) =
    (codes "h0", _, ap (option_map InTransform) (key_opens language_after None inner_ends MeansInner is_field_key true inner_reader field_key_no_value field_key_closed s s (codes "h0") refl refl))
body_begins (InTransform (InEntry h es e full)) = (codes "abc", _, refl)
body_begins (InOther own) = (codes "abc", InOther (own ++ codes "abc" ∷ []), refl)

pub opened_by : (s : Text) (ps : List Text) (q : Part) → MeansPart s ps q → (b : BodyStage) × (opens s ≡ Some b)
opened_by s ps (unicode u) a = (InUnicode (InHead []), unicode_opens s a.0)
opened_by s ps (transform t) a = (InTransform (InHead None), transform_opens s a.0)
opened_by s ps (other own) a = (InOther [], other_opens s a.0)
