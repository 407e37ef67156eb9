-- The pieces of a tag are letters and digits, so a tag's text, cut at its hyphens, gives them back.
use Rattle.std.proofs.Common.{◌≡◌, ℕ, Bool, true, false, not, ◌&&◌, List, [], ◌∷◌, ◌++◌, Option, None, Some, refl, ap, ◌∙◌, append-nil, arith}
use Rattle.std.specs.Prelude.{if◌then◌else◌, is_none}
use Rattle.std.specs.List.{AllByRecursion, join_with_byte}
use Rattle.std.specs.Char.{is_ascii_alphanumeric}
use Rattle.std.proofs.lemmas.Bool.{and_parts}
use Rattle.std.proofs.lemmas.Bool.Decides.{nat_tests}
use Rattle.std.proofs.lemmas.List.Elements.{All-from_recursion}
use Rattle.std.proofs.lemmas.List.Splits.{slice_split_none, slice_split_at, join_with_byte-slice_split}
use Rattle.icu_locale_core_grammar.specs.Subtags.{Text, is_plain, is_language, is_script, is_region, is_variant, is_attribute, is_value, is_key, is_field_key, is_other_piece, is_private, is_private_piece, lower}
use Rattle.icu_locale_core_grammar.specs.Pieces.{hyphen, is_hyphen, pieces, joined_text}
use Rattle.icu_locale_core_grammar.specs.Collections.{Entry, Each, put_first, contains_text, insert_text}
use Rattle.icu_locale_core_grammar.specs.LanguagePart.{LanguageId}
use Rattle.icu_locale_core_grammar.specs.Meaning.{TagMeaning, MeansTag, ExtensionMeanings, Part, put_part, no_extensions}
use Rattle.icu_locale_core_grammar.specs.Stepping.{run, IsReader, HeadedStage, InHead, InEntry, with_value, after_head, headed_after, InFront, AtBlock, InBlock, InPrivate, after_front, at_block, after_block, whole_after}
use Rattle.icu_locale_core_grammar.specs.TagStages.{only_language, has_none, fits_script, fits_region, fits_variant, with_script, with_region, with_variant, with_piece, language_after, language_ends, inner_ends, attributes_after, attributes_end, unicode_after, transform_after, other_after, BodyStage, InUnicode, InTransform, InOther, body_after, body_ends, opens, TagStage, opened_at, tag_after}
use Rattle.icu_locale_core_grammar.proofs.ListLemmas.{mapped_some}
use Rattle.icu_locale_core_grammar.proofs.PlainSubtags.{characters_plain, language_plain, script_plain, region_plain, variant_plain, key_plain, field_key_plain, private_plain, opens_plain}
use Rattle.icu_locale_core_grammar.proofs.Runs.{first_step}
use Rattle.icu_locale_core_grammar.proofs.TagReader.{tag_reader}

-- ---- a step takes letters and digits alone

-- a test that was passed on the way
pub passed : {A : Type 0} (b : Bool) (x t : A) → (if b then Some x else None) ≡ Some t → b ≡ true
passed true x t e = refl
passed false x t e = cc

piece_takes : (id : LanguageId) (p : Text) (t : LanguageId) → with_piece id p ≡ Some t → is_plain p ≡ true
unfolding with_piece
piece_takes id p t e = by_tests (fits_script id p) (fits_region id p) (fits_variant id p) refl refl refl e
  where
    by_tests : (a b c : Bool) → fits_script id p ≡ a → fits_region id p ≡ b → fits_variant id p ≡ c
        → (if a then Some (with_script id p) else (if b then Some (with_region id p) else (if c then Some (with_variant id p) else None))) ≡ Some t → is_plain p ≡ true
    by_tests true b c f g h q = script_plain p (and_parts (is_none id.script && (is_none id.region && has_none id.variants)) (is_script p) f).1
    by_tests false true c f g h q = region_plain p (and_parts (is_none id.region && has_none id.variants) (is_region p) g).1
    by_tests false false true f g h q = variant_plain p (and_parts (is_variant p) (not (contains_text (lower p) id.variants)) h).0
    by_tests false false false f g h q = cc

pub language_takes : (s : Option LanguageId) (p : Text) (t : Option LanguageId) → language_after s p ≡ Some t → is_plain p ≡ true
language_takes None p t e = language_plain p (passed (is_language p) (Some (only_language p)) t e)
language_takes (Some id) p t e = let f = mapped_some Some (with_piece id p) t e in piece_takes id p f.0 f.1

module _ {S H : Type 0} (step : S → Text → Option S) (ends : S → Option H) (is_key : Text → Bool) (needs : Bool)
    (takes : (s : S) (p : Text) (t : S) → step s p ≡ Some t → is_plain p ≡ true) (plain_key : (p : Text) → is_key p ≡ true → is_plain p ≡ true) where
  head_takes : (s : S) (p : Text) (t : HeadedStage S H) (o : Option S) (h : Option H) → step s p ≡ o → after_head step ends is_key needs o h p ≡ Some t → is_plain p ≡ true
  head_takes s p t (Some u) h e q = takes s p u e
  head_takes s p t None (Some h) e q = plain_key p (passed (is_key p) (InEntry h [] (lower p, []) (not needs)) t q)
  head_takes s p t None None e q = cc

  entry_takes : (h : H) (es : List Entry) (e : Entry) (full : Bool) (p : Text) (t : HeadedStage S H) (b : Bool) → is_value p ≡ b
      → (if b then Some (InEntry h es (with_value e p) true) else (if full && is_key p then Some (InEntry h (put_first e es) (lower p, []) (not needs)) else None)) ≡ Some t → is_plain p ≡ true
  entry_takes h es e full p t true f q = characters_plain 3 8 p f
  entry_takes h es e full p t false f q = plain_key p (and_parts full (is_key p) (passed (full && is_key p) (InEntry h (put_first e es) (lower p, []) (not needs)) t q)).1

  pub headed_takes : (s : HeadedStage S H) (p : Text) (t : HeadedStage S H) → headed_after step ends is_key needs s p ≡ Some t → is_plain p ≡ true
  unfolding headed_after
  headed_takes (InHead s) p t e = head_takes s p t (step s p) (ends s) refl e
  headed_takes (InEntry h es e full) p t q = entry_takes h es e full p t (is_value p) refl q

pub attributes_take : (set : List Text) (p : Text) (t : List Text) → attributes_after set p ≡ Some t → is_plain p ≡ true
attributes_take set p t e = characters_plain 3 8 p (passed (is_attribute p) (insert_text (lower p) set) t e)

body_takes : (b : BodyStage) (p : Text) (t : BodyStage) → body_after b p ≡ Some t → is_plain p ≡ true
unfolding body_after
body_takes (InUnicode s) p t e = let f = mapped_some InUnicode (unicode_after s p) t e in headed_takes attributes_after attributes_end is_key false attributes_take key_plain s p f.0 f.1
body_takes (InTransform s) p t e = let f = mapped_some InTransform (transform_after s p) t e in headed_takes language_after inner_ends is_field_key true language_takes field_key_plain s p f.0 f.1
body_takes (InOther own) p t e =
    let f = mapped_some InOther (other_after own p) t e in
    characters_plain 2 8 p (passed (is_other_piece p) (own ++ lower p ∷ []) f.0 f.1)

next_takes : (id : LanguageId) (seen : List Text) (e : ExtensionMeanings) (p : Text) (t : TagStage) (x r : Bool) (o : Option BodyStage) → is_private p ≡ x → opens p ≡ o
    → (if x then Some (InPrivate id e []) else (if r then None else opened_at id seen e (lower p) o)) ≡ Some t → is_plain p ≡ true
next_takes id seen e p t true r o f g q = private_plain p f
next_takes id seen e p t false true o f g q = cc
next_takes id seen e p t false false None f g q = cc
next_takes id seen e p t false false (Some b) f g q = opens_plain p b g

front_takes : (l : Option LanguageId) (p : Text) (t : TagStage) (o : Option (Option LanguageId)) (id : Option LanguageId) → language_after l p ≡ o
    → after_front language_after language_ends body_after body_ends opens put_part no_extensions is_private is_private_piece o id p ≡ Some t → is_plain p ≡ true
front_takes l p t (Some m) id e q = language_takes l p m e
front_takes l p t None (Some id) e q = next_takes id [] no_extensions p t (is_private p) (contains_text (lower p) []) (opens p) refl refl q
front_takes l p t None None e q = cc

first_takes : (id : LanguageId) (seen : List Text) (e : ExtensionMeanings) (k : Text) (b : BodyStage) (p : Text) (t : TagStage) (o : Option BodyStage) → body_after b p ≡ o
    → at_block language_after language_ends body_after body_ends opens put_part no_extensions is_private is_private_piece id seen e k o ≡ Some t → is_plain p ≡ true
first_takes id seen e k b p t None f q = cc
first_takes id seen e k b p t (Some c) f q = body_takes b p c f

block_takes : (id : LanguageId) (seen : List Text) (e : ExtensionMeanings) (k : Text) (b : BodyStage) (p : Text) (t : TagStage) (o : Option BodyStage) (v : Option Part) → body_after b p ≡ o
    → after_block language_after language_ends body_after body_ends opens put_part no_extensions is_private is_private_piece id seen e k o v p ≡ Some t → is_plain p ≡ true
block_takes id seen e k b p t (Some c) v f q = body_takes b p c f
block_takes id seen e k b p t None (Some v) f q =
    next_takes id (seen ++ k ∷ []) (put_part k v e) p t (is_private p) (contains_text (lower p) (seen ++ k ∷ [])) (opens p) refl refl q
block_takes id seen e k b p t None None f q = cc

tag_takes : (s : TagStage) (p : Text) (t : TagStage) → tag_after s p ≡ Some t → is_plain p ≡ true
unfolding whole_after
tag_takes (InFront l) p t q = front_takes l p t (language_after l p) (language_ends l) refl q
tag_takes (AtBlock id seen e k b) p t q = first_takes id seen e k b p t (body_after b p) refl q
tag_takes (InBlock id seen e k b) p t q = block_takes id seen e k b p t (body_after b p) (body_ends b) refl q
tag_takes (InPrivate id e own) p t q = characters_plain 1 8 p (passed (is_private_piece p) (InPrivate id e (own ++ lower p ∷ [])) t q)

-- what a reader accepts, then, is letters and digits
pub plain_read : {S M : Type 0} {step : S → Text → Option S} {start : S} {ends : S → Option M} {Means : List Text → M → Type 0} → IsReader step start ends Means
    → ((s : S) (p : Text) (t : S) → step s p ≡ Some t → is_plain p ≡ true) → (ps : List Text) (m : M) → Means ps m → Each is_plain ps
plain_read {S} {M} {step} {start} {ends} {Means} right takes ps m a = let r = right.only ps m a in along ps start r.0 r.1
  where
    along : (ps : List Text) (s t : S) → run step (Some s) ps ≡ Some t → Each is_plain ps
    along [] s t e = tt
    along (p ∷ ps) s t e = let f = first_step step s t p ps e in (takes s p f.0 f.1, along ps f.0 t f.2)

pub tag_plain : (ps : List Text) (m : TagMeaning) → MeansTag ps m → Each is_plain ps
tag_plain = plain_read tag_reader tag_takes

-- ---- texts

character_no_hyphen : (c : ℕ) → is_ascii_alphanumeric c ≡ true → is_hyphen c ≡ false
character_no_hyphen c e = grind (arith, nat_tests)

no_hyphen : (p : Text) → is_plain p ≡ true → AllByRecursion (λ c. is_hyphen c ≡ false) p
no_hyphen [] e = tt
no_hyphen (c ∷ cs) e = let f = and_parts (is_ascii_alphanumeric c) (is_plain cs) e in (character_no_hyphen c f.0, no_hyphen cs f.1)

-- the pieces of a text that was joined
pub pieces-joined : (p : Text) (ps : List Text) → Each is_plain (p ∷ ps) → pieces (joined_text (p ∷ ps)) ≡ p ∷ ps
pieces-joined p [] each =
    ap pieces (append-nil p) ∙ slice_split_none is_hyphen p (All-from_recursion (λ c. is_hyphen c ≡ false) p (no_hyphen p each.0))
pieces-joined p (q ∷ qs) each =
    slice_split_at is_hyphen p hyphen (joined_text (q ∷ qs)) (All-from_recursion (λ c. is_hyphen c ≡ false) p (no_hyphen p each.0)) refl
    ∙ ap (λ l. p ∷ l) (pieces-joined q qs each.1)

-- the text of the pieces of a text
joined_as : (p : Text) (ps : List Text) → joined_text (p ∷ ps) ≡ join_with_byte hyphen (p ∷ ps)
joined_as p [] = append-nil p
joined_as p (q ∷ qs) = ap (λ l. p ++ (hyphen ∷ l)) (joined_as q qs)

joined_all : (ps : List Text) → joined_text ps ≡ join_with_byte hyphen ps
joined_all [] = refl
joined_all (p ∷ ps) = joined_as p ps

pub joined-pieces : (text : Text) → joined_text (pieces text) ≡ text
joined-pieces text = joined_all (pieces text) ∙ join_with_byte-slice_split hyphen text
