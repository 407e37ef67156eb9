-- Case is ignored: a step takes a piece in lower case just as the piece itself, so a tag in any case means the same.
use Rattle.std.proofs.Common.{◌≡◌, Bool, true, false, not, ◌&&◌, List, [], ◌∷◌, ◌++◌, Option, None, Some, map, option_map, sym, refl, ap, ◌∙◌}
use Rattle.std.specs.Prelude.{if◌then◌else◌, is_none}
use Rattle.std.specs.Char.{to_ascii_lowercase}
use Rattle.icu_locale_core_grammar.specs.Subtags.{Text, is_private, is_private_piece, is_key, is_field_key, true_text, private_text, unicode_text, transform_text, lower}
use Rattle.icu_locale_core_grammar.specs.Collections.{Entry, contains_text, insert_text, put_first}
use Rattle.icu_locale_core_grammar.specs.LanguagePart.{LanguageId, MeansLanguage}
use Rattle.icu_locale_core_grammar.specs.Meaning.{TagMeaning, MeansTag, ExtensionMeanings, Part, put_part, no_extensions}
use Rattle.icu_locale_core_grammar.specs.Stepping.{run, IsReader, HeadedStage, InHead, InEntry, with_value, after_head, headed_after, InFront, AtBlock, InBlock, InPrivate, after_front, at_block, after_block, whole_after}
use Rattle.icu_locale_core_grammar.specs.TagStages.{has_none, with_piece, language_after, language_ends, inner_ends, attributes_after, attributes_end, other_after, BodyStage, InUnicode, InTransform, InOther, body_after, body_ends, opens, TagStage, tag_start, opened_at, stage_behind, tag_after}
use Rattle.icu_locale_core_grammar.proofs.CaseLemmas.{lower_keeps, characters_changed, language_changed, script_changed, region_changed, variant_changed, key_changed, field_key_changed, lower-lower, lowered_twice, title-lower, upper-lower, spells_lower, other_lower}
use Rattle.icu_locale_core_grammar.proofs.LanguageReader.{language_reader}
use Rattle.icu_locale_core_grammar.proofs.TagReader.{tag_reader}

-- ---- runs of steps that ignore case

module _ {S : Type 0} (step : S → Text → Option S) (ignores : (s : S) (p : Text) → step s (lower p) ≡ step s p) where
  pub run_lower : (s : Option S) (ps : List Text) → run step s (map lower ps) ≡ run step s ps
  run_lower None ps = refl
  run_lower (Some s) [] = refl
  run_lower (Some s) (p ∷ ps) = ap (λ o. run step o (map lower ps)) (ignores s p) ∙ run_lower (step s p) ps

  -- lists that are one in lower case mean the same
  pub alike_means : {M : Type 0} (start : S) (ends : S → Option M) (Means : List Text → M → Type 0) → IsReader step start ends Means → (ps qs : List Text) (m : M) → map lower ps ≡ map lower qs → Means ps m → Means qs m
  alike_means start ends Means right ps qs m e a =
      let r = right.only ps m a in
      right.found qs r.0 m (sym (run_lower (Some start) qs) ∙ sym (ap (run step (Some start)) e) ∙ run_lower (Some start) ps ∙ r.1) r.2

-- ---- the language part

piece_ignores : (id : LanguageId) (p : Text) → with_piece id (lower p) ≡ with_piece id p
unfolding with_piece
piece_ignores id p = λ i.
    if (is_none id.script && (is_none id.region && has_none id.variants)) && script_changed to_ascii_lowercase lower_keeps p i then Some (record { language = id.language; script = Some (title-lower p i); region = id.region; variants = id.variants })
    else (if (is_none id.region && has_none id.variants) && region_changed to_ascii_lowercase lower_keeps p i then Some (record { language = id.language; script = id.script; region = Some (upper-lower p i); variants = id.variants })
    else (if variant_changed to_ascii_lowercase lower_keeps p i && not (contains_text (lower-lower p i) id.variants) then Some (record { language = id.language; script = id.script; region = id.region; variants = insert_text (lower-lower p i) id.variants }) else None))

pub language_ignores : (s : Option LanguageId) (p : Text) → language_after s (lower p) ≡ language_after s p
language_ignores None p = λ i. if language_changed to_ascii_lowercase lower_keeps p i then Some (Some (record { language = lower-lower p i; script = None; region = None; variants = [] })) else None
language_ignores (Some id) p = ap (option_map Some) (piece_ignores id p)

-- the language part in lower case
pub language_lower : (ps : List Text) (id : LanguageId) → MeansLanguage ps id → MeansLanguage (map lower ps) id
language_lower ps id a = alike_means language_after language_ignores None language_ends MeansLanguage language_reader ps (map lower ps) id (sym (lowered_twice ps)) a

-- ---- extensions

attributes_ignore : (set : List Text) (p : Text) → attributes_after set (lower p) ≡ attributes_after set p
attributes_ignore set p = λ i. if characters_changed to_ascii_lowercase lower_keeps 3 8 p i then Some (insert_text (lower-lower p i) set) else None

other_ignores : (own : List Text) (p : Text) → other_after own (lower p) ≡ other_after own p
other_ignores own p = λ i. if characters_changed to_ascii_lowercase lower_keeps 2 8 p i then Some (own ++ lower-lower p i ∷ []) else None

module _ {S H : Type 0} (step : S → Text → Option S) (ends : S → Option H) (is_key : Text → Bool) (needs : Bool)
    (ignores : (s : S) (p : Text) → step s (lower p) ≡ step s p) (key_ignores : (p : Text) → is_key (lower p) ≡ is_key p) where
  head_ignores : (o : Option S) (h : Option H) (p : Text) → after_head step ends is_key needs o h (lower p) ≡ after_head step ends is_key needs o h p
  head_ignores (Some s) h p = refl
  head_ignores None (Some h) p = λ i. if key_ignores p i then Some (InEntry h [] (lower-lower p i, []) (not needs)) else None
  head_ignores None None p = refl

  value_ignores : (e : Entry) (p : Text) → with_value e (lower p) ≡ with_value e p
  value_ignores e p = λ i. (e.0, (if spells_lower true_text p i then e.1 else e.1 ++ lower-lower p i ∷ []))

  pub headed_ignores : (s : HeadedStage S H) (p : Text) → headed_after step ends is_key needs s (lower p) ≡ headed_after step ends is_key needs s p
  unfolding headed_after
  headed_ignores (InHead s) p = ap (λ o. after_head step ends is_key needs o (ends s) (lower p)) (ignores s p) ∙ head_ignores (step s p) (ends s) p
  headed_ignores (InEntry h es e full) p = λ i.
      if characters_changed to_ascii_lowercase lower_keeps 3 8 p i then Some (InEntry h es (value_ignores e p i) true)
      else (if full && key_ignores p i then Some (InEntry h (put_first e es) (lower-lower p i, []) (not needs)) else None)

body_ignores : (b : BodyStage) (p : Text) → body_after b (lower p) ≡ body_after b p
unfolding body_after
body_ignores (InUnicode s) p = ap (option_map InUnicode) (headed_ignores attributes_after attributes_end is_key false attributes_ignore (key_changed to_ascii_lowercase lower_keeps) s p)
body_ignores (InTransform s) p = ap (option_map InTransform) (headed_ignores language_after inner_ends is_field_key true language_ignores (field_key_changed to_ascii_lowercase lower_keeps) s p)
body_ignores (InOther own) p = ap (option_map InOther) (other_ignores own p)

-- ---- whole tags

opens_ignores : (p : Text) → opens (lower p) ≡ opens p
opens_ignores p = λ i.
    if spells_lower unicode_text p i then Some (InUnicode (InHead []))
    else (if spells_lower transform_text p i then Some (InTransform (InHead None))
    else (if other_lower p i then Some (InOther []) else None))

next_ignores : (id : LanguageId) (seen : List Text) (e : ExtensionMeanings) (p : Text) → stage_behind id seen e (lower p) ≡ stage_behind id seen e p
next_ignores id seen e p = λ i.
    if spells_lower private_text p i then Some (InPrivate id e [])
    else (if contains_text (lower-lower p i) seen then None else opened_at id seen e (lower-lower p i) (opens_ignores p i))

front_ignores : (o : Option (Option LanguageId)) (id : Option LanguageId) (p : Text)
    → after_front language_after language_ends body_after body_ends opens put_part no_extensions is_private is_private_piece o id (lower p) ≡ after_front language_after language_ends body_after body_ends opens put_part no_extensions is_private is_private_piece o id p
front_ignores (Some l) id p = refl
front_ignores None (Some id) p = next_ignores id [] no_extensions p
front_ignores None None p = refl

block_ignores : (id : LanguageId) (seen : List Text) (e : ExtensionMeanings) (k : Text) (o : Option BodyStage) (v : Option Part) (p : Text)
    → after_block language_after language_ends body_after body_ends opens put_part no_extensions is_private is_private_piece id seen e k o v (lower p) ≡ after_block language_after language_ends body_after body_ends opens put_part no_extensions is_private is_private_piece id seen e k o v p
block_ignores id seen e k (Some b) v p = refl
block_ignores id seen e k None (Some v) p = next_ignores id (seen ++ k ∷ []) (put_part k v e) p
block_ignores id seen e k None None p = refl

pub tag_ignores : (s : TagStage) (p : Text) → tag_after s (lower p) ≡ tag_after s p
unfolding whole_after
tag_ignores (InFront l) p =
    ap (λ o. after_front language_after language_ends body_after body_ends opens put_part no_extensions is_private is_private_piece o (language_ends l) (lower p)) (language_ignores l p) ∙ front_ignores (language_after l p) (language_ends l) p
tag_ignores (AtBlock id seen e k b) p = ap (at_block language_after language_ends body_after body_ends opens put_part no_extensions is_private is_private_piece id seen e k) (body_ignores b p)
tag_ignores (InBlock id seen e k b) p =
    ap (λ o. after_block language_after language_ends body_after body_ends opens put_part no_extensions is_private is_private_piece id seen e k o (body_ends b) (lower p)) (body_ignores b p) ∙ block_ignores id seen e k (body_after b p) (body_ends b) p
tag_ignores (InPrivate id e own) p = λ i. if characters_changed to_ascii_lowercase lower_keeps 1 8 p i then Some (InPrivate id e (own ++ lower-lower p i ∷ [])) else None

pub case_ignored : (ps qs : List Text) (m : TagMeaning) → map lower ps ≡ map lower qs → MeansTag ps m → MeansTag qs m
case_ignored = alike_means tag_after tag_ignores tag_start _ MeansTag tag_reader
