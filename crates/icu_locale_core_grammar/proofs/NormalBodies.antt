-- The normal pieces of a language part, of an extension's body and of a private part have the meaning that they are of.
use Rattle.std.proofs.Common.{◌≡◌, Bool, true, false, not, List, [], ◌∷◌, Option, None, Some, IfSome, map, filter, cond, option_map, sym, refl, ap, ◌∙◌, subst}
use Rattle.std.specs.Prelude.{if◌then◌else◌}
use Rattle.std.specs.List.{AllByRecursion, IsDistinct}
use Rattle.std.specs.Ordering.{nat_cmp}
use Rattle.std.specs.Cmp.Lexicographic.{slice_cmp, texts_ties}
use Rattle.std.proofs.lemmas.Map.Keys.{IsDistinct-from_sorted}
use Rattle.icu_locale_core_grammar.specs.Subtags.{Text, is_script, is_region, is_variant, is_attribute, is_key, is_field_key, is_value, is_true, is_other_piece, is_private_piece, true_text, lower, title, upper}
use Rattle.icu_locale_core_grammar.specs.Collections.{Entry, Each, AreApart, Rises, set_of, map_of}
use Rattle.icu_locale_core_grammar.specs.LanguagePart.{LanguageId, MeansLanguage, MeansInner}
use Rattle.icu_locale_core_grammar.specs.Extensions.{value_meaning, entry_meaning, has_enough, IsEntry}
use Rattle.icu_locale_core_grammar.specs.Meaning.{MeansAttributes, MeansUnicode, MeansTransform, MeansOther, UnicodeMeaning, TransformMeaning, IsPrivatePart}
use Rattle.icu_locale_core_grammar.specs.NormalText.{language_pieces, inner_pieces, shown_entry, unicode_pieces, transform_pieces, private_pieces}
use Rattle.icu_locale_core_grammar.specs.WellFormed.{IsNormalPiece, AreLower, IsNormalLanguage, IsNormalValue, IsNormalEntry, AreNormalEntries, IsNormalUnicode, IsNormalTransform}
use Rattle.icu_locale_core_grammar.proofs.SetLemmas.{set_of_rising}
use Rattle.icu_locale_core_grammar.proofs.MapLemmas.{map_of_rising}
use Rattle.icu_locale_core_grammar.proofs.CaseSteps.{language_lower}

-- texts that rise differ
pub apart_from_rising : (ts : List Text) → Rises ts → AreApart ts
apart_from_rising ts rises = subst (λ same. IsDistinct same ts) (λ i a b. sym (texts_ties a b) i) (IsDistinct-from_sorted (slice_cmp nat_cmp) ts rises)

-- ---- pieces in lower case

pub pieces_pass : (test : Text → Bool) (ps : List Text) → AreLower test ps → Each test ps
pieces_pass test [] each = tt
pieces_pass test (p ∷ ps) each = (each.0.is, pieces_pass test ps each.1)

pub pieces_stay : (test : Text → Bool) (ps : List Text) → AreLower test ps → map lower ps ≡ ps
pieces_stay test [] each = refl
pieces_stay test (p ∷ ps) each = λ i. each.0.same i ∷ pieces_stay test ps each.1 i

-- ---- the language part

script_is : (s : Option Text) → IfSome s (IsNormalPiece is_script title) → IfSome s (λ p. is_script p ≡ true)
script_is None n = tt
script_is (Some p) n = n.is

script_stays : (s : Option Text) → IfSome s (IsNormalPiece is_script title) → option_map title s ≡ s
script_stays None n = refl
script_stays (Some p) n = ap Some n.same

region_is : (s : Option Text) → IfSome s (IsNormalPiece is_region upper) → IfSome s (λ p. is_region p ≡ true)
region_is None n = tt
region_is (Some p) n = n.is

region_stays : (s : Option Text) → IfSome s (IsNormalPiece is_region upper) → option_map upper s ≡ s
region_stays None n = refl
region_stays (Some p) n = ap Some n.same

pub language_means : (id : LanguageId) → IsNormalLanguage id → MeansLanguage (language_pieces id) id
language_means id n =
    let stay : map lower id.variants ≡ id.variants = pieces_stay is_variant id.variants n.variants in
    let set : set_of (map lower id.variants) ≡ id.variants = ap set_of stay ∙ set_of_rising id.variants n.rises in
    record {
      written = record { language = id.language; script = id.script; region = id.region; variants = id.variants };
      sound = record { language = n.language.is; script = script_is id.script n.script; region = region_is id.region n.region; variants = pieces_pass is_variant id.variants n.variants; apart = subst AreApart (sym stay) (apart_from_rising id.variants n.rises) };
      parts = refl;
      meant = λ i. record { language = n.language.same i; script = script_stays id.script n.script i; region = region_stays id.region n.region i; variants = set i };
    }

pub inner_means : (id : Option LanguageId) → IfSome id IsNormalLanguage → MeansInner (inner_pieces id) id
inner_means None n = refl
inner_means (Some id) n = language_lower (language_pieces id) id (language_means id n)

-- ---- entries

pub values_stay : (vs : List Text) → AllByRecursion IsNormalValue vs → value_meaning vs ≡ vs
values_stay [] each = refl
values_stay (v ∷ vs) each =
    ap (λ b. map lower (cond (not b) (v ∷ filter (λ w. not (is_true w)) vs) (filter (λ w. not (is_true w)) vs))) each.0.shown ∙ (λ i. each.0.piece.same i ∷ values_stay vs each.1 i)

pub values_pass : (vs : List Text) → AllByRecursion IsNormalValue vs → Each is_value vs
values_pass [] each = tt
values_pass (v ∷ vs) each = (each.0.piece.is, values_pass vs each.1)

-- an entry that is shown means the entry
shown_values : (needs : Bool) (vs : List Text) → AllByRecursion IsNormalValue vs → value_meaning (if has_enough needs vs then vs else true_text ∷ []) ≡ vs
shown_values true [] each = refl
shown_values false [] each = refl
shown_values needs (v ∷ vs) each = values_stay (v ∷ vs) each

shown_pass : (needs : Bool) (vs : List Text) → AllByRecursion IsNormalValue vs → Each is_value (if has_enough needs vs then vs else true_text ∷ [])
shown_pass true [] each = (refl, tt)
shown_pass false [] each = tt
shown_pass needs (v ∷ vs) each = values_pass (v ∷ vs) each

shown_enough : (needs : Bool) (vs : List Text) → has_enough needs (if has_enough needs vs then vs else true_text ∷ []) ≡ true
shown_enough true [] = refl
shown_enough false [] = refl
shown_enough needs (v ∷ vs) = refl

pub entries_mean : (test : Text → Bool) (needs : Bool) (es : List Entry) → AllByRecursion (IsNormalEntry test) es → map entry_meaning (map (shown_entry needs) es) ≡ es
entries_mean test needs [] each = refl
entries_mean test needs (e ∷ es) each = λ i. (each.0.key.same i, shown_values needs e.1 each.0.values i) ∷ entries_mean test needs es each.1 i

pub entries_are : (test : Text → Bool) (needs : Bool) (es : List Entry) → AllByRecursion (IsNormalEntry test) es → AllByRecursion (IsEntry test needs) (map (shown_entry needs) es)
entries_are test needs [] each = tt
entries_are test needs (e ∷ es) each =
    (record { key = each.0.key.is; values = shown_pass needs e.1 each.0.values; enough = shown_enough needs e.1 }, entries_are test needs es each.1)

pub entries_keyed : (test : Text → Bool) (needs : Bool) (es : List Entry) → AreNormalEntries test es → map_of (map entry_meaning (map (shown_entry needs) es)) ≡ es
entries_keyed test needs es n = ap map_of (entries_mean test needs es n.each) ∙ map_of_rising es n.rises

-- ---- bodies

pub attributes_mean : (set : List Text) → AreLower is_attribute set → Rises set → MeansAttributes set set
attributes_mean set n rises = record { each = pieces_pass is_attribute set n; meant = ap set_of (pieces_stay is_attribute set n) ∙ set_of_rising set rises }

pub unicode_means : (u : UnicodeMeaning) → IsNormalUnicode u → MeansUnicode (unicode_pieces u) u
unicode_means u n = record {
  head = u.head;
  entries = map (shown_entry false) u.entries;
  parts = refl;
  meant = attributes_mean u.head n.attributes n.rises;
  each = entries_are is_key false u.entries n.keywords.each;
  keyed = entries_keyed is_key false u.entries n.keywords;
}

pub transform_means : (t : TransformMeaning) → IsNormalTransform t → MeansTransform (transform_pieces t) t
transform_means t n = record {
  head = inner_pieces t.head;
  entries = map (shown_entry true) t.entries;
  parts = refl;
  meant = inner_means t.head n.language;
  each = entries_are is_field_key true t.entries n.fields.each;
  keyed = entries_keyed is_field_key true t.entries n.fields;
}

pub other_means : (own : List Text) → AreLower is_other_piece own → MeansOther own own
other_means own n = record { each = pieces_pass is_other_piece own n; meant = pieces_stay is_other_piece own n }

pub private_means : (own : List Text) → AreLower is_private_piece own → IsPrivatePart (private_pieces own) own
private_means [] n = refl
private_means (w ∷ ws) n = (refl, (λ e. cc), pieces_pass is_private_piece (w ∷ ws) n, pieces_stay is_private_piece (w ∷ ws) n)
