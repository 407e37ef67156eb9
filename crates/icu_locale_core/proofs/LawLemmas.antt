-- Preferences and data locales read back, and a locale holds them, but for the subdivision `true`.
use Rattle.std.proofs.Common.{◌≡◌, ℕ, ◌+◌, ◌≤◌, Bool, true, false, eqb, ◌&&◌, ◌⊎◌, inl, inr, List, [], ◌∷◌, ◌++◌, Option, None, Some, map, length, refl, sym, ap, subst, ◌∙◌, arith, length-append}
use Rattle.std.specs.Prelude.{IfSome, if◌then◌else◌, not, option_to_list, option_and_then}
use Rattle.std.specs.List.{AllByRecursion, list_all}
use Rattle.std.specs.Int.{is_in_range}
use Rattle.std.specs.Char.{is_ascii_alphabetic, is_ascii_alphanumeric, is_ascii_digit, to_ascii_lowercase}
use Rattle.std.proofs.lemmas.List.{map-append, length-map}
use Rattle.std.proofs.lemmas.List.Folds.{list_all-append}
use Rattle.std.proofs.lemmas.Bool.{and_parts, and_from, or_cases, eqb-true}
use Rattle.std.proofs.lemmas.Bool.Decides.{nat_tests}
use Rattle.icu_locale_core_grammar.specs.Subtags.{Text, is_plain, is_key, is_value, is_region, is_variant, is_true, lower, same_text, true_text}
use Rattle.icu_locale_core_grammar.specs.Collections.{Entry, Rises, value_at}
use Rattle.icu_locale_core_grammar.specs.Pieces.{pieces}
use Rattle.icu_locale_core_grammar.specs.Meaning.{MeansTag, no_transform}
use Rattle.icu_locale_core_grammar.specs.WellFormed.{IsNormalPiece, AreLower, IsNormalValue, IsNormalEntry, AreNormalEntries, IsNormalTag}
use Rattle.icu_locale_core_grammar.specs.TagPreferences.{Subdivision, subdivision_text, subdivision_key, override_key, subdivision_entries, one_piece, keyword_piece, keyword_subdivision, subdivision_of, is_suffix, locale_preferences_of, DataLocaleMeaning, language_priority, data_meaning}
use Rattle.icu_locale_core_grammar.specs.PreferenceChanges.{keyword_of, preference_tag}
use Rattle.icu_locale_core_grammar.specs.PreferenceLaws.{IsNormalSubdivision}
use Rattle.icu_locale_core_grammar.specs.DataTags.{MeansDataLocale}
use Rattle.icu_locale_core_grammar.proofs.Runs as Runs
use Rattle.icu_locale_core_grammar.proofs.TagReader.{tag_reader}
use Rattle.icu_locale_core_grammar.proofs.CaseLemmas.{lower-lower, lower-upper, characters_kept, spells_lower}
use Rattle.icu_locale_core_grammar.proofs.PlainSubtags.{region_plain, characters_plain}
use Rattle.icu_locale_core_grammar.proofs.MapLemmas.{rises_none, Rises-put}
use Rattle.icu_locale_core_grammar.proofs.MeaningsAreNormal.{meaning_normal}
use Rattle.icu_locale_core_grammar.proofs.NormalTags.{normal_means, normal_again}
use Rattle.icu_locale_core_grammar.proofs.PreferenceLemmas.{subdivision_spells, one_data_meaning, data_reads_back}
use Rattle.icu_locale_core_grammar.proofs.PreferenceChangeLemmas.{data_locale_is_itself, preferences_read_back, alike_tags_prefer_alike}
use Rattle.icu_locale_core_grammar.proofs.DataFaults.{data_never_both}
use Rattle.icu_locale_core_keywords_fields.specs.Values.{without_true}
use Rattle.icu_locale_core.specs.DataText.{data_text}
use Rattle.icu_locale_core.specs.HeldTag.{held_entry, held_tag, is_true_subdivision}
use Rattle.icu_locale_core.specs.HeldPreferenceLaws.{IsNormalData, IsReadBack, ReadDataReadsBack, NormalDataReadsBack, PreferencesAreHeld, DataIsHeld, AcceptedTextsPreferAlike, DataLocaleIsOfItsTag, TagsHoldNoTrue}

-- ---- a subdivision is a piece of a value

region_length : (p : Text) → is_region p ≡ true → (2 ≤ length p) × (length p ≤ 3)
region_length p e = by_case (or_cases (eqb (length p) 2 && list_all is_ascii_alphabetic p) (eqb (length p) 3 && list_all is_ascii_digit p) e)
  where
    by_case : ((eqb (length p) 2 && list_all is_ascii_alphabetic p) ≡ true) ⊎ ((eqb (length p) 3 && list_all is_ascii_digit p) ≡ true) → (2 ≤ length p) × (length p ≤ 3)
    by_case (inl f) = let g : length p ≡ 2 = eqb-true (length p) 2 (and_parts (eqb (length p) 2) (list_all is_ascii_alphabetic p) f).0 in (omega (arith, g), omega (arith, g))
    by_case (inr f) = let g : length p ≡ 3 = eqb-true (length p) 3 (and_parts (eqb (length p) 3) (list_all is_ascii_digit p) f).0 in (omega (arith, g), omega (arith, g))

suffix_length : (p : Text) → is_suffix p ≡ true → (1 ≤ length p) × (length p ≤ 4)
suffix_length p e =
    let f : is_in_range 1 4 (length p) ≡ true = (and_parts (is_in_range 1 4 (length p)) (is_plain p) e).0 in
    (grind (arith, nat_tests, f), grind (arith, nat_tests, f))

within : (n : ℕ) → 3 ≤ n → n ≤ 8 → is_in_range 3 8 n ≡ true
within n low high = grind (arith, nat_tests)

value_of_parts : (region suffix : Text) → is_region region ≡ true → is_suffix suffix ≡ true → is_value (lower region ++ suffix) ≡ true
value_of_parts region suffix first second =
    let text = lower region ++ suffix in
    let a = region_length region first in
    let b = suffix_length suffix second in
    let long : length text ≡ length region + length suffix = length-append (lower region) suffix ∙ ap (λ n. n + length suffix) (length-map region to_ascii_lowercase) in
    let low : 3 ≤ length text = omega (arith, long, a.0, b.0) in
    let high : length text ≤ 8 = omega (arith, long, a.1, b.1) in
    let plain : is_plain text ≡ true =
    list_all-append is_ascii_alphanumeric (lower region) suffix
    ∙ and_from (is_plain (lower region)) (is_plain suffix) (characters_kept region ∙ region_plain region first) (characters_plain 1 4 suffix second) in
    and_from (is_in_range 3 8 (length text)) (is_plain text) (within (length text) low high) plain

lower_parts : (region suffix : Text) → lower suffix ≡ suffix → lower (lower region ++ suffix) ≡ lower region ++ suffix
lower_parts region suffix e = map-append to_ascii_lowercase (lower region) suffix ∙ (λ i. lower-lower region i ++ e i)

subdivision_value : (s : Subdivision) → IsNormalSubdivision s → is_true (subdivision_text s) ≡ false → IsNormalValue (subdivision_text s)
subdivision_value s n e = record {
  piece = record { is = value_of_parts s.region s.suffix n.region n.suffix; same = lower_parts s.region s.suffix n.lower };
  shown = e;
}

-- ---- the tag of a data locale is in normal form

rises_one : (t : Text) → Rises (t ∷ [])
rises_one t = Rises-put (t, []) [] rises_none

module _ (d : DataLocaleMeaning) (n : IsNormalData d) where
  variant_normal : (v : Option Text) → IfSome v (IsNormalPiece is_variant lower) → AreLower is_variant (option_to_list v)
  variant_normal None e = tt
  variant_normal (Some t) e = (e, tt)

  variant_rises : (v : Option Text) → Rises (option_to_list v)
  variant_rises None = rises_none
  variant_rises (Some t) = rises_one t

  entries_normal : (s : Option Subdivision) → IfSome s IsNormalSubdivision → is_true_subdivision s ≡ false → AreNormalEntries is_key (subdivision_entries s)
  entries_normal None e f = record { each = tt; rises = rises_none }
  entries_normal (Some s) e f = record {
    each = (record { key = record { is = refl; same = refl }; values = (subdivision_value s e f, tt) }, tt);
    rises = rises_one subdivision_key;
  }

  tag_normal : is_true_subdivision d.subdivision ≡ false → IsNormalTag (data_meaning d)
  tag_normal f = record {
    language = record { language = n.language; script = n.script; region = n.region; variants = variant_normal d.variant n.variant; rises = variant_rises d.variant };
    extensions = record {
      unicode = record { attributes = tt; rises = rises_none; keywords = entries_normal d.subdivision n.subdivision f };
      transform = record { language = tt; fields = record { each = tt; rises = rises_none } };
      others = record { each = tt; rises = rises_none };
    };
    private_use = tt;
  }

  means_itself : is_true_subdivision d.subdivision ≡ false → MeansDataLocale (pieces (data_text d)) d
  means_itself f =
      let own = data_locale_is_itself d n.subdivision in
      let means = normal_means (data_meaning d) (tag_normal f) in
      record {
        tag = data_meaning d;
        means = subst (λ l. MeansTag l (data_meaning d)) (sym (normal_again (data_meaning d) means)) means;
        is = ap data_meaning own;
        same = own;
      }

-- ---- printed and read

read_back : (d : DataLocaleMeaning) → MeansDataLocale (pieces (data_text d)) d → IsReadBack d
read_back d means = record {
  means = means;
  alone = λ e other. one_data_meaning (pieces (data_text d)) e d other means;
  accepted = λ e refused. data_never_both (pieces (data_text d)) d e means refused;
}

pub read_data_reads_back : ReadDataReadsBack
read_data_reads_back text d a = read_back d (data_reads_back (pieces text) d a)

pub normal_data_reads_back : NormalDataReadsBack
normal_data_reads_back d n f = read_back d (means_itself d n f)

-- ---- held by a locale

one_held : (t : Text) → is_true t ≡ false → without_true (t ∷ []) ≡ t ∷ []
one_held t e = ap (λ b. if not b then t ∷ [] else []) e

keyword_held : (key : Text) (s : Option Subdivision) → is_true_subdivision s ≡ false → map held_entry (keyword_of key s) ≡ keyword_of key s
keyword_held key None e = refl
keyword_held key (Some s) e = ap (λ vs. (key, vs) ∷ []) (one_held (subdivision_text s) e)

entries_held : (o s : Option Subdivision) → is_true_subdivision o ≡ false → is_true_subdivision s ≡ false
    → map held_entry (keyword_of override_key o ++ keyword_of subdivision_key s) ≡ keyword_of override_key o ++ keyword_of subdivision_key s
entries_held o s e f =
    map-append held_entry (keyword_of override_key o) (keyword_of subdivision_key s) ∙ (λ i. keyword_held override_key o e i ++ keyword_held subdivision_key s f i)

pub preferences_are_held : PreferencesAreHeld
preferences_are_held p n none =
    let entries = entries_held p.region_override p.subdivision none.region_override none.subdivision in
    let tag : held_tag (preference_tag p) ≡ preference_tag p = λ i. record {
      language = (preference_tag p).language;
      extensions = record { unicode = record { head = []; entries = entries i }; transform = no_transform; others = [] };
      private_use = [];
    } in
    record { whole = tag; back = ap locale_preferences_of tag ∙ preferences_read_back p n.data_locale.subdivision n.region_override }

data_entries_held : (s : Option Subdivision) → is_true_subdivision s ≡ false → map held_entry (subdivision_entries s) ≡ subdivision_entries s
data_entries_held None e = refl
data_entries_held (Some s) e = ap (λ vs. (subdivision_key, vs) ∷ []) (one_held (subdivision_text s) e)

pub data_is_held : DataIsHeld
data_is_held d n none =
    let entries = data_entries_held d.subdivision none in
    let tag : held_tag (data_meaning d) ≡ data_meaning d = λ i. record {
      language = (data_meaning d).language;
      extensions = record { unicode = record { head = []; entries = entries i }; transform = no_transform; others = [] };
      private_use = [];
    } in
    record { whole = tag; back = ap (λ m. language_priority (locale_preferences_of m)) tag ∙ data_locale_is_itself d n.subdivision }

-- ---- tags that were read

pub accepted_texts_prefer_alike : AcceptedTextsPreferAlike
accepted_texts_prefer_alike text m n a b = alike_tags_prefer_alike (pieces text) m n a b

pub data_locale_is_of_its_tag : DataLocaleIsOfItsTag
data_locale_is_of_its_tag text d m a b = sym a.same ∙ ap (λ t. language_priority (locale_preferences_of t)) (Runs.one_meaning tag_reader (pieces text) a.tag m a.means b)

module _ (key : Text) where
  -- the value at a key is normal
  value_normal : (es : List Entry) (vs : List Text) → AllByRecursion (IsNormalEntry is_key) es → value_at key es ≡ Some vs → AllByRecursion IsNormalValue vs
  value_normal [] vs n e = cc
  value_normal (f ∷ fs) vs n e = by_key (same_text key f.0) (value_normal fs vs n.1) e
    where
      by_key : (b : Bool) → (value_at key fs ≡ Some vs → AllByRecursion IsNormalValue vs) → (if b then Some f.1 else value_at key fs) ≡ Some vs → AllByRecursion IsNormalValue vs
      by_key true more g = let same : f.1 ≡ vs = cc in subst (λ l. AllByRecursion IsNormalValue l) same n.0.values
      by_key false more g = more g

  one_not_true : (vs : List Text) (t : Text) → AllByRecursion IsNormalValue vs → one_piece vs ≡ Some t → is_true t ≡ false
  one_not_true [] t n e = cc
  one_not_true (v ∷ []) t n e = let same : v ≡ t = cc in subst (λ w. is_true w ≡ false) same n.0.shown
  one_not_true (v ∷ w ∷ ws) t n e = cc

  piece_not_true : (es : List Entry) (t : Text) → AllByRecursion (IsNormalEntry is_key) es → keyword_piece key es ≡ Some t → is_true t ≡ false
  piece_not_true es t n e = by_value (value_at key es) refl e
    where
      by_value : (o : Option (List Text)) → value_at key es ≡ o → option_and_then one_piece o ≡ Some t → is_true t ≡ false
      by_value None f g = cc
      by_value (Some vs) f g = one_not_true vs t (value_normal es vs n f) g

  -- a subdivision spells the piece that it was read from
  spells_piece : (text : Text) (s : Subdivision) → subdivision_of text ≡ Some s → subdivision_text s ≡ lower text
  spells_piece text s e =
      let a = subdivision_spells text s e in
      ap subdivision_text (sym a.meant) ∙ ap (λ l. l ++ lower a.suffix) (lower-upper a.region) ∙ sym (map-append to_ascii_lowercase a.region a.suffix) ∙ ap lower a.parts

  keyword_not_true : (es : List Entry) → AllByRecursion (IsNormalEntry is_key) es → is_true_subdivision (keyword_subdivision key es) ≡ false
  keyword_not_true es n = by_piece (keyword_piece key es) refl
    where
      by_subdivision : (t : Text) (o : Option Subdivision) → is_true t ≡ false → subdivision_of t ≡ o → is_true_subdivision o ≡ false
      by_subdivision t None f g = refl
      by_subdivision t (Some s) f g = ap is_true (spells_piece t s g) ∙ spells_lower true_text t ∙ f

      by_piece : (o : Option Text) → keyword_piece key es ≡ o → is_true_subdivision (option_and_then subdivision_of o) ≡ false
      by_piece None f = refl
      by_piece (Some t) f = by_subdivision t (subdivision_of t) (piece_not_true es t n f) refl

pub tags_hold_no_true : TagsHoldNoTrue
tags_hold_no_true text m a =
    let each = (meaning_normal (pieces text) m a).extensions.unicode.keywords.each in
    record { subdivision = keyword_not_true subdivision_key m.extensions.unicode.entries each; region_override = keyword_not_true override_key m.extensions.unicode.entries each }
