-- A text is a subdivision in one way at most, and a data locale that was read and printed reads back.
use Rattle.std.proofs.Common.{◌≡◌, ℕ, Bool, true, false, ◌&&◌, ◌||◌, List, [], ◌∷◌, ◌++◌, Option, None, Some, take, drop, length, eqb, sym, refl, ap, ◌∙◌, subst, inl, inr, ◌⊎◌, take-append-drop, arith}
use Rattle.std.specs.Prelude.{if◌then◌else◌}
use Rattle.std.specs.List.{list_all}
use Rattle.std.specs.Char.{is_ascii_alphabetic, is_ascii_digit}
use Rattle.std.proofs.lemmas.List.{take_at, drop_at}
use Rattle.std.proofs.lemmas.Bool.{and_parts, and_from, or_cases, eqb-true}
use Rattle.icu_locale_core_grammar.specs.Subtags.{Text, is_region, lower, upper}
use Rattle.icu_locale_core_grammar.specs.Pieces.{pieces}
use Rattle.icu_locale_core_grammar.specs.Meaning.{MeansTag}
use Rattle.icu_locale_core_grammar.specs.NormalText.{normal_text}
use Rattle.icu_locale_core_grammar.specs.Collections.{first_there}
use Rattle.icu_locale_core_grammar.specs.TagPreferences.{is_suffix, Subdivision, SpellsSubdivision, subdivision_at, subdivision_of, DataLocaleMeaning, data_meaning, locale_preferences_of, language_priority}
use Rattle.icu_locale_core_grammar.specs.DataTags.{MeansDataLocale}
use Rattle.icu_locale_core_grammar.proofs.Runs as Runs
use Rattle.icu_locale_core_grammar.proofs.TagReader.{tag_reader}
use Rattle.icu_locale_core_grammar.proofs.NormalTags.{read_again}
use Rattle.icu_locale_core_grammar.proofs.SubtagLemmas.{digit_no_letter}

-- ---- subdivisions

abbrev sub_of : Text → Text → Subdivision
sub_of region suffix = record { region = upper region; suffix = lower suffix }

at_spells : (n : ℕ) (text : Text) (s : Subdivision) (b : Bool) → (is_region (take n text) && is_suffix (drop n text)) ≡ b → (if b then Some (sub_of (take n text) (drop n text)) else None) ≡ Some s → SpellsSubdivision text s
at_spells n text s true e q =
    let f = and_parts (is_region (take n text)) (is_suffix (drop n text)) e in
    record { region = take n text; suffix = drop n text; parts = take-append-drop n text; first = f.0; second = f.1; meant = cc }
at_spells n text s false e q = cc

-- what is computed is spelled
pub subdivision_spells : (text : Text) (s : Subdivision) → subdivision_of text ≡ Some s → SpellsSubdivision text s
subdivision_spells text s e = by_first (subdivision_at 2 text) refl e
  where
    by_first : (o : Option Subdivision) → subdivision_at 2 text ≡ o → first_there o (subdivision_at 3 text) ≡ Some s → SpellsSubdivision text s
    by_first (Some t) f q =
        let same : t ≡ s = cc in
        at_spells 2 text s (is_region (take 2 text) && is_suffix (drop 2 text)) refl (f ∙ ap Some same)
    by_first None f q = at_spells 3 text s (is_region (take 3 text) && is_suffix (drop 3 text)) refl q

-- two letters, or three digits
region_cases : (p : Text) → is_region p ≡ true → ((length p ≡ 2) × (list_all is_ascii_alphabetic p ≡ true)) ⊎ ((length p ≡ 3) × (list_all is_ascii_digit p ≡ true))
region_cases p e = by_case (or_cases (eqb (length p) 2 && list_all is_ascii_alphabetic p) (eqb (length p) 3 && list_all is_ascii_digit p) e)
  where
    by_case : ((eqb (length p) 2 && list_all is_ascii_alphabetic p) ≡ true) ⊎ ((eqb (length p) 3 && list_all is_ascii_digit p) ≡ true)
        → ((length p ≡ 2) × (list_all is_ascii_alphabetic p ≡ true)) ⊎ ((length p ≡ 3) × (list_all is_ascii_digit p ≡ true))
    by_case (inl f) = let g = and_parts (eqb (length p) 2) (list_all is_ascii_alphabetic p) f in inl (eqb-true (length p) 2 g.0, g.1)
    by_case (inr f) = let g = and_parts (eqb (length p) 3) (list_all is_ascii_digit p) f in inr (eqb-true (length p) 3 g.0, g.1)

at_cut : (n : ℕ) (region suffix : Text) → length region ≡ n → is_region region ≡ true → is_suffix suffix ≡ true → subdivision_at n (region ++ suffix) ≡ Some (sub_of region suffix)
at_cut n region suffix long first second =
    ap (λ l. if is_region l && is_suffix (drop n (region ++ suffix)) then Some (sub_of l (drop n (region ++ suffix))) else None) (take_at region suffix n long)
    ∙ ap (λ l. if is_region region && is_suffix l then Some (sub_of region l) else None) (drop_at region suffix n long)
    ∙ ap (λ b. if b then Some (sub_of region suffix) else None) (and_from (is_region region) (is_suffix suffix) first second)

-- a region of three digits has no region of two characters in front
digits_no_letters : (region suffix : Text) → length region ≡ 3 → list_all is_ascii_digit region ≡ true → is_region (take 2 (region ++ suffix)) ≡ false
digits_no_letters [] suffix long digits = absurd (omega arith)
digits_no_letters (a ∷ []) suffix long digits = absurd (omega arith)
digits_no_letters (a ∷ b ∷ rest) suffix long digits =
    let f = digit_no_letter a (and_parts (is_ascii_digit a) (list_all is_ascii_digit (b ∷ rest)) digits).0 in
    ap (λ x. (true && (x && (is_ascii_alphabetic b && true))) || (false && list_all is_ascii_digit (a ∷ b ∷ []))) f

-- and what is spelled is computed
pub spelled_subdivision : (text : Text) (s : Subdivision) → SpellsSubdivision text s → subdivision_of text ≡ Some s
spelled_subdivision text s a = ap subdivision_of (sym a.parts) ∙ by_case (region_cases a.region a.first) ∙ ap Some a.meant
  where
    by_case : ((length a.region ≡ 2) × (list_all is_ascii_alphabetic a.region ≡ true)) ⊎ ((length a.region ≡ 3) × (list_all is_ascii_digit a.region ≡ true)) → subdivision_of (a.region ++ a.suffix) ≡ Some (sub_of a.region a.suffix)
    by_case (inl f) = ap (λ o. first_there o (subdivision_at 3 (a.region ++ a.suffix))) (at_cut 2 a.region a.suffix f.0 a.first a.second)
    by_case (inr f) =
        ap (λ b. first_there (if b && is_suffix (drop 2 (a.region ++ a.suffix)) then Some (sub_of (take 2 (a.region ++ a.suffix)) (drop 2 (a.region ++ a.suffix))) else None) (subdivision_at 3 (a.region ++ a.suffix)))
        (digits_no_letters a.region a.suffix f.0 f.1)
        ∙ at_cut 3 a.region a.suffix f.0 a.first a.second

pub one_subdivision : (text : Text) (s t : Subdivision) → SpellsSubdivision text s → SpellsSubdivision text t → s ≡ t
one_subdivision text s t a b =
    let e : Some s ≡ Some t = sym (spelled_subdivision text s a) ∙ spelled_subdivision text t b in cc

-- ---- data locales

pub one_data_meaning : (ps : List Text) (d e : DataLocaleMeaning) → MeansDataLocale ps d → MeansDataLocale ps e → d ≡ e
one_data_meaning ps d e a b =
    sym a.same ∙ ap (λ m. language_priority (locale_preferences_of m)) (Runs.one_meaning tag_reader ps a.tag b.tag a.means b.means) ∙ b.same

pub data_reads_back : (ps : List Text) (d : DataLocaleMeaning) → MeansDataLocale ps d → MeansDataLocale (pieces (normal_text (data_meaning d))) d
data_reads_back ps d a =
    let own : data_meaning d ≡ a.tag = ap data_meaning (sym a.same) ∙ a.is in
    record { tag = a.tag; means = subst (λ m. MeansTag (pieces (normal_text m)) a.tag) (sym own) (read_again ps a.tag a.means); is = a.is; same = a.same }
