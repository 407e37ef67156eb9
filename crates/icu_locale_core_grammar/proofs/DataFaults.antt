-- Each list of pieces is a data locale or has a fault, one of them alone.
use Rattle.std.proofs.Common.{◌≡◌, Bool, true, false, List, [], ◌∷◌, Option, None, Some, ◌⊎◌, inl, inr, length, option_to_list, sym, refl, ap, ◌∙◌, subst, arith}
use Rattle.std.specs.Cmp.Lexicographic.{bytes_decides}
use Rattle.icu_locale_core_grammar.specs.declared.error.ParseError.{ParseError}
use Rattle.icu_locale_core_grammar.specs.declared.error.ParseError.TheVariants.{InvalidLanguage, InvalidSubtag, InvalidExtension, DuplicatedExtension, Memory}
use Rattle.icu_locale_core_grammar.specs.Subtags.{Text, same_text}
use Rattle.icu_locale_core_grammar.specs.Collections.{Entry}
use Rattle.icu_locale_core_grammar.specs.LanguagePart.{LanguageId}
use Rattle.icu_locale_core_grammar.specs.Meaning.{TransformMeaning, no_transform, TagMeaning, MeansTag}
use Rattle.icu_locale_core_grammar.specs.FaultyPiece.{IsAccepted, HasFault}
use Rattle.icu_locale_core_grammar.specs.TagPreferences.{least_of, subdivision_entries, keyword_subdivision, subdivision_key, DataLocaleMeaning, locale_preferences_of, language_priority}
use Rattle.icu_locale_core_grammar.specs.DataTags.{HasOneVariant, IsDataTag, MeansDataLocale, IsRefusedTag, HasDataFault}
use Rattle.icu_locale_core_grammar.specs.PartLaws.{DataHasMeaningOrFault, DataHasOneFault, DataHasNeverBoth}
use Rattle.icu_locale_core_grammar.proofs.Runs as Runs
use Rattle.icu_locale_core_grammar.proofs.FaultyPieceLemmas as Faults
use Rattle.icu_locale_core_grammar.proofs.TagReader.{tag_reader, tag_answered}

-- ---- equations that are decided

abbrev Decided : Type 0 → Type 0
Decided P = P ⊎ (P → ⊥)

text_decided : (a b : Text) → Decided (a ≡ b)
text_decided a b = by_test (same_text a b) refl
  where
    by_test : (t : Bool) → same_text a b ≡ t → Decided (a ≡ b)
    by_test true e = inl ((bytes_decides a b).0 e)
    by_test false e = inr (λ f. let g : same_text a b ≡ true = (bytes_decides a b).1 f in cc)

cons_decided : {A : Type 0} (x y : A) (xs ys : List A) → Decided (x ≡ y) → Decided (xs ≡ ys) → Decided (x ∷ xs ≡ y ∷ ys)
cons_decided x y xs ys (inl e) (inl f) = inl (λ i. e i ∷ f i)
cons_decided x y xs ys (inl e) (inr f) = inr (λ g. f (cc))
cons_decided x y xs ys (inr e) d = inr (λ g. e (cc))

list_decided : {A : Type 0} → ((x y : A) → Decided (x ≡ y)) → (xs ys : List A) → Decided (xs ≡ ys)
list_decided each [] [] = inl refl
list_decided each [] (y ∷ ys) = inr (λ e. cc)
list_decided each (x ∷ xs) [] = inr (λ e. cc)
list_decided each (x ∷ xs) (y ∷ ys) = cons_decided x y xs ys (each x y) (list_decided each xs ys)

entry_decided : (e f : Entry) → Decided (e ≡ f)
entry_decided e f = by_parts (text_decided e.0 f.0) (list_decided text_decided e.1 f.1)
  where
    by_parts : Decided (e.0 ≡ f.0) → Decided (e.1 ≡ f.1) → Decided (e ≡ f)
    by_parts (inl a) (inl b) = inl (λ i. (a i, b i))
    by_parts (inl a) (inr b) = inr (λ g. b (ap (λ x. x.1) g))
    by_parts (inr a) d = inr (λ g. a (ap (λ x. x.0) g))

nothing_decided : {A : Type 0} (xs : List A) → Decided ([] ≡ xs)
nothing_decided [] = inl refl
nothing_decided (x ∷ xs) = inr (λ e. cc)

transform_decided : (t : TransformMeaning) → Decided (no_transform ≡ t)
transform_decided t = by_parts t.head refl (nothing_decided t.entries)
  where
    by_parts : (o : Option LanguageId) → t.head ≡ o → Decided ([] ≡ t.entries) → Decided (no_transform ≡ t)
    by_parts None e (inl f) = inl (λ i. record { head = sym e i; entries = f i })
    by_parts None e (inr f) = inr (λ g. f (ap (λ x. x.entries) g))
    by_parts (Some id) e d = inr (λ g. let h : None ≡ Some id = ap (λ x. x.head) g ∙ e in cc)

-- ---- data tags

-- what a data tag says, part by part
record IsBare (m : TagMeaning) : Type 0 where
  variants : option_to_list (least_of m.language.variants) ≡ m.language.variants
  attributes : [] ≡ m.extensions.unicode.head
  keywords : subdivision_entries (keyword_subdivision subdivision_key m.extensions.unicode.entries) ≡ m.extensions.unicode.entries
  transform : no_transform ≡ m.extensions.transform
  others : [] ≡ m.extensions.others
  own : [] ≡ m.private_use

bare_data : (m : TagMeaning) → IsBare m → IsDataTag m
bare_data m b = λ i. record {
  language = record { language = m.language.language; script = m.language.script; region = m.language.region; variants = b.variants i };
  extensions = record { unicode = record { head = b.attributes i; entries = b.keywords i }; transform = b.transform i; others = b.others i };
  private_use = b.own i;
}

data_bare : (m : TagMeaning) → IsDataTag m → IsBare m
data_bare m e = record {
  variants = ap (λ x. x.language.variants) e;
  attributes = ap (λ x. x.extensions.unicode.head) e;
  keywords = ap (λ x. x.extensions.unicode.entries) e;
  transform = ap (λ x. x.extensions.transform) e;
  others = ap (λ x. x.extensions.others) e;
  own = ap (λ x. x.private_use) e;
}

bare_decided : (m : TagMeaning) → Decided (IsBare m)
bare_decided m =
    by_parts (list_decided text_decided (option_to_list (least_of m.language.variants)) m.language.variants) (nothing_decided m.extensions.unicode.head)
    (list_decided entry_decided (subdivision_entries (keyword_subdivision subdivision_key m.extensions.unicode.entries)) m.extensions.unicode.entries)
    (transform_decided m.extensions.transform) (nothing_decided m.extensions.others) (nothing_decided m.private_use)
  where
    by_parts : Decided (option_to_list (least_of m.language.variants) ≡ m.language.variants) → Decided ([] ≡ m.extensions.unicode.head)
        → Decided (subdivision_entries (keyword_subdivision subdivision_key m.extensions.unicode.entries) ≡ m.extensions.unicode.entries)
        → Decided (no_transform ≡ m.extensions.transform) → Decided ([] ≡ m.extensions.others) → Decided ([] ≡ m.private_use) → Decided (IsBare m)
    by_parts (inr n) b c d e f = inr (λ x. n x.variants)
    by_parts (inl a) (inr n) c d e f = inr (λ x. n x.attributes)
    by_parts (inl a) (inl b) (inr n) d e f = inr (λ x. n x.keywords)
    by_parts (inl a) (inl b) (inl c) (inr n) e f = inr (λ x. n x.transform)
    by_parts (inl a) (inl b) (inl c) (inl d) (inr n) f = inr (λ x. n x.others)
    by_parts (inl a) (inl b) (inl c) (inl d) (inl e) (inr n) = inr (λ x. n x.own)
    by_parts (inl a) (inl b) (inl c) (inl d) (inl e) (inl f) = inl (record { variants = a; attributes = b; keywords = c; transform = d; others = e; own = f })

-- a data tag has one variant at most
data_variants : (m : TagMeaning) → IsDataTag m → HasOneVariant m
data_variants m e = by_list m.language.variants refl
  where
    by_list : (vs : List Text) → m.language.variants ≡ vs → HasOneVariant m
    by_list [] f = let g : length m.language.variants ≡ 0 = ap length f in omega arith
    by_list (v ∷ []) f = let g : length m.language.variants ≡ 1 = ap length f in omega arith
    by_list (v ∷ w ∷ ws) f =
        let g : v ∷ [] ≡ v ∷ w ∷ ws = sym (ap (λ l. option_to_list (least_of l)) f) ∙ (data_bare m e).variants ∙ f in cc

variants_decided : (m : TagMeaning) → Decided (HasOneVariant m)
variants_decided m = by_list m.language.variants refl
  where
    by_list : (vs : List Text) → m.language.variants ≡ vs → Decided (HasOneVariant m)
    by_list [] f = let g : length m.language.variants ≡ 0 = ap length f in inl (omega arith)
    by_list (v ∷ []) f = let g : length m.language.variants ≡ 1 = ap length f in inl (omega arith)
    by_list (v ∷ w ∷ ws) f = let g : length m.language.variants ≡ length (v ∷ w ∷ ws) = ap length f in inr (λ h. omega arith)

-- ---- answers

pub data_answered : DataHasMeaningOrFault
data_answered ps = by_answer (tag_answered ps)
  where
    refused : (m : TagMeaning) → MeansTag ps m → (IsDataTag m → ⊥) → Decided (HasOneVariant m) → (e : ParseError) × HasDataFault ps e
    refused m a n (inl one) = (InvalidExtension, inr (record { tag = m; means = a; refused = (one, n) }))
    refused m a n (inr many) = (InvalidSubtag, inr (record { tag = m; means = a; refused = many }))

    by_tag : (m : TagMeaning) → MeansTag ps m → Decided (IsBare m) → ((d : DataLocaleMeaning) × MeansDataLocale ps d) ⊎ ((e : ParseError) × HasDataFault ps e)
    by_tag m a (inl b) = inl (language_priority (locale_preferences_of m), record { tag = m; means = a; is = bare_data m b; same = refl })
    by_tag m a (inr n) = inr (refused m a (λ e. n (data_bare m e)) (variants_decided m))

    by_answer : IsAccepted MeansTag ps ⊎ ((e : ParseError) × HasFault MeansTag ps e) → ((d : DataLocaleMeaning) × MeansDataLocale ps d) ⊎ ((e : ParseError) × HasDataFault ps e)
    by_answer (inl a) = by_tag a.0 a.1 (bare_decided a.0)
    by_answer (inr f) = inr (f.0, inl f.1)

one_refusal : (m : TagMeaning) (e f : ParseError) → IsRefusedTag m e → IsRefusedTag m f → e ≡ f
one_refusal m InvalidSubtag InvalidSubtag a b = refl
one_refusal m InvalidSubtag InvalidExtension a b = absurd (a b.0)
one_refusal m InvalidSubtag InvalidLanguage a b = absurd b
one_refusal m InvalidSubtag DuplicatedExtension a b = absurd b
one_refusal m InvalidSubtag Memory a b = absurd b
one_refusal m InvalidExtension InvalidSubtag a b = absurd (b a.0)
one_refusal m InvalidExtension InvalidExtension a b = refl
one_refusal m InvalidExtension InvalidLanguage a b = absurd b
one_refusal m InvalidExtension DuplicatedExtension a b = absurd b
one_refusal m InvalidExtension Memory a b = absurd b
one_refusal m InvalidLanguage f a b = absurd a
one_refusal m DuplicatedExtension f a b = absurd a
one_refusal m Memory f a b = absurd a

pub one_data_fault : DataHasOneFault
one_data_fault ps e f (inl a) (inl b) = Faults.one_fault ps e f a b
one_data_fault ps e f (inl a) (inr b) = absurd (Faults.never_both ps b.tag e b.means a)
one_data_fault ps e f (inr a) (inl b) = absurd (Faults.never_both ps a.tag f a.means b)
one_data_fault ps e f (inr a) (inr b) =
    one_refusal a.tag e f a.refused (subst (λ m. IsRefusedTag m f) (Runs.one_meaning tag_reader ps b.tag a.tag b.means a.means) b.refused)

no_refusal : (m : TagMeaning) (e : ParseError) → IsDataTag m → IsRefusedTag m e → ⊥
no_refusal m InvalidSubtag d a = a (data_variants m d)
no_refusal m InvalidExtension d a = a.1 d
no_refusal m InvalidLanguage d a = a
no_refusal m DuplicatedExtension d a = a
no_refusal m Memory d a = a

pub data_never_both : DataHasNeverBoth
data_never_both ps d e a (inl b) = Faults.never_both ps a.tag e a.means b
data_never_both ps d e a (inr b) = no_refusal b.tag e (subst IsDataTag (Runs.one_meaning tag_reader ps a.tag b.tag a.means b.means) a.is) b.refused
