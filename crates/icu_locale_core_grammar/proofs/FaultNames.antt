-- The name of a fault told by cases: the same names, since a repeated singleton has a single character before it.
use Rattle.std.proofs.Common.{◌≡◌, ◌≢◌, Bool, true, false, List, [], ◌∷◌, Option, None, Some, ◌⊎◌, inl, inr, map, length, ◌==◌, sym, refl, ap, ◌∙◌, subst}
use Rattle.std.specs.Prelude.{if◌then◌else◌}
use Rattle.std.specs.List.{list_any}
use Rattle.std.proofs.lemmas.Bool.{or_cases, or_left, or_right}
use Rattle.std.proofs.lemmas.List.{length-map}
use Rattle.std.specs.Char.{to_ascii_lowercase}
use Rattle.icu_locale_core_grammar.specs.declared.error.ParseError.{ParseError}
use Rattle.icu_locale_core_grammar.specs.declared.error.ParseError.TheVariants.{InvalidLanguage, InvalidSubtag, InvalidExtension, DuplicatedExtension, Memory}
use Rattle.icu_locale_core_grammar.specs.Subtags.{Text, is_single, same_text, lower}
use Rattle.icu_locale_core_grammar.specs.Collections.{contains_text}
use Rattle.icu_locale_core_grammar.specs.FaultyPiece.{name_after, IsDuplicate, IsNamed}
use Rattle.icu_locale_core_grammar.proofs.CollectionLemmas.{same_text_equal}
use Rattle.icu_locale_core_grammar.proofs.SubtagLemmas.{singleton_single}

none_within : (front : List Text) → front ≡ [] → list_any is_single front ≡ true → ⊥
none_within front e h = let g : list_any is_single front ≡ false = ap (list_any is_single) e in cc (g, h)

-- a text that is another one but for case has as many characters
same_single : (p q : Text) → lower p ≡ lower q → is_single q ≡ is_single p
same_single p q e = ap (λ n. n == 1) (sym (length-map q to_ascii_lowercase) ∙ sym (ap length e) ∙ length-map p to_ascii_lowercase)

single_within : (p : Text) (front : List Text) → is_single p ≡ true → contains_text (lower p) (map lower front) ≡ true → list_any is_single front ≡ true
single_within p [] single e = cc
single_within p (q ∷ qs) single e = by_case (or_cases (same_text (lower p) (lower q)) (contains_text (lower p) (map lower qs)) e) (single_within p qs single)
  where
    by_case : (same_text (lower p) (lower q) ≡ true) ⊎ (contains_text (lower p) (map lower qs) ≡ true) → (contains_text (lower p) (map lower qs) ≡ true → list_any is_single qs ≡ true) → list_any is_single (q ∷ qs) ≡ true
    by_case (inl f) more = or_left (is_single q) (list_any is_single qs) (same_single p q (same_text_equal (lower p) (lower q) f) ∙ single)
    by_case (inr f) more = or_right (is_single q) (list_any is_single qs) (more f)

-- the name of a fault after pieces that are there
name_is : (front : List Text) → front ≢ [] → (b : Bool) → list_any is_single front ≡ b → (if b then InvalidExtension else InvalidSubtag) ≡ name_after front (list_any is_single front)
name_is [] filled b e = absurd (filled refl)
name_is (p ∷ ps) filled b e = ap (λ x. if x then InvalidExtension else InvalidSubtag) (sym e)

module _ {M : Type 0} (Means : List Text → M → Type 0) where
  -- the name of the fault by its place: within an extension where a single character comes before it
  abbrev pub IsNamedByCase : ParseError → List Text → Option Text → Type 0
  IsNamedByCase InvalidLanguage front place = front ≡ []
  IsNamedByCase InvalidSubtag front place = (front ≢ []) × (list_any is_single front ≡ false)
  IsNamedByCase InvalidExtension front place = (list_any is_single front ≡ true) × (IsDuplicate Means front place → ⊥)
  IsNamedByCase DuplicatedExtension front place = (list_any is_single front ≡ true) × IsDuplicate Means front place
  IsNamedByCase Memory front place = ⊥

  duplicate_within : (front : List Text) (place : Option Text) → IsDuplicate Means front place → list_any is_single front ≡ true
  duplicate_within front None d = absurd d
  duplicate_within front (Some p) d = single_within p front (singleton_single p d.1) d.2

  case_after : (front : List Text) (place : Option Text) (b : Bool) → list_any is_single front ≡ b → (IsDuplicate Means front place → ⊥) → IsNamedByCase (name_after front b) front place
  case_after [] place b e other = refl
  case_after (p ∷ ps) place true e other = (e, other)
  case_after (p ∷ ps) place false e other = ((λ f. cc), e)

  pub by_case : (e : ParseError) (front : List Text) (place : Option Text) → IsNamed Means e front place → IsNamedByCase e front place
  by_case e front place (inl n) = subst (λ x. IsNamedByCase x front place) (sym n.1) (duplicate_within front place n.0, n.0)
  by_case e front place (inr n) = subst (λ x. IsNamedByCase x front place) (sym n.1) (case_after front place (list_any is_single front) refl n.0)

  pub from_case : (e : ParseError) (front : List Text) (place : Option Text) → IsNamedByCase e front place → IsNamed Means e front place
  from_case InvalidLanguage front place n =
      inr ((λ d. none_within front n (duplicate_within front place d)), sym (ap (λ l. name_after l (list_any is_single l)) n))
  from_case InvalidSubtag front place n = inr ((λ d. let f = duplicate_within front place d in cc (f, n.1)), name_is front n.0 false n.1)
  from_case InvalidExtension front place n = inr (n.1, name_is front (λ e. none_within front e n.0) true n.0)
  from_case DuplicatedExtension front place n = inl (n.1, refl)
  from_case Memory front place n = absurd n
