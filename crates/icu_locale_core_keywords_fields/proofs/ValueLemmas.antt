-- Subtags put into a value one by one, and items that never come.
use Rattle.std.proofs.Common.{◌≡◌, Bool, true, false, not, List, [], ◌∷◌, ◌++◌, Option, Some, cond, refl, sym, ap, ◌∙◌, subst, append-nil}
use Rattle.std.specs.Prelude.{if◌then◌else◌}
use Rattle.std.specs.Iterator.{Yields, HoldsAlong}
use Rattle.std.proofs.lemmas.List.Elements.{filter-append}
use Rattle.icu_locale_core_grammar.specs.Subtags.{Text, is_true, true_text, same_text, lower}
use Rattle.icu_locale_core_grammar.proofs.CollectionLemmas.{same_text_swapped}
use Rattle.icu_locale_core_keywords_fields.specs.Values.{without_true, with_subtag}

-- the value of some subtags, and of one more
pub without_true-push : (value more : List Text) (taken : List Text) (v : Text) → value ≡ without_true taken → more ≡ with_subtag value v → more ≡ without_true (taken ++ v ∷ [])
without_true-push value more taken v so_far put =
    put ∙ ap (λ l. with_subtag l v) so_far ∙ by_test (is_true v) ∙ sym (filter-append (λ w. not (is_true w)) taken (v ∷ []))
  where
    by_test : (b : Bool) → (if b then without_true taken else without_true taken ++ v ∷ []) ≡ without_true taken ++ cond (not b) (v ∷ []) []
    by_test true = sym (append-nil (without_true taken))
    by_test false = refl

-- a text in lower case that is `true`
pub told_true : (shown v : Text) (told : Bool) → told ≡ same_text shown true_text → shown ≡ v → lower v ≡ v → told ≡ is_true v
told_true shown v told answer same low =
    answer ∙ ap (λ t. same_text t true_text) same ∙ same_text_swapped v true_text ∙ ap (same_text true_text) (sym low)

-- of an iterator that gives no item none has come, and none comes
pub none_comes : {S A : Type 0} (gives : S → Option A → S → Type 0) (first now next : S) (came : List A) (x : A)
    → ((y : A) (j : S) → ¬ (gives first (Some y) j)) → Yields gives first came now → gives now (Some x) next → ⊥
none_comes gives first now next [] x none so_far comes = none x next (subst (λ s. gives s (Some x) next) (sym so_far) comes)
none_comes gives first now next (y ∷ ys) x none so_far comes = none y so_far.0 so_far.1

-- some items, and one more
Yields-push : {S A : Type 0} (gives : S → Option A → S → Type 0) (first now next : S) (came : List A) (x : A)
    → Yields gives first came now → gives now (Some x) next → Yields gives first (came ++ x ∷ []) next
Yields-push gives first now next [] x so_far comes = (next, subst (λ s. gives s (Some x) next) (sym so_far) comes, refl)
Yields-push gives first now next (y ∷ ys) x so_far comes = (so_far.0, so_far.1, Yields-push gives so_far.0 now next ys x so_far.2 comes)

-- of an iterator whose subtags are all `true` each that comes is
pub true_comes : {S : Type 0} (gives : S → Option Text → S → Type 0) (first now next : S) (came : List Text) (v : Text)
    → HoldsAlong gives first (λ vs. without_true vs ≡ []) → Yields gives first came now → gives now (Some v) next → is_true v ≡ true
true_comes gives first now next came v all_true so_far comes =
    by_test (is_true v) (without_true came)
    (sym (filter-append (λ w. not (is_true w)) came (v ∷ [])) ∙ all_true (came ++ v ∷ []) next (Yields-push gives first now next came v so_far comes))
  where
    by_test : (b : Bool) (kept : List Text) → kept ++ cond (not b) (v ∷ []) [] ≡ [] → b ≡ true
    by_test true kept e = refl
    by_test false [] e = cc
    by_test false (w ∷ ws) e = cc
