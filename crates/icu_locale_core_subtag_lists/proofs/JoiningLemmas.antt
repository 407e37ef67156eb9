-- Joining a set with more texts: the set so far, and what is left.
use Rattle.std.proofs.Common.{◌≡◌, ℕ, ◌≤◌, Bool, true, false, ◌||◌, List, ◌∷◌, [], ◌++◌, length, fold, drop, sym, refl, ap, subst, ◌∙◌}
use Rattle.std.proofs.lemmas.Bool.{and_parts}
use Rattle.std.proofs.lemmas.List.{drop_all}
use Rattle.icu_locale_core_grammar.specs.Subtags.{Text, same_text}
use Rattle.icu_locale_core_grammar.specs.Collections.{Rises, contains_text, set_of}
use Rattle.icu_locale_core_grammar.proofs.ListLemmas.{fold-append}
use Rattle.icu_locale_core_grammar.proofs.SetLemmas.{put_text, set_of_rising, contains-set_of, Rises-set_of, rising_same}
use Rattle.icu_locale_core_grammar.proofs.CollectionLemmas.{same_text_equal, contains-append}
use Rattle.icu_locale_core_subtag_lists.specs.SubtagSets.{has_all_of}

-- a set and more texts
pub set_of_joined : (set ts : List Text) → Rises set → set_of (set ++ ts) ≡ fold put_text set ts
set_of_joined set ts rises = fold-append put_text [] set ts ∙ ap (λ s. fold put_text s ts) (set_of_rising set rises)

-- past the last text
pub fold_past : (set ts : List Text) (i : ℕ) → length ts ≤ i → fold put_text set (drop i ts) ≡ set
fold_past set ts i past = ap (fold put_text set) (drop_all i ts past)

-- what a set has of texts that it has all of
has_each : (us ts : List Text) → has_all_of us ts ≡ true → (q : Text) → contains_text q ts ≡ true → contains_text q us ≡ true
has_each us [] all q there = cc
has_each us (t ∷ ts) all q there =
    let parts = and_parts (contains_text t us) (has_all_of us ts) all in
    by (same_text q t) refl there parts.0 (has_each us ts parts.1 q)
  where
    by : (b : Bool) → same_text q t ≡ b → (b || contains_text q ts) ≡ true → contains_text t us ≡ true → (contains_text q ts ≡ true → contains_text q us ≡ true) → contains_text q us ≡ true
    by true is e has more = subst (λ u. contains_text u us ≡ true) (sym (same_text_equal q t is)) has
    by false is e has more = more e

either_there : (a b : Bool) → (b ≡ true → a ≡ true) → (a || b) ≡ a
either_there true b e = refl
either_there false true e = sym (e refl)
either_there false false e = refl

or_there : (a b : Bool) → (a ≡ true → b ≡ true) → (a || b) ≡ b
or_there true b e = sym (e refl)
or_there false b e = refl

-- a set that has all of the texts stays as it is
pub has_joined : (set ts : List Text) → has_all_of set ts ≡ true → Rises set → set ≡ set_of (set ++ ts)
has_joined set ts all rises =
    rising_same set (set_of (set ++ ts)) rises (Rises-set_of (set ++ ts))
    (λ q. sym (contains-set_of q (set ++ ts) ∙ contains-append q set ts ∙ either_there (contains_text q set) (contains_text q ts) (has_each set ts all q)))

-- and joined to one that has all of its texts it is that one
pub joined_to_all : (set ts : List Text) → has_all_of ts set ≡ true → Rises ts → ts ≡ set_of (set ++ ts)
joined_to_all set ts all rises =
    rising_same ts (set_of (set ++ ts)) rises (Rises-set_of (set ++ ts))
    (λ q. sym (contains-set_of q (set ++ ts) ∙ contains-append q set ts ∙ or_there (contains_text q set) (contains_text q ts) (has_each ts set all q)))
