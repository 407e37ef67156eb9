-- Readers of pieces of one class, each put to the others as it comes.
use Rattle.std.proofs.Common.{◌≡◌, Bool, true, false, not, List, [], ◌∷◌, ◌++◌, Option, None, Some, map, fold, filter, cond, sym, refl, ap, ◌∙◌, append_assoc, append-nil}
use Rattle.std.specs.Prelude.{if◌then◌else◌}
use Rattle.icu_locale_core_grammar.specs.Subtags.{Text, is_true, lower}
use Rattle.icu_locale_core_grammar.specs.Collections.{Each}
use Rattle.icu_locale_core_grammar.specs.Extensions.{value_meaning}
use Rattle.icu_locale_core_grammar.specs.Stepping.{run, IsReader}
use Rattle.icu_locale_core_grammar.proofs.ListLemmas.{fold-append, each-append}
use Rattle.icu_locale_core_grammar.proofs.Runs.{run_begun, run_keeps}

module _ {M : Type 0} (test : Text → Bool) (put : M → Text → M) where
  abbrev pub pieces_after : M → Text → Option M
  pieces_after m p = if test p then Some (put m p) else None

  pub pieces_run : (m : M) (ps : List Text) → Each test ps → run pieces_after (Some m) ps ≡ Some (fold put m ps)
  pieces_run m [] each = refl
  pieces_run m (p ∷ ps) each = run_begun pieces_after m (put m p) _ p ps (ap (λ b. if b then Some (put m p) else None) each.0) (pieces_run (put m p) ps each.1)

  one_more : (m : M) (p : Text) (t : M) (b : Bool) → test p ≡ b → (if b then Some (put m p) else None) ≡ Some t → (test p ≡ true) × (put m p ≡ t)
  one_more m p t true e q = (e, cc)
  one_more m p t false e q = cc

  pub pieces_stand : (start : M) (ps : List Text) (m : M) → run pieces_after (Some start) ps ≡ Some m → Each test ps × (fold put start ps ≡ m)
  pieces_stand start ps m e = run_keeps pieces_after (λ taken s. Each test taken × (fold put start taken ≡ s)) adds ps [] start m (tt, refl) e
    where
      adds : (taken : List Text) (s : M) (p : Text) (t : M) → Each test taken × (fold put start taken ≡ s) → pieces_after s p ≡ Some t → Each test (taken ++ p ∷ []) × (fold put start (taken ++ p ∷ []) ≡ t)
      adds taken s p t stands q =
          let f = one_more s p t (test p) refl q in
          (each-append (λ x. test x ≡ true) taken (p ∷ []) stands.0 (f.0, tt), fold-append put start taken (p ∷ []) ∙ ap (λ x. put x p) stands.1 ∙ f.1)

pub fold-lower : {M : Type 0} (put : M → Text → M) (m : M) (ps : List Text) → fold (λ x p. put x (lower p)) m ps ≡ fold put m (map lower ps)
fold-lower put m [] = refl
fold-lower put m (p ∷ ps) = fold-lower put (put m (lower p)) ps

pub fold-pushed : (before ps : List Text) → fold (λ ws p. ws ++ lower p ∷ []) before ps ≡ before ++ map lower ps
fold-pushed before [] = sym (append-nil before)
fold-pushed before (p ∷ ps) = fold-pushed (before ++ lower p ∷ []) ps ∙ append_assoc before (lower p ∷ []) (map lower ps)

-- a reader of such pieces, for a meaning that says what is put together
pub pieces_reader : {M : Type 0} (test : Text → Bool) (put : M → Text → M) (start : M) (Means : List Text → M → Type 0) → ((ps : List Text) (m : M) → Each test ps → fold put start ps ≡ m → Means ps m)
    → ((ps : List Text) (m : M) → Means ps m → Each test ps × (fold put start ps ≡ m)) → IsReader (pieces_after test put) start Some Means
pieces_reader {M} test put start Means into back = record { found = found; only = only; goes_on = λ s. ([], s, s, refl, refl) }
  where
    found : (ps : List Text) (s m : M) → run (pieces_after test put) (Some start) ps ≡ Some s → Some s ≡ Some m → Means ps m
    found ps s m e f =
        let same : s ≡ m = cc in
        let g = pieces_stand test put start ps s e in
        into ps m g.0 (g.1 ∙ same)

    only : (ps : List Text) (m : M) → Means ps m → (s : M) × (run (pieces_after test put) (Some start) ps ≡ Some s) × (Some s ≡ Some m)
    only ps m a = let g = back ps m a in (m, pieces_run test put start ps g.0 ∙ ap Some g.1, refl)

-- values, without `true`
abbrev pub put_value : List Text → Text → List Text
put_value vs p = if is_true p then vs else vs ++ lower p ∷ []

pub fold-values : (before ps : List Text) → fold put_value before ps ≡ before ++ value_meaning ps
fold-values before [] = sym (append-nil before)
fold-values before (p ∷ ps) = by_test (is_true p) (fold-values before ps) (fold-values (before ++ lower p ∷ []) ps)
  where
    by_test : (b : Bool) → fold put_value before ps ≡ before ++ value_meaning ps → fold put_value (before ++ lower p ∷ []) ps ≡ (before ++ lower p ∷ []) ++ value_meaning ps
        → fold put_value (if b then before else before ++ lower p ∷ []) ps ≡ before ++ map lower (cond (not b) (p ∷ filter (λ w. not (is_true w)) ps) (filter (λ w. not (is_true w)) ps))
    by_test true out in_ = out
    by_test false out in_ = in_ ∙ append_assoc before (lower p ∷ []) (value_meaning ps)
