-- A right reader of one kind is a right reader of that kind among all kinds.
use Rattle.std.proofs.Common.{◌≡◌, List, [], ◌∷◌, Option, Some, option_map, sym, refl, ap, ◌∙◌, subst}
use Rattle.icu_locale_core_grammar.specs.Subtags.{Text}
use Rattle.icu_locale_core_grammar.specs.Stepping.{run, CanEnd, IsReader}
use Rattle.icu_locale_core_grammar.proofs.ListLemmas.{mapped_some}
use Rattle.icu_locale_core_grammar.proofs.Runs.{run_begun, first_step}

module _ {S M B P : Type 0} (step : S → Text → Option S) (ends : S → Option M) (step_all : B → Text → Option B) (ends_all : B → Option P) (stage : S → B) (part : M → P)
    (steps : (s : S) (p : Text) → step_all (stage s) p ≡ option_map stage (step s p)) (ended : (s : S) → ends_all (stage s) ≡ option_map part (ends s)) where
  pub embedded_runs : (s t : S) (ps : List Text) → run step (Some s) ps ≡ Some t → run step_all (Some (stage s)) ps ≡ Some (stage t)
  embedded_runs s t [] e = let same : s ≡ t = cc in ap (λ x. Some (stage x)) same
  embedded_runs s t (p ∷ ps) e =
      let f = first_step step s t p ps e in
      run_begun step_all (stage s) (stage f.0) _ p ps (steps s p ∙ ap (option_map stage) f.1) (embedded_runs f.0 t ps f.2)

  -- a run among all kinds is one of this kind
  run_back : (s : S) (b : B) (ps : List Text) → run step_all (Some (stage s)) ps ≡ Some b → (t : S) × (run step (Some s) ps ≡ Some t) × (stage t ≡ b)
  run_back s b [] e = (s, refl, cc)
  run_back s b (p ∷ ps) e =
      let f = first_step step_all (stage s) b p ps e in
      let g = mapped_some stage (step s p) f.0 (sym (steps s p) ∙ f.1) in
      let r = run_back g.0 b ps (subst (λ x. run step_all (Some x) ps ≡ Some b) (sym g.2) f.2) in
      (r.0, run_begun step s g.0 (Some r.0) p ps g.1 r.1, r.2)

  pub embedded_goes_on : CanEnd step ends → (s : S) → (more : List Text) × (t : B) × (m : P) × (run step_all (Some (stage s)) more ≡ Some t) × (ends_all t ≡ Some m)
  embedded_goes_on goes_on s =
      let w = goes_on s in
      (w.0, stage w.1, part w.2, embedded_runs s w.1 w.0 w.3, ended w.1 ∙ ap (option_map part) w.4)

  module _ (start : S) (Means : List Text → M → Type 0) (right : IsReader step start ends Means) (MeansAll : List Text → P → Type 0) (into : (ps : List Text) (m : M) → Means ps m → MeansAll ps (part m))
      (back : (ps : List Text) (q : P) → MeansAll ps q → (m : M) × Means ps m × (part m ≡ q)) (goes_on : CanEnd step_all ends_all) where
    found : (ps : List Text) (b : B) (q : P) → run step_all (Some (stage start)) ps ≡ Some b → ends_all b ≡ Some q → MeansAll ps q
    found ps b q e f =
        let r = run_back start b ps e in
        let g = mapped_some part (ends r.0) q (sym (ended r.0) ∙ ap ends_all r.2 ∙ f) in
        subst (MeansAll ps) g.2 (into ps g.0 (right.found ps r.0 g.0 r.1 g.1))

    only : (ps : List Text) (q : P) → MeansAll ps q → (b : B) × (run step_all (Some (stage start)) ps ≡ Some b) × (ends_all b ≡ Some q)
    only ps q a =
        let m = back ps q a in
        let r = right.only ps m.0 m.1 in
        (stage r.0, embedded_runs start r.0 ps r.1, ended r.0 ∙ ap (option_map part) r.2 ∙ ap Some m.2)

    pub embedded_reader : IsReader step_all (stage start) ends_all MeansAll
    embedded_reader = record { found = found; only = only; goes_on = goes_on }
