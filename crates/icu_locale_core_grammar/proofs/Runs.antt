-- Steps along lists of pieces, and what a right reader of a grammar says of the lists that stop somewhere.
use Rattle.std.proofs.Common.{◌≡◌, List, [], ◌∷◌, ◌++◌, Option, None, Some, ◌⊎◌, inl, inr, sym, refl, ap, ◌∙◌, subst, append_assoc, append-nil}
use Rattle.icu_locale_core_grammar.specs.Subtags.{Text}
use Rattle.icu_locale_core_grammar.specs.FaultyPiece.{first_piece, IsAccepted, BeginsSome, StopsAt}
use Rattle.icu_locale_core_grammar.specs.Stepping.{run, IsReader}

module _ {S : Type 0} (step : S → Text → Option S) where
  pub run-append : (s : Option S) (ps qs : List Text) → run step s (ps ++ qs) ≡ run step (run step s ps) qs
  run-append None ps qs = refl
  run-append (Some s) [] qs = refl
  run-append (Some s) (p ∷ ps) qs = run-append (step s p) ps qs

  -- steps that are known, one after the other
  pub run_joined : (s t : S) (r : Option S) (ps qs : List Text) → run step (Some s) ps ≡ Some t → run step (Some t) qs ≡ r → run step (Some s) (ps ++ qs) ≡ r
  run_joined s t r ps qs first second = run-append (Some s) ps qs ∙ ap (λ o. run step o qs) first ∙ second

  pub run_begun : (s t : S) (r : Option S) (p : Text) (ps : List Text) → step s p ≡ Some t → run step (Some t) ps ≡ r → run step (Some s) (p ∷ ps) ≡ r
  run_begun s t r p ps first second = ap (λ o. run step o ps) first ∙ second

  -- a run that goes along a list goes along each front of it
  pub run_front : (s : Option S) (ps qs : List Text) (t : S) → run step s (ps ++ qs) ≡ Some t → (u : S) × (run step s ps ≡ Some u) × (run step (Some u) qs ≡ Some t)
  run_front s ps qs t e = split (run step s ps) refl
    where
      split : (o : Option S) → run step s ps ≡ o → (u : S) × (run step s ps ≡ Some u) × (run step (Some u) qs ≡ Some t)
      split None f = let g : None ≡ Some t = sym (run-append s ps qs ∙ ap (λ o. run step o qs) f) ∙ e in cc
      split (Some u) f = (u, f, sym (run-append s ps qs ∙ ap (λ o. run step o qs) f) ∙ e)

  -- the first step of a run
  pub first_step : (s t : S) (p : Text) (ps : List Text) → run step (Some s) (p ∷ ps) ≡ Some t → (u : S) × (step s p ≡ Some u) × (run step (Some u) ps ≡ Some t)
  first_step s t p ps e = split (step s p) refl
    where
      split : (o : Option S) → step s p ≡ o → (u : S) × (step s p ≡ Some u) × (run step (Some u) ps ≡ Some t)
      split None f = let g : None ≡ Some t = sym (ap (λ o. run step o ps) f) ∙ e in cc
      split (Some u) f = (u, f, sym (ap (λ o. run step o ps) f) ∙ e)

  -- what each step keeps, a run keeps
  pub run_keeps : (Stands : List Text → S → Type 0) → ((taken : List Text) (s : S) (p : Text) (t : S) → Stands taken s → step s p ≡ Some t → Stands (taken ++ p ∷ []) t)
      → (ps taken : List Text) (s t : S) → Stands taken s → run step (Some s) ps ≡ Some t → Stands (taken ++ ps) t
  run_keeps Stands adds [] taken s t stands e =
      let same : s ≡ t = cc in
      subst (λ l. Stands l t) (sym (append-nil taken)) (subst (Stands taken) same stands)
  run_keeps Stands adds (p ∷ ps) taken s t stands e =
      let f = first_step s t p ps e in
      let h : Stands ((taken ++ p ∷ []) ++ ps) t = run_keeps Stands adds ps (taken ++ p ∷ []) f.0 t (adds taken s p f.0 stands f.1) f.2 in
      subst (λ l. Stands l t) (append_assoc taken (p ∷ []) ps) h

-- a right reader of a grammar
module _ {S M : Type 0} {step : S → Text → Option S} {start : S} {ends : S → Option M} {Means : List Text → M → Type 0} (right : IsReader step start ends Means) where
  -- one meaning alone
  pub one_meaning : (ps : List Text) (m n : M) → Means ps m → Means ps n → m ≡ n
  one_meaning ps m n a b =
      let x = right.only ps m a in
      let y = right.only ps n b in
      let same : x.0 ≡ y.0 = cc (x.1, y.1) in
      cc (x.2, y.2, ap ends same)

  -- each stage that is reached goes on to an accepted list
  pub reached_begins : (taken : List Text) (s : S) → run step (Some start) taken ≡ Some s → BeginsSome Means taken
  reached_begins taken s e =
      let w = right.goes_on s in
      (w.0, (w.2, right.found (taken ++ w.0) w.1 w.2 (run_joined step start s (Some w.1) taken w.0 e w.3) w.4))

  -- and what begins an accepted list is reached
  pub begins_reached : (taken : List Text) → BeginsSome Means taken → (s : S) × (run step (Some start) taken ≡ Some s)
  begins_reached taken b =
      let r = right.only (taken ++ b.0) b.1.0 b.1.1 in
      let f = run_front step (Some start) taken b.0 r.0 r.1 in
      (f.0, f.1)

  -- a stage that does not take the piece stops there
  pub stops_at_piece : (taken : List Text) (s : S) (p : Text) (rest : List Text) → run step (Some start) taken ≡ Some s → step s p ≡ None → StopsAt Means (taken ++ p ∷ rest) taken (p ∷ rest)
  stops_at_piece taken s p rest e none = record { cut = refl; begins = reached_begins taken s e; stops = blocked }
    where
      blocked : BeginsSome Means (taken ++ p ∷ []) → ⊥
      blocked b =
          let r = begins_reached (taken ++ p ∷ []) b in
          let n : run step (Some start) (taken ++ p ∷ []) ≡ None = run_joined step start s None taken (p ∷ []) e (ap (λ o. run step o []) none) in
          cc (r.1, n)

  -- a stage that is no end stops at the end
  pub stops_at_end : (taken : List Text) (s : S) → run step (Some start) taken ≡ Some s → ends s ≡ None → StopsAt Means taken taken []
  stops_at_end taken s e none = record { cut = sym (append-nil taken); begins = reached_begins taken s e; stops = blocked }
    where
      blocked : IsAccepted Means taken → ⊥
      blocked a =
          let r = right.only taken a.0 a.1 in
          let same : r.0 ≡ s = cc (r.1, e) in
          cc (ap ends same, r.2, none)

  -- a reached stage whose pieces are accepted is an end
  pub accepted_ends : (taken : List Text) (s : S) (m : M) → run step (Some start) taken ≡ Some s → Means taken m → ends s ≡ Some m
  accepted_ends taken s m e a =
      let r = right.only taken m a in
      let same : r.0 ≡ s = cc (r.1, e) in
      sym (ap ends same) ∙ r.2

  -- a stage stops with the piece at a place, or at the end
  abbrev pub IsStuck : S → Option Text → Type 0
  IsStuck s (Some p) = step s p ≡ None
  IsStuck s None = ends s ≡ None

  -- the stage where a list stops
  pub record Stop (ps : List Text) : Type 0 where
    pub front : List Text
    pub rest : List Text
    pub stage : S
    pub reached : run step (Some start) front ≡ Some stage
    pub stuck : IsStuck stage (first_piece rest)
    pub stops : StopsAt Means ps front rest

  pub stop_again : (ps qs : List Text) → ps ≡ qs → Stop ps → Stop qs
  stop_again ps qs e s = subst Stop e s

  at_end : (taken : List Text) (s : S) (o : Option M) → run step (Some start) taken ≡ Some s → ends s ≡ o → IsAccepted Means taken ⊎ Stop taken
  at_end taken s None e f = inr (record { front = taken; rest = []; stage = s; reached = e; stuck = f; stops = stops_at_end taken s e f })
  at_end taken s (Some m) e f = inl (m, right.found taken s m e f)

  at_piece : (taken ps : List Text) (s : S) (p : Text) (o : Option S) → run step (Some start) taken ≡ Some s → step s p ≡ o
      → ((u : S) → run step (Some start) (taken ++ p ∷ []) ≡ Some u → IsAccepted Means ((taken ++ p ∷ []) ++ ps) ⊎ Stop ((taken ++ p ∷ []) ++ ps))
      → IsAccepted Means (taken ++ p ∷ ps) ⊎ Stop (taken ++ p ∷ ps)
  at_piece taken ps s p None e f onward = inr (record { front = taken; rest = p ∷ ps; stage = s; reached = e; stuck = f; stops = stops_at_piece taken s p ps e f })
  at_piece taken ps s p (Some u) e f onward =
      subst (λ l. IsAccepted Means l ⊎ Stop l) (append_assoc taken (p ∷ []) ps)
      (onward u (run_joined step start s (Some u) taken (p ∷ []) e (ap (λ o. run step o []) f)))

  answered_from : (ps taken : List Text) (s : S) → run step (Some start) taken ≡ Some s → IsAccepted Means (taken ++ ps) ⊎ Stop (taken ++ ps)
  answered_from [] taken s e = subst (λ l. IsAccepted Means l ⊎ Stop l) (sym (append-nil taken)) (at_end taken s (ends s) e refl)
  answered_from (p ∷ ps) taken s e = at_piece taken ps s p (step s p) e refl (answered_from ps (taken ++ p ∷ []))

  -- each list has a meaning, or stops somewhere
  pub answered : (ps : List Text) → IsAccepted Means ps ⊎ Stop ps
  answered ps = answered_from ps [] start refl

  -- where it is stuck, nothing is meant
  pub stuck_unmeant : (taken : List Text) (s : S) (p : Text) (rest : List Text) (m : M) → run step (Some start) taken ≡ Some s → step s p ≡ None → Means (taken ++ p ∷ rest) m → ⊥
  stuck_unmeant taken s p rest m e none a =
      let stop = stops_at_piece taken s p rest e none in
      stop.stops (rest, (m, subst (λ l. Means l m) (sym (append_assoc taken (p ∷ []) rest)) a))

  pub unended_unmeant : (taken : List Text) (s : S) (m : M) → run step (Some start) taken ≡ Some s → ends s ≡ None → Means taken m → ⊥
  unended_unmeant taken s m e none a = (stops_at_end taken s e none).stops (m, a)
