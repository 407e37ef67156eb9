-- The stages of a front, blocks and a private part are a right reader.
use Rattle.std.proofs.Common.{◌≡◌, Bool, true, false, List, [], ◌∷◌, ◌++◌, Option, None, Some, map, flat_map, option_map, sym, refl, ap, ◌∙◌, subst, append_assoc, append-nil}
use Rattle.std.specs.Prelude.{if◌then◌else◌}
use Rattle.std.specs.List.{AllByRecursion}
use Rattle.icu_locale_core_grammar.specs.Subtags.{Text, is_single, lower}
use Rattle.icu_locale_core_grammar.specs.Collections.{Each, AreApart, contains_text}
use Rattle.icu_locale_core_grammar.specs.Extensions.{Block, spelled_block, block_key, Whole}
use Rattle.icu_locale_core_grammar.specs.Stepping.{run, CanEnd, IsReader, WholeStage, InFront, AtBlock, InBlock, InPrivate, opened, next_part, after_front, at_block, after_block, whole_after, whole_ends}
use Rattle.icu_locale_core_grammar.proofs.CollectionLemmas.{apart_new}
use Rattle.icu_locale_core_grammar.proofs.Runs.{run_joined, run_begun, first_step}
use Rattle.icu_locale_core_grammar.proofs.WholeMeaning.{IsBlock, blocks_meaning, IsOwnPart, MeansWhole}
use Rattle.icu_locale_core_grammar.proofs.WholeParts.{AreParts}
use Rattle.icu_locale_core_grammar.proofs.WholeFound.{whole_found}

module _ {L I E B V : Type 0} (step_front : L → Text → Option L) (start : L) (front_ends : L → Option I) (MeansFront : List Text → I → Type 0)
    (step_body : B → Text → Option B) (body_ends : B → Option V) (opens : Text → Option B) (MeansBody : Text → List Text → V → Type 0)
    (put : Text → V → E → E) (none : E) (is_x is_own : Text → Bool)
    (sound : AreParts step_front start front_ends MeansFront step_body body_ends opens MeansBody is_x is_own) where
  abbrev Stage : Type 0
  Stage = WholeStage L I E B

  abbrev after : Stage → Text → Option Stage
  after = whole_after step_front front_ends step_body body_ends opens put none is_x is_own

  abbrev ends : Stage → Option (Whole I E)
  ends = whole_ends front_ends body_ends put none

  abbrev next : I → List Text → E → Text → Option Stage
  next = next_part step_front front_ends step_body body_ends opens put none is_x is_own

  abbrev Meant : List Text → Whole I E → Type 0
  Meant = MeansWhole (record { means_front = MeansFront; means_body = MeansBody; put = put; none = none; begins_private = is_x; is_private_piece = is_own })

  -- ---- one step

  front_steps : (l u : L) (p : Text) → step_front l p ≡ Some u → after (InFront l) p ≡ Some (InFront u)
  unfolding whole_after
  front_steps l u p e = ap (λ o. after_front step_front front_ends step_body body_ends opens put none is_x is_own o (front_ends l) p) e

  first_steps : (i : I) (seen : List Text) (e : E) (k : Text) (b c : B) (p : Text) → step_body b p ≡ Some c → after (AtBlock i seen e k b) p ≡ Some (InBlock i seen e k c)
  unfolding whole_after
  first_steps i seen e k b c p f = ap (at_block step_front front_ends step_body body_ends opens put none is_x is_own i seen e k) f

  body_steps : (i : I) (seen : List Text) (e : E) (k : Text) (b c : B) (p : Text) → step_body b p ≡ Some c → after (InBlock i seen e k b) p ≡ Some (InBlock i seen e k c)
  unfolding whole_after
  body_steps i seen e k b c p f = ap (λ o. after_block step_front front_ends step_body body_ends opens put none is_x is_own i seen e k o (body_ends b) p) f

  own_steps : (i : I) (e : E) (own : List Text) (p : Text) → is_own p ≡ true → after (InPrivate i e own) p ≡ Some (InPrivate i e (own ++ lower p ∷ []))
  unfolding whole_after
  own_steps i e own p f = ap (λ b. if b then Some (InPrivate i e (own ++ lower p ∷ [])) else None) f

  -- ---- runs

  front_runs : (l u : L) (ps : List Text) → run step_front (Some l) ps ≡ Some u → run after (Some (InFront l)) ps ≡ Some (InFront u)
  front_runs l u [] e = let same : l ≡ u = cc in ap (λ x. Some (InFront x)) same
  front_runs l u (p ∷ ps) e =
      let f = first_step step_front l u p ps e in
      run_begun after (InFront l) (InFront f.0) _ p ps (front_steps l f.0 p f.1) (front_runs f.0 u ps f.2)

  body_runs : (i : I) (seen : List Text) (e : E) (k : Text) (b c : B) (ps : List Text) → run step_body (Some b) ps ≡ Some c → run after (Some (InBlock i seen e k b)) ps ≡ Some (InBlock i seen e k c)
  body_runs i seen e k b c [] f = let same : b ≡ c = cc in ap (λ x. Some (InBlock i seen e k x)) same
  body_runs i seen e k b c (p ∷ ps) f =
      let g = first_step step_body b c p ps f in
      run_begun after (InBlock i seen e k b) (InBlock i seen e k g.0) _ p ps (body_steps i seen e k b g.0 p g.1) (body_runs i seen e k g.0 c ps g.2)

  own_runs : (i : I) (e : E) (own ps : List Text) → Each is_own ps → run after (Some (InPrivate i e own)) ps ≡ Some (InPrivate i e (own ++ map lower ps))
  own_runs i e own [] each = ap (λ l. Some (InPrivate i e l)) (sym (append-nil own))
  own_runs i e own (p ∷ ps) each =
      run_begun after (InPrivate i e own) (InPrivate i e (own ++ lower p ∷ [])) _ p ps (own_steps i e own p each.0)
      (own_runs i e (own ++ lower p ∷ []) ps each.1 ∙ ap (λ l. Some (InPrivate i e l)) (append_assoc own (lower p ∷ []) (map lower ps)))

  -- ---- a part that may end

  abbrev IsDone : Stage → I → List Text → E → Type 0
  IsDone (InFront l) i seen e = (front_ends l ≡ Some i) × (seen ≡ []) × (e ≡ none)
  IsDone (AtBlock j before f k b) i seen e = ⊥
  IsDone (InBlock j before f k b) i seen e = (v : V) × (body_ends b ≡ Some v) × (j ≡ i) × (seen ≡ before ++ k ∷ []) × (e ≡ put k v f)
  IsDone (InPrivate j f own) i seen e = ⊥

  done_ends : (s : Stage) (i : I) (seen : List Text) (e : E) → IsDone s i seen e → ends s ≡ Some (record { language = i; extensions = e; private_use = [] })
  done_ends (InFront l) i seen e d = ap (option_map (λ x. record { language = x; extensions = none; private_use = [] })) d.0 ∙ ap (λ x. Some (record { language = i; extensions = x; private_use = [] })) (sym d.2)
  done_ends (AtBlock j before f k b) i seen e d = absurd d
  done_ends (InBlock j before f k b) i seen e d =
      ap (option_map (λ v. record { language = j; extensions = put k v f; private_use = [] })) d.1 ∙ ap (λ x. Some (record { language = x; extensions = put k d.0 f; private_use = [] })) d.2 ∙ ap (λ x. Some (record { language = i; extensions = x; private_use = [] })) (sym d.4)
  done_ends (InPrivate j f own) i seen e d = absurd d

  done_next : (s : Stage) (i : I) (seen : List Text) (e : E) (p : Text) → IsDone s i seen e → is_single p ≡ true → after s p ≡ next i seen e p
  unfolding whole_after
  done_next (InFront l) i seen e p d g =
      ap (λ o. after_front step_front front_ends step_body body_ends opens put none is_x is_own o (front_ends l) p) (sound.front_closed l p g)
      ∙ ap (λ o. after_front step_front front_ends step_body body_ends opens put none is_x is_own None o p) d.0
      ∙ ap (λ x. next i x none p) (sym d.1) ∙ ap (λ x. next i seen x p) (sym d.2)
  done_next (AtBlock j before f k b) i seen e p d g = absurd d
  done_next (InBlock j before f k b) i seen e p d g =
      ap (λ o. after_block step_front front_ends step_body body_ends opens put none is_x is_own j before f k o (body_ends b) p) (sound.body_closed b p g)
      ∙ ap (λ o. after_block step_front front_ends step_body body_ends opens put none is_x is_own j before f k None o p) d.1
      ∙ ap (λ x. next x (before ++ k ∷ []) (put k d.0 f) p) d.2 ∙ ap (λ x. next i x (put k d.0 f) p) (sym d.3) ∙ ap (λ x. next i seen x p) (sym d.4)
  done_next (InPrivate j f own) i seen e p d g = absurd d

  next_private : (i : I) (seen : List Text) (e : E) (p : Text) → is_x p ≡ true → next i seen e p ≡ Some (InPrivate i e [])
  next_private i seen e p f =
      ap (λ b. if b then Some (InPrivate i e []) else (if contains_text (lower p) seen then None else opened step_front front_ends step_body body_ends opens put none is_x is_own i seen e (lower p) (opens p))) f

  next_block : (i : I) (seen : List Text) (e : E) (p : Text) (b : B) → opens p ≡ Some b → contains_text (lower p) seen ≡ false → next i seen e p ≡ Some (AtBlock i seen e (lower p) b)
  next_block i seen e p b f new =
      ap (λ x. if x then Some (InPrivate i e []) else (if contains_text (lower p) seen then None else opened step_front front_ends step_body body_ends opens put none is_x is_own i seen e (lower p) (opens p))) (sound.opens_no_x p b f)
      ∙ ap (λ x. if x then None else opened step_front front_ends step_body body_ends opens put none is_x is_own i seen e (lower p) (opens p)) new
      ∙ ap (opened step_front front_ends step_body body_ends opens put none is_x is_own i seen e (lower p)) f

  -- ---- what is meant is found

  -- a run to a part that may end
  abbrev Leads : Stage → List Text → I → List Text → E → Type 0
  Leads s ps i seen e = (t : Stage) × (run after (Some s) ps ≡ Some t) × IsDone t i seen e

  one_block_runs : (s : Stage) (i : I) (seen : List Text) (e : E) (b : Block V) → IsDone s i seen e → IsBlock MeansBody b → contains_text (block_key b) seen ≡ false
      → Leads s (spelled_block b) i (seen ++ block_key b ∷ []) (put (block_key b) b.value e)
  one_block_runs s i seen e b done is new = filled b.body refl
    where
      filled : (ps : List Text) → b.body ≡ ps → Leads s (spelled_block b) i (seen ++ block_key b ∷ []) (put (block_key b) b.value e)
      filled [] f = absurd (is.filled f)
      filled (p ∷ ps) f =
          let o = sound.opened_by b.singleton b.body b.value is.meant in
          let r = (sound.body b.singleton o.0 o.1).only (p ∷ ps) b.value (subst (λ l. MeansBody b.singleton l b.value) f is.meant) in
          let g = first_step step_body o.0 r.0 p ps r.1 in
          let opening : after s b.singleton ≡ Some (AtBlock i seen e (block_key b) o.0) =
          done_next s i seen e b.singleton done (sound.opens_single b.singleton o.0 o.1) ∙ next_block i seen e b.singleton o.0 o.1 new in
          let inside : run after (Some (AtBlock i seen e (block_key b) o.0)) (p ∷ ps) ≡ Some (InBlock i seen e (block_key b) r.0) =
          run_begun after (AtBlock i seen e (block_key b) o.0) (InBlock i seen e (block_key b) g.0) _ p ps (first_steps i seen e (block_key b) o.0 g.0 p g.1) (body_runs i seen e (block_key b) g.0 r.0 ps g.2) in
          let whole : run after (Some s) (b.singleton ∷ (p ∷ ps)) ≡ Some (InBlock i seen e (block_key b) r.0) =
          run_begun after s (AtBlock i seen e (block_key b) o.0) _ b.singleton (p ∷ ps) opening inside in
          (InBlock i seen e (block_key b) r.0, subst (λ l. run after (Some s) (b.singleton ∷ l) ≡ Some (InBlock i seen e (block_key b) r.0)) (sym f) whole, (b.value, r.2, refl, refl, refl))

  blocks_run : (blocks : List (Block V)) (s : Stage) (i : I) (seen : List Text) (e : E) → IsDone s i seen e → AllByRecursion (IsBlock MeansBody) blocks → AreApart (seen ++ map block_key blocks)
      → Leads s (flat_map spelled_block blocks) i (seen ++ map block_key blocks) (blocks_meaning put e blocks)
  blocks_run [] s i seen e done each apart = (s, refl, subst (λ l. IsDone s i l e) (sym (append-nil seen)) done)
  blocks_run (b ∷ bs) s i seen e done each apart =
      let one = one_block_runs s i seen e b done each.0 (apart_new seen (block_key b) (map block_key bs) apart) in
      let keys : (seen ++ block_key b ∷ []) ++ map block_key bs ≡ seen ++ (block_key b ∷ map block_key bs) = append_assoc seen (block_key b ∷ []) (map block_key bs) in
      let more = blocks_run bs one.0 i (seen ++ block_key b ∷ []) (put (block_key b) b.value e) one.2 each.1 (subst AreApart (sym keys) apart) in
      (more.0, run_joined after s one.0 (Some more.0) (spelled_block b) (flat_map spelled_block bs) one.1 more.1, subst (λ l. IsDone more.0 i l (blocks_meaning put e (b ∷ bs))) keys more.2)

  abbrev Ends : Stage → List Text → Whole I E → Type 0
  Ends s ps m = (t : Stage) × (run after (Some s) ps ≡ Some t) × (ends t ≡ Some m)

  private_runs : (last own : List Text) (s : Stage) (i : I) (seen : List Text) (e : E) → IsDone s i seen e → IsOwnPart is_x is_own last own → Ends s last (record { language = i; extensions = e; private_use = own })
  private_runs [] own s i seen e done private = (s, refl, done_ends s i seen e done ∙ ap (λ l. Some (record { language = i; extensions = e; private_use = l })) (sym private))
  private_runs (x ∷ []) own s i seen e done private = absurd (private.1 refl)
  private_runs (x ∷ p ∷ ps) own s i seen e done private =
      let opening : after s x ≡ Some (InPrivate i e []) = done_next s i seen e x done (sound.x_single x private.0) ∙ next_private i seen e x private.0 in (
        InPrivate i e (map lower (p ∷ ps)),
        run_begun after s (InPrivate i e []) _ x (p ∷ ps) opening (own_runs i e [] (p ∷ ps) private.2),
        ap (λ l. Some (record { language = i; extensions = e; private_use = l })) private.3,
      )

  only : (ps : List Text) (m : Whole I E) → Meant ps m → Ends (InFront start) ps m
  only ps m a =
      let r = sound.front.only a.front m.language a.meant in
      let done : IsDone (InFront r.0) m.language [] none = (r.2, refl, refl) in
      let bs = blocks_run a.blocks (InFront r.0) m.language [] none done a.each a.apart in
      let w = private_runs a.last m.private_use bs.0 m.language (map block_key a.blocks) (blocks_meaning put none a.blocks) bs.2 a.private in
      let back : run after (Some (InFront r.0)) (flat_map spelled_block a.blocks ++ a.last) ≡ Some w.0 = run_joined after (InFront r.0) bs.0 _ (flat_map spelled_block a.blocks) a.last bs.1 w.1 in
      let whole : run after (Some (InFront start)) (a.front ++ (flat_map spelled_block a.blocks ++ a.last)) ≡ Some w.0 =
      run_joined after (InFront start) (InFront r.0) _ a.front (flat_map spelled_block a.blocks ++ a.last) (front_runs start r.0 a.front r.1) back in
      (w.0, subst (λ l. run after (Some (InFront start)) l ≡ Some w.0) a.parts whole, w.2 ∙ ap (λ x. Some (record { language = m.language; extensions = x; private_use = m.private_use })) a.together)

  -- ---- each stage goes on to some end

  in_block_goes_on : (i : I) (seen : List Text) (e : E) (k : Text) (b : B) → (more : List Text) × (t : Stage) × (m : Whole I E) × (run after (Some (InBlock i seen e k b)) more ≡ Some t) × (ends t ≡ Some m)
  in_block_goes_on i seen e k b =
      let w = sound.body_goes_on b in
      (w.0, InBlock i seen e k w.1, record { language = i; extensions = put k w.2 e; private_use = [] }, body_runs i seen e k b w.1 w.0 w.3, ap (option_map (λ v. record { language = i; extensions = put k v e; private_use = [] })) w.4)

  goes_on : CanEnd after ends
  goes_on (InFront l) =
      let w = sound.front.goes_on l in
      (w.0, InFront w.1, record { language = w.2; extensions = none; private_use = [] }, front_runs l w.1 w.0 w.3, ap (option_map (λ x. record { language = x; extensions = none; private_use = [] })) w.4)
  goes_on (AtBlock i seen e k b) =
      let f = sound.body_begins b in
      let w = in_block_goes_on i seen e k f.1 in
      (f.0 ∷ w.0, w.1, w.2, run_begun after (AtBlock i seen e k b) (InBlock i seen e k f.1) (Some w.1) f.0 w.0 (first_steps i seen e k b f.1 f.0 f.2) w.3, w.4)
  goes_on (InBlock i seen e k b) = in_block_goes_on i seen e k b
  goes_on (InPrivate i e []) =
      let o = sound.some_own in
      (o.0 ∷ [], InPrivate i e (lower o.0 ∷ []), record { language = i; extensions = e; private_use = lower o.0 ∷ [] }, run_begun after (InPrivate i e []) (InPrivate i e (lower o.0 ∷ [])) _ o.0 [] (own_steps i e [] o.0 o.1) refl, refl)
  goes_on (InPrivate i e (w ∷ ws)) = ([], InPrivate i e (w ∷ ws), record { language = i; extensions = e; private_use = w ∷ ws }, refl, refl)

  pub whole_reader : IsReader after (InFront start) ends Meant
  whole_reader = record { found = whole_found step_front start front_ends MeansFront step_body body_ends opens MeansBody put none is_x is_own sound; only = only; goes_on = goes_on }
