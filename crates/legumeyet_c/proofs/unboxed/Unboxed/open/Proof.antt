-- `open` takes a box apart: the parts own what it owned.
use Rattle.std.proofs.Common.{◌≡◌, List, [], ◌∷◌, ◌++◌, refl, sym, ap, ◌∙◌, subst}
use mir.Syntax.{Args, a_type, dcons, dnil}
use mir.MapTy.{inst_fn}
use mir.Raw.{raw as bare}
use mir.Val.{Val, vstruct, of_list}
use base.Logic.{SProp, ent, id⊢, never, fst∗}
use base.Fml.{ftrue, fsep, flft}
use prog.Wp.{WpFn}
use types.Logic.{sem}
use types.Kit.{Item, ‵, raw, ◌⊛◌, some, later, ◌$◌, ◌∵◌, !, qed, move, drop, split, split3, join, fsplit, fjoin, fpick, pick, suffices, use1, await, rewrite, feq_l, done}
use types.Run.{stop, fld, of_opd, no_more, and_then, returns, enter}
use types.ByLocal.{alloc_all, pass_all, free_all, look_at, get, get_in, sets, lands_as}
use types.Part.{agg, sub, whole}
use contract.Monad.{fact}
use contract.Running.{tables}
use denote.Exit.{no}
use denote.RattleType.{RattleType}
use denote.RawPtr.{Ptr, RawPtr, block_ptr, null_ptr, ptr_val, in_a_block}
use denote.Signature.{plain}
use denote.Steps.{heard, nothing, only}
use denote.Param.{bounded}
use denote.Struct.Tuple.{Tuple}
use denote.Triple.Call.{calls_at}
use denote.Triple.Spec.{triple_of}
use denote.Triple.Table.{framed}
use denote.Triple.Walked.{Stays, stay_dropped, walk_of, says, ends_at}
use Rattle.std.specs.Box.Ownership.{box_owns}
use Rattle.std.proofs.BoxSteps.Form.{Bx, B, D, P, R, τ, word, box_typed}
use Rattle.std.proofs.BoxSteps.Steps.{box_in, box_out}
use Rattle.std.proofs.alloc.Calls.{token, Goes-blank, handle_tells}
use Rattle.std.proofs.raw_atomic.Walks.{proved_at}
use Rattle.std.specs.contracts.boxed.Box.into_raw_with_allocator as taking
use Rattle.std.proofs.boxed.Box.into_raw_with_allocator.Met.{met}
use Rattle.legumeyet_c.specs.contracts.unboxed.Unboxed as unboxed
use Rattle.legumeyet_c.specs.contracts.unboxed.Unboxed.open as f
use Rattle.legumeyet_c.proofs.unboxed.Unboxed.open.Statement.{statement}
use Rattle.legumeyet_c.proofs.unboxed.Unboxed.open.Code as code

pub open_spec : {M : Type 1} → statement M
open_spec 𝓤 𝓛 𝓜 𝓡 wired T A laws alloc_laws g d dx dd allocator glue glued =
    let E : Bx = record { row = T; laws = laws; al = record { row = A; laws = alloc_laws; g = g; d = d; drops = dd } } in
    let args : Args = bounded (a_type ∷ a_type ∷ []) (T, (A, tt)) (dcons d (dcons dx (dcons dd dnil))) in let fn = inst_fn args code.function in
    let clauses = f.clauses T A g d dx dd 𝓛 𝓜.mem 𝓡.returns in let ended = f.ended T A g d dx dd in
    let stayed : Stays ended.signature.params ended.kept = (stay_dropped (plain (λ _. B E)) no, tt) in
    let 𝓣 = tables 𝓤 𝓛.H 𝓜 𝓡 𝓡.env in
    let taken = triple_of 𝓛 (taking.signature T A g d dd dx) (taking.spec T A g d dd dx 𝓛 𝓜.mem 𝓡.returns) in
    let takes = met 𝓤 𝓛 𝓜 𝓡 (code.calls-std_alloc::boxed::Box::into_raw_with_allocator 𝓡.env wired) T A laws alloc_laws g d dd dx allocator glued glue in
    proved_at 𝓛 ended stayed clauses 𝓜 𝓡 (Goes-blank 𝓛 2 (plain (λ _. B E)) no (λ κs x w. tt), tt) (f.Key.name args) fn (code.unfolded 𝓤 𝓛.H 𝓜 𝓡 wired (T, (A, tt)) d dx dd) (λ z are.
    let κs = z.0.0 in let qs = z.0.1 in let given = z.0.3.0 in let heap = given.alloc in
    let Run : List Val → SProp 𝓤 = λ words. WpFn 𝓤 𝓛.H 𝓣.C 𝓣.Λ fn words ((walk_of 𝓛 ended stayed clauses).post z) in
    let tokens : Item 𝓤 = ‵ (flft κs.0 qs.0) ⊛ ‵ (flft κs.1.0 qs.1.0) ⊛ ‵ ftrue in
    qed 𝓛 ((tokens ⊛ ‵ (fsep ((B E).own_val given z.0.4.0) ftrue)) ∷ raw ((clauses κs z.0.3).requires z.1) ∷ []) ∵ split ! $ move ! (1 ∷ []) $ fsplit ! $
    box_out E ! given z.0.4.0 (λ b o h at_block words fits. box_in E ! given b o given.value at_block refl $
    let w : Val = word E h b o in let y : taken.Ghost = ((κs, qs, tt, (given, tt), (w ∷ [], tt)), tt) in
    -- [the box; nothing; the tokens; the lifetimes last]
    fjoin ! $ move ! (1 ∷ 0 ∷ []) $ join ! $ join ! $ use1 𝓛 (raw (taken.pre y)) (id⊢ 𝓤 _) $
    suffices ! (Run (w ∷ [])) (subst (λ (us : List Val). ent 𝓤 (Run (w ∷ [])) (Run us)) (sym (λ i. words i ++ [])) (id⊢ 𝓤 (Run (w ∷ [])))) $
    enter ! _ _ _ _ _ $ alloc_all ! (λ l. pass_all ! refl (box_typed E h b o fits, tt) $ sets ! (of_opd ! (get ! refl)) refl (box_typed E h b o fits) $
    calls_at ! (framed 𝓤 𝓛.H 𝓜 𝓣) taken takes y (and_then ! (get ! refl) (no_more !)) (λ v.
    use1 𝓛 (later (some (λ (r : Ptr × A.Denot). (tokens ⊛ ‵ ((Tuple (RawPtr ∷ P E ∷ [])).own_val r (v ∷ []))) ⊛ some (λ (_ : (Unit {0} × (Unit {0} × Unit {0})) × Unit {0}).
    ‵ (fsep (fsep ftrue (fsep ftrue ftrue)) ftrue) ⊛ (raw (fact 𝓤 (r.1 ≡ heap)) ⊛ ‵ (box_owns (token E.al heap) (R E) r.0 given.value)))))) (id⊢ 𝓤 _) $
    await ! tt $ pick ! (λ r. split ! $ move ! (1 ∷ []) $ pick ! (λ _. split3 ! $ drop ! $ heard ! (r.1 ≡ heap) (λ same_heap.
    in_a_block ! r.0 (λ at. box_owns (token E.al heap) (R E) at given.value) (fst∗ 𝓤 (never 𝓤) (sem 𝓛 (token E.al heap (bare (τ E)) null_ptr))) (λ b' o' at_block'.
    move ! (1 ∷ []) $ split ! $ move ! (1 ∷ []) $ fpick ! (λ fields. fsplit ! $ feq_l ! (λ whole_is. fsplit ! $ feq_l ! (λ first_is. fsplit ! $
    rewrite ! 0 (λ (a : A.Denot). ‵ (A.own_val a fields.1.0)) same_heap refl $ handle_tells E.al ! heap fields.1.0 (λ h' second_is fits'.
    lands_as ! (ap only (whole_is ∙ (λ j. vstruct (of_list ((first_is ∙ ap (λ (at : Ptr). ptr_val at ∷ []) at_block') j ++ (second_is j ++ []))) ∷ []))) refl (box_typed E h' b' o' fits') $
    sets ! (of_opd ! (get_in ! (fld ! refl (stop !)) (sub ! 0 refl (whole !)))) refl (tt, tt) $
    sets ! (of_opd ! (get_in ! (fld ! refl (stop !)) (sub ! 1 refl (whole !)))) refl fits' $ sets ! (of_opd ! (get ! refl)) refl fits' $
    sets ! (agg ! (and_then ! (get ! refl) (and_then ! (get ! refl) (no_more !)))) refl (box_typed E h' b' o' fits') $ returns ! (look_at ! 0 refl) $ free_all ! refl $
    -- [the allocator; nothing; the tokens; the content with the right to free its block]
    let box : D E = record { ptr = block_ptr b' o'; alloc = heap; value = given.value } in let Apart : RattleType = unboxed.the_row (R E) (P E) g in
    let apart : Apart.Denot = record { at = block_ptr b' o'; alloc = heap; value = given.value } in
    move ! (3 ∷ []) $ fsplit ! $ box_in E ! box b' o' given.value refl refl $ use1 𝓛 (‵ (Apart.own_val apart (word E h' b' o' ∷ []))) (id⊢ 𝓤 _) $ move ! (1 ∷ []) $ drop ! $
    suffices ! _ (ends_at 𝓛 ended stayed clauses z (word E h' b' o') apart ((tt, (tt, tt)), tt) (tt, tt)) $ says ! refl $
    nothing ! $ nothing ! $ fjoin ! $ join ! $ move ! (1 ∷ 0 ∷ []) $ join ! $ done !))))))))))))
