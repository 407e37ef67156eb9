-- `shut` makes a box of the parts.
use Rattle.std.proofs.Common.{◌≡◌, List, [], ◌∷◌, ◌++◌, refl, sym, ap, subst}
use lib.Dec.{T}
use mir.Syntax.{Args, a_type, dcons, dnil}
use mir.MapTy.{inst_fn}
use mir.Val.{Val, vptr, has_ty, WT}
use base.Logic.{SProp, ent, id⊢}
use base.Fml.{ftrue, fsep, flft}
use prog.Wp.{WpFn}
use types.Kit.{Item, ‵, raw, ◌⊛◌, some, later, at_ret, ◌$◌, ◌∵◌, !, qed, move, drop, split, split3, join, fsplit, fjoin, pick, suffices, use1, await, rewrite, feq_i, done}
use types.Run.{stop, fld, of_opd, no_more, and_then, first, blocks, exec, returns, enter}
use types.ByLocal.{alloc_all, pass_all, free_all, look_at, get, get_in, sets, lands_last, env}
use types.Part.{sub, whole}
use contract.Monad.{fact}
use contract.BorrowLft.{◌⊑◌}
use contract.Running.{tables}
use denote.Exit.{no}
use denote.RattleType.{RattleType}
use denote.RawPtr.{block_ptr}
use denote.Signature.{plain}
use denote.Steps.{heard, nothing, only}
use denote.Param.{bounded}
use denote.Triple.Call.{calls_at_last}
use denote.Triple.Spec.{triple_of}
use denote.Triple.Table.{framed}
use denote.Triple.Walked.{Stays, stay_dropped, walk_of, says, ends_at}
use Rattle.std.proofs.VecSteps.Shapes.{after}
use Rattle.std.proofs.BoxSteps.Form.{Bx, B, D, P, R, box_ty, word, box_typed}
use Rattle.std.proofs.BoxSteps.Steps.{box_in, box_out}
use Rattle.std.proofs.alloc.Calls.{Goes-blank}
use Rattle.std.proofs.raw_atomic.Walks.{proved_at}
use Rattle.std.specs.contracts.boxed.Box.from_raw as making
use Rattle.std.proofs.boxed.Box.from_raw.Met.{met}
use Rattle.legumeyet_c.specs.contracts.unboxed.Unboxed as unboxed
use Rattle.legumeyet_c.specs.contracts.unboxed.Unboxed.shut as f
use Rattle.legumeyet_c.proofs.unboxed.Unboxed.shut.Statement.{statement}
use Rattle.legumeyet_c.proofs.unboxed.Unboxed.shut.Code as code

pub shut_spec : {M : Type 1} → statement M
shut_spec 𝓤 𝓛 𝓜 𝓡 wired X A laws alloc_laws g d dx dd allocator glue glued =
    let E : Bx = record { row = X; laws = laws; al = record { row = A; laws = alloc_laws; g = g; d = d; drops = dd } } in
    let args : Args = bounded (a_type ∷ a_type ∷ []) (X, (A, tt)) (dcons d (dcons dx (dcons dd dnil))) in let fn = inst_fn args code.function in
    let clauses = f.clauses X A g d dx dd 𝓛 𝓜.mem 𝓡.returns in let ended = f.ended X A g d dx dd in
    let Apart : RattleType = unboxed.the_row (R E) (P E) g in
    let stayed : Stays ended.signature.params ended.kept = (stay_dropped (plain (λ _. Apart)) no, tt) in
    let 𝓣 = tables 𝓤 𝓛.H 𝓜 𝓡 𝓡.env in
    let made = triple_of 𝓛 (making.signature X A g d dd) (making.spec X A g d dd 𝓛 𝓜.mem 𝓡.returns) in
    let makes = met 𝓤 𝓛 𝓜 𝓡 (code.calls-std_alloc::boxed::Box::from_raw 𝓡.env wired) X A laws alloc_laws g d dd allocator glued in
    proved_at 𝓛 ended stayed clauses 𝓜 𝓡 (Goes-blank 𝓛 2 (plain (λ _. Apart)) no (λ κs x w. tt), tt) (f.Key.name args) fn (code.unfolded 𝓤 𝓛.H 𝓜 𝓡 wired (X, (A, tt)) d dx dd) (λ z are.
    let κs = z.0.0 in let qs = z.0.1 in let heap = z.0.3.0.alloc in let x = z.0.3.0.value in
    let given : D E = record { ptr = z.0.3.0.at; alloc = heap; value = x } in
    let Post = (walk_of 𝓛 ended stayed clauses).post z in let Run : List Val → SProp 𝓤 = λ words. WpFn 𝓤 𝓛.H 𝓣.C 𝓣.Λ fn words Post in
    let tokens : Item 𝓤 = ‵ (flft κs.0 qs.0) ⊛ ‵ (flft κs.1.0 qs.1.0) ⊛ ‵ ftrue in
    let lasts : Item 𝓤 = raw (fact 𝓤 (κs.0 ⊑ X.lives)) in let heap_lasts : Item 𝓤 = raw (fact 𝓤 (κs.1.0 ⊑ A.lives)) in
    qed 𝓛 ((tokens ⊛ ‵ (fsep ((B E).own_val given z.0.4.0) ftrue)) ∷ (lasts ⊛ heap_lasts ⊛ ‵ ftrue) ∷ []) ∵ split ! $ move ! (1 ∷ []) $ fsplit ! $
    box_out E ! given z.0.4.0 (λ b o h at_block words fits. fjoin ! $
    -- [the content with the right to free its block; the allocator; nothing; the tokens; what lasts]
    let w : Val = word E h b o in let y : made.Ghost = ((κs, qs, tt, (heap, (block_ptr b o, tt)), (h ∷ [], (vptr b o ∷ [], tt))), x) in
    suffices ! (Run (w ∷ [])) (subst (λ (us : List Val). ent 𝓤 (Run (w ∷ [])) (Run us)) (sym (λ i. words i ++ [])) (id⊢ 𝓤 (Run (w ∷ [])))) $
    enter ! _ _ _ _ _ $ alloc_all ! (λ l. pass_all ! refl (box_typed E h b o fits, tt) $ let Ev = env fn.locals l in
    sets ! (of_opd ! (get_in ! (fld ! refl (stop !)) (sub ! 0 refl (whole !)))) refl (tt, tt) $
    sets ! (of_opd ! (get_in ! (fld ! refl (stop !)) (sub ! 1 refl (whole !)))) refl fits $ first ! $ blocks ! $ sets ! (of_opd ! (get ! refl)) refl fits $
    move ! (4 ∷ []) $ split3 ! $ move ! (2 ∷ []) $ drop ! $ move ! (1 ∷ 2 ∷ []) $ join ! $ move ! (1 ∷ 0 ∷ []) $ join ! $
    -- [what the call asks; the allocator; nothing; the tokens]
    move ! (2 ∷ []) $ feq_i ! (List Val) (vptr b o ∷ []) (vptr b o ∷ []) refl $ fjoin ! $ move ! (2 ∷ 0 ∷ []) $ fjoin ! $ move ! (2 ∷ 0 ∷ []) $ join ! $ join ! $
    use1 𝓛 (raw (made.pre y)) (id⊢ 𝓤 _) $
    calls_at_last ! (framed 𝓤 𝓛.H 𝓜 𝓣) made makes y (and_then ! (get ! refl) (and_then ! (get ! refl) (no_more !))) (λ v.
    use1 𝓛 (later (some (λ (r : D E). (tokens ⊛ ‵ ((B E).own_val r (v ∷ []))) ⊛ some (λ (_ : Unit {0} × (Unit {0} × Unit {0})).
    ‵ (fsep ftrue (fsep ftrue ftrue)) ⊛ (raw (fact 𝓤 (r.value ≡ x)) ⊛ raw (fact 𝓤 (r.alloc ≡ heap))))))) (id⊢ 𝓤 _) $
    await ! tt $ pick ! (λ r. split ! $ move ! (1 ∷ []) $ pick ! (λ _. split3 ! $ drop ! $ heard ! (r.value ≡ x) (λ same. drop ! $ split ! $ move ! (1 ∷ []) $
    box_out E ! r (v ∷ []) (λ b' o' h' at_block' word_is fits'. box_in E ! r b' o' r.value at_block' refl $
    rewrite ! 0 (λ (us : List Val). ‵ ((B E).own_val r us)) (sym word_is) refl $
    let typed : T (has_ty (box_ty E) v) × WT v = subst (λ (u : Val). T (has_ty (box_ty E) u) × WT u) (sym (ap only word_is)) (box_typed E h' b' o' fits') in
    lands_last ! refl typed $ exec ! 𝓣.C 𝓣.Λ Ev (after 3 fn.body) (at_ret Ev Post) $ sets ! (of_opd ! (get ! refl)) refl typed $
    returns ! (look_at ! 0 refl) $ free_all ! refl $
    suffices ! _ (ends_at 𝓛 ended stayed clauses z v r ((tt, (tt, tt)), tt) (tt, tt)) $ says ! same $
    nothing ! $ nothing ! $ fjoin ! $ join ! $ move ! (1 ∷ 0 ∷ []) $ join ! $ done !))))))))
