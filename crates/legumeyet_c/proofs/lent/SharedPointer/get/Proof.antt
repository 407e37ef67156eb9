-- `get` shows what is lent for as long as the pointer is borrowed.
use Rattle.std.proofs.Common.{◌≡◌, List, [], ◌∷◌, refl, sym, ap, ◌∙◌}
use Rattle.std.specs.Prelude.{Option, Some, is_some, true}
use mir.Syntax.{named}
use mir.Val.{Val, vptr}
use base.Fml.{Lft, Fml, ftrue, flft}
use base.Logic.{SProp, emp}
use types.Kit.{‵, raw, ◌⊛◌, at_ret, ◌$◌, ◌∵◌, !, qed, by, move, keep, split, join, fsplit, fjoin, rewrite, use0, use1, feq_i}
use types.Run.{addr, of_opd, load, fld, stop, first, blocks, exec, enter, returns}
use types.ByLocal.{alloc_all, pass_all, free_all, look_at, get, through, sets, sets_last, env}
use types.Part.{sub, whole, look_in}
use contract.BorrowLft.{⊑_static}
use contract.Monad.{fact, fact_i}
use contract.Running.{tables}
use denote.Builtin.{RefOf}
use denote.Exit.{yes}
use denote.Laws.{Is, shows}
use denote.Memory.{cell_at}
use denote.Opens.{hide}
use denote.RattleType.{owns}
use denote.RawPtr.{Ptr, InBlock, block_ptr, block_of, count_of, at_block}
use denote.Ref.{shr_vals, shr_Tells}
use denote.SharingLaws.{shortens}
use denote.Signature.{plain, types_at}
use denote.Steps.{nothing, heard, looks, peeks, shuts}
use denote.Struct.Lending.{lent_at, lent_at_shr_laws, in_block_says}
use denote.Triple.Walked.{Stays, stay_dropped, walk_of, Goes-dropped}
use Rattle.std.proofs.VecSteps.Shapes.{after}
use Rattle.std.proofs.raw_atomic.Walks.{leaves, proved}
use Rattle.legumeyet_c.specs.Lent.{lent}
use Rattle.legumeyet_c.proofs.LentSteps.{R, Row, word, laws, told, lent_twice, opened}
use Rattle.legumeyet_c.proofs.PointerValues.{content_there}
use Rattle.legumeyet_c.specs.contracts.lent.SharedPointer.get as f
use Rattle.legumeyet_c.proofs.lent.SharedPointer.get.Statement.{statement}
use Rattle.legumeyet_c.proofs.lent.SharedPointer.get.Code as code

pub get_spec : {M : Type 1} → statement M
get_spec 𝓤 𝓛 𝓜 𝓡 wired =
    let 𝓣 = tables 𝓤 𝓛.H 𝓜 𝓡 𝓡.env in let fn = code.function in let c = f.clauses 𝓛 𝓜.mem 𝓡.returns in
    let self = RefOf (0 ∷ []) tt (plain (λ _. Row)) (λ _. tt) in let hs : Stays (f.ended).signature.params (f.ended).kept = (stay_dropped self yes, tt) in
    let W = walk_of 𝓛 f.ended hs c in
    proved 𝓛 f.ended hs c 𝓜 𝓡 (Goes-dropped 𝓛 1 self yes (λ κs x f. refl), tt) f.Key.name fn (code.unfolded 𝓤 𝓛.H 𝓜 𝓡 wired)
    (λ κs. (shr_vals, tt)) (λ κs. (shr_Tells (named 0) κs.0 Row, tt)) (λ κs qs bounds a gh are.
    let b = a.0.ref_ptr.0 in let o = a.0.ref_ptr.1 in let κ : Lft = κs.0 in let d : Row.Denot = a.0.now in let p : Ptr = d.at in let L : Fml = lent R p d.value in
    let y : W.Ghost = ((κs, qs, bounds, a, (vptr b o ∷ [], tt)), gh) in let Post : Val → SProp 𝓤 = W.post y in let there : Val = vptr (block_of p) (count_of p) in
    qed 𝓛 (((‵ (flft κ qs.0) ⊛ ‵ ftrue) ⊛ ‵ (owns (types_at (f.ended).signature.params κs) a y.0.4)) ∷ raw (fact 𝓤 (is_some d.value ≡ true)) ∷ []) ∵
    move ! (1 ∷ []) $ heard ! (is_some d.value ≡ true) (λ has.
    let x : R.Denot = (content_there d.value has).0 in let is : d.value ≡ Some x = (content_there d.value has).1 in
    split ! $ split ! $ move ! (2 ∷ []) $ fsplit ! $ fsplit ! $ keep ! (1 ∷ 3 ∷ 4 ∷ []) $
    enter ! 𝓣.C 𝓣.Λ fn (vptr b o ∷ []) Post $ alloc_all ! (λ l. pass_all ! refl ((tt, tt), tt) $ let Ev = env fn.locals l in
    looks ! tt Row (opened 𝓛) d b o (λ q vs. move ! (1 ∷ []) $ peeks ! Row (Is Row) (shows 𝓛 Row) d vs (λ so. fsplit ! $ move ! (1 ∷ []) $
    -- [what is lent; the field; the cell; the way back; the borrow; ..]
    use1 𝓛 (‵ L ⊛ ‵ L) (lent_twice 𝓛 p d.value) $ split ! $ rewrite ! 0 (λ (v : Option R.Denot). ‵ (lent R p v)) is refl $
    use1 𝓛 (‵ (lent_at R p x κ)) (shortens 𝓛 (lent_at R p x) (lent_at_shr_laws R laws p x) [] κ (⊑_static κ)) $ fsplit ! $
    use1 𝓛 (raw (fact 𝓤 (InBlock p))) (in_block_says 𝓛 p) $ heard ! (InBlock p) (λ inb. hide ! $
    -- [the tables; what is lent; the field; the cell; the way back; the borrow; ..]
    let ev : vs ≡ word (block_ptr (block_of p) (count_of p)) ∷ [] = told d vs so ∙ ap (λ (r : Ptr). word r ∷ []) (at_block p inb) in
    rewrite ! 3 (λ (ws : List Val). ‵ (cell_at q Row.mir ws b o)) ev refl $ first ! $ blocks ! $
    sets ! (of_opd ! (load ! (through ! refl (fld ! refl (stop !))) (look_in ! 3 (sub ! 0 refl (whole !))))) refl (tt, tt) $
    sets ! (of_opd ! (get ! refl)) refl (tt, tt) $
    sets_last ! (addr ! (through ! refl (stop !))) refl (tt, tt) $ exec ! 𝓣.C 𝓣.Λ Ev (after 1 fn.body) (at_ret Ev Post) $
    sets ! (of_opd ! (get ! refl)) refl (tt, tt) $
    rewrite ! 3 (λ (ws : List Val). ‵ (cell_at q Row.mir ws b o)) (sym ev) refl $
    move ! (2 ∷ 1 ∷ []) $ fjoin ! $ move ! (2 ∷ 0 ∷ 3 ∷ []) $ shuts ! tt Row q d vs b o $
    -- [the token; the tables; the borrow; nothing; ..]
    move ! (0 ∷ 3 ∷ []) $ join ! $ move ! (1 ∷ []) $ feq_i ! (List Val) (there ∷ []) (there ∷ []) refl $ fjoin ! $
    use0 𝓛 (raw (fact 𝓤 (d.value ≡ Some x))) (fact_i 𝓤 (d.value ≡ Some x) (emp 𝓤) is) $ nothing ! $ nothing ! $ fjoin ! $
    returns ! (look_at ! 0 refl) $ free_all ! refl $ keep ! (3 ∷ 0 ∷ 2 ∷ 1 ∷ []) $
    by ! (leaves 𝓛 f.ended hs c y there (record { ref_ptr = (block_of p, count_of p); now = x }) (tt, tt) (tt, tt))))))))
