-- `to` keeps what a `&'static` shows.
use Rattle.std.proofs.Common.{[], ◌∷◌, refl}
use Rattle.std.specs.Prelude.{Some}
use mir.Syntax.{static}
use mir.Val.{vptr}
use base.Fml.{ftrue}
use base.Logic.{id⊢, emp}
use types.Kit.{‵, ◌⊛◌, ◌$◌, ◌∵◌, !, qed, keep, drop, split, join, fsplit, fjoin, use0, suffices, done}
use types.Run.{and_then, no_more, addr, of_opd, stop, enter, returns}
use types.ByLocal.{alloc_all, pass_all, free_all, look_at, get, through, sets}
use types.Part.{agg}
use denote.Builtin.{RefOf}
use denote.Exit.{yes}
use denote.Opens.{unhide}
use denote.RattleType.{owns}
use denote.RawPtr.{block_ptr}
use denote.Ref.{shr_vals, shr_Tells}
use denote.Signature.{plain, types_at}
use denote.Steps.{nothing}
use denote.Triple.Walked.{Stays, stay_dropped, walk_of, says, ends_at, Goes-dropped}
use Rattle.std.proofs.raw_atomic.Walks.{proved}
use Rattle.legumeyet_c.proofs.LentSteps.{R, Data, made, word}
use Rattle.legumeyet_c.specs.contracts.lent.SharedPointer.to as f
use Rattle.legumeyet_c.proofs.lent.SharedPointer.to.Statement.{statement}
use Rattle.legumeyet_c.proofs.lent.SharedPointer.to.Code as code

pub to_spec : {M : Type 1} → statement M
to_spec 𝓤 𝓛 𝓜 𝓡 wired =
    let clauses = f.clauses 𝓛 𝓜.mem 𝓡.returns in let self = RefOf [] tt (plain (λ _. R)) (λ _. tt) in
    let hs : Stays (f.ended).signature.params (f.ended).kept = (stay_dropped self yes, tt) in let W = walk_of 𝓛 f.ended hs clauses in
    proved 𝓛 f.ended hs clauses 𝓜 𝓡 (Goes-dropped 𝓛 0 self yes (λ κs x f. refl), tt) f.Key.name code.function (code.unfolded 𝓤 𝓛.H 𝓜 𝓡 wired)
    (λ κs. (shr_vals, tt)) (λ κs. (shr_Tells static [] R, tt)) (λ κs qs bounds a _ are.
    let b = a.0.ref_ptr.0 in let o = a.0.ref_ptr.1 in
    let y : W.Ghost = ((κs, qs, bounds, a, (vptr b o ∷ [], tt)), tt) in
    qed 𝓛 ((‵ ftrue ⊛ ‵ (owns (types_at (f.ended).signature.params κs) a y.0.4)) ∷ ‵ ftrue ∷ []) ∵
    split ! $ drop ! $ fsplit ! $ fsplit ! $ drop ! $ keep ! (0 ∷ []) $ unhide ! $
    use0 𝓛 (‵ ftrue) (id⊢ 𝓤 (emp 𝓤)) $ fjoin ! $
    enter ! _ _ _ _ _ $ alloc_all ! (λ l. pass_all ! refl ((tt, tt), tt) $
    sets ! (addr ! (through ! refl (stop !))) refl (tt, tt) $
    sets ! (of_opd ! (get ! refl)) refl (tt, tt) $
    sets ! (agg ! (and_then ! (get ! refl) (no_more !))) refl (tt, (tt, tt)) $
    returns ! (look_at ! 0 refl) $ free_all ! refl $ keep ! (0 ∷ []) $
    use0 𝓛 (‵ (Data.own_val (block_ptr b o, tt) (word (block_ptr b o) ∷ []))) (made 𝓛 (block_ptr b o)) $ fjoin ! $
    suffices ! _ (ends_at 𝓛 f.ended hs clauses y (word (block_ptr b o)) (record { at = block_ptr b o; value = Some a.0.now }) (tt, tt) (tt, tt)) $
    says ! refl $ nothing ! $ nothing ! $ join ! $ nothing ! $ done !))
