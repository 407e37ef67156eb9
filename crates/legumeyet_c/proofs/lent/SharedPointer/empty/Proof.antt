-- `empty` makes the null pointer, which shows nothing.
use Rattle.std.proofs.Common.{[], ◌∷◌, refl, lit<}
use Rattle.std.specs.Prelude.{None}
use base.Fml.{ftrue}
use base.Logic.{id⊢, emp}
use types.Kit.{‵, raw, ◌$◌, ◌∵◌, !, qed, drop, fjoin, use0, suffices, done}
use types.Run.{and_then, no_more, lit, enter, returns}
use types.ByLocal.{alloc_all, pass_all, free_all, look_at, sets}
use types.Part.{agg}
use denote.RawPtr.{null_ptr}
use denote.Steps.{nothing}
use denote.Triple.Entry.{on_entry}
use denote.Triple.Walked.{walk_of, says, ends_at}
use Rattle.std.proofs.raw_atomic.Walks.{proved}
use Rattle.legumeyet_c.proofs.LentSteps.{Data, made, word}
use Rattle.legumeyet_c.specs.contracts.lent.SharedPointer.empty as f
use Rattle.legumeyet_c.proofs.lent.SharedPointer.empty.Statement.{statement}
use Rattle.legumeyet_c.proofs.lent.SharedPointer.empty.Code as code

pub empty_spec : {M : Type 1} → statement M
empty_spec 𝓤 𝓛 𝓜 𝓡 wired =
    let clauses = f.clauses 𝓛 𝓜.mem 𝓡.returns in let W = walk_of 𝓛 f.ended tt clauses in
    proved 𝓛 f.ended tt clauses 𝓜 𝓡 tt f.Key.name code.function (code.unfolded 𝓤 𝓛.H 𝓜 𝓡 wired)
    (λ κs. tt) (λ κs. tt) (λ κs qs bounds a _ are.
    let y : W.Ghost = ((κs, qs, bounds, a, tt), tt) in
    qed 𝓛 (raw (on_entry 𝓛 f.signature κs qs a y.0.4) ∷ ‵ ftrue ∷ []) ∵ drop ! $ drop ! $
    enter ! _ _ _ _ _ $ alloc_all ! (λ l. pass_all ! refl tt $
    sets ! (agg ! (and_then ! (lit ! tt) (no_more !))) refl (tt, (record { fits = lit< tt }, tt)) $
    returns ! (look_at ! 0 refl) $ free_all ! refl $
    use0 𝓛 (‵ ftrue) (id⊢ 𝓤 (emp 𝓤)) $ use0 𝓛 (‵ (Data.own_val (null_ptr, tt) (word null_ptr ∷ []))) (made 𝓛 null_ptr) $ fjoin ! $
    suffices ! _ (ends_at 𝓛 f.ended tt clauses y (word null_ptr) (record { at = null_ptr; value = None }) tt tt) $
    says ! refl $ nothing ! $ nothing ! $ done !))
