-- `to` keeps the pointer of a box that was taken apart, and what it owns.
use Rattle.std.proofs.Common.{List, [], ◌∷◌, ◌++◌, refl, sym, subst}
use Rattle.std.specs.Prelude.{Some}
use base.Fml.{ftrue, fsep}
use base.Logic.{SProp, ent, id⊢}
use mir.Val.{Val, vptr}
use prog.Wp.{WpFn}
use types.Kit.{‵, ◌⊛◌, ◌$◌, ◌∵◌, !, qed, drop, keep, split, fsplit, fjoin, fpack, join, suffices, done}
use types.Run.{and_then, no_more, of_opd, fld, stop, enter, returns}
use types.ByLocal.{alloc_all, pass_all, free_all, look_at, get, get_in, sets}
use types.Part.{agg, sub, whole}
use contract.Running.{tables}
use denote.RawPtr.{block_ptr}
use denote.Steps.{nothing}
use denote.Triple.Walked.{Stays, stay_dropped, walk_of, says, ends_at}
use Rattle.std.specs.Box.Ownership.{box_owns}
use Rattle.std.specs.declared.alloc.Global.{Global}
use Rattle.std.proofs.BoxSteps.Form.{B, D, word, box_typed}
use Rattle.std.proofs.BoxSteps.Steps.{box_out}
use Rattle.std.proofs.alloc.Calls.{token, Goes-blank}
use Rattle.std.proofs.raw_atomic.Walks.{proved_at}
use Rattle.legumeyet_c.proofs.AsBox.{E, ApartSlot}
use Rattle.legumeyet_c.proofs.PointerValues.{lone_field, pointer_in}
use Rattle.legumeyet_c.specs.contracts.content.Content as content
use Rattle.legumeyet_c.specs.contracts.handle.Pointer.to as f
use Rattle.legumeyet_c.proofs.handle.Pointer.to.Statement.{statement}
use Rattle.legumeyet_c.proofs.handle.Pointer.to.Code as code

abbrev stayed : Stays (f.ended).signature.params (f.ended).kept
stayed = (stay_dropped ApartSlot (f.ended).kept.0, tt)

pub to_spec : {M : Type 1} → statement M
to_spec 𝓤 𝓛 𝓜 𝓡 wired =
    let clauses = f.clauses 𝓛 𝓜.mem 𝓡.returns in let W = walk_of 𝓛 f.ended stayed clauses in let 𝓣 = tables 𝓤 𝓛.H 𝓜 𝓡 𝓡.env in
    proved_at 𝓛 f.ended stayed clauses 𝓜 𝓡 (Goes-blank 𝓛 0 ApartSlot (f.ended).kept.0 (λ κs x w. tt), tt) f.Key.name code.function (code.unfolded 𝓤 𝓛.H 𝓜 𝓡 wired) (λ z are.
    let Run : List Val → SProp 𝓤 = λ words. WpFn 𝓤 𝓛.H 𝓣.C 𝓣.Λ code.function words (W.post z) in
    let given : D E = record { ptr = z.0.3.0.at; alloc = z.0.3.0.alloc; value = z.0.3.0.value } in
    qed 𝓛 ((‵ ftrue ⊛ ‵ (fsep ((B E).own_val given z.0.4.0) ftrue)) ∷ ‵ ftrue ∷ []) ∵ split ! $ drop ! $ fsplit ! $
    box_out E ! given z.0.4.0 (λ b o h at_block words fits.
    let w : Val = word E h b o in
    suffices ! (Run (w ∷ [])) (subst (λ (us : List Val). ent 𝓤 (Run (w ∷ [])) (Run us)) (sym (λ i. words i ++ [])) (id⊢ 𝓤 (Run (w ∷ [])))) $
    enter ! _ _ _ _ _ $ alloc_all ! (λ l. pass_all ! refl (box_typed E h b o fits, tt) $
    sets ! (of_opd ! (get_in ! (fld ! refl (stop !)) (sub ! 0 refl (whole !)))) refl (tt, tt) $
    sets ! (of_opd ! (get ! refl)) refl (tt, tt) $
    sets ! (agg ! (and_then ! (get ! refl) (no_more !))) refl (tt, (tt, tt)) $
    -- [the content; the right to free its block]
    returns ! (look_at ! 0 refl) $ free_all ! refl $ keep ! (0 ∷ 1 ∷ []) $ fjoin ! $
    fpack ! Global (λ (heap : Global). box_owns (token E.al heap) content.the_row (block_ptr b o) given.value) given.alloc $
    pointer_in ! (block_ptr b o) (Some given.value) $
    suffices ! _ (ends_at 𝓛 f.ended stayed clauses z (lone_field (vptr b o)) (record { at = block_ptr b o; value = Some given.value }) (tt, tt) (tt, tt)) $
    says ! refl $ nothing ! $ nothing ! $ join ! $ nothing ! $ done !)))
