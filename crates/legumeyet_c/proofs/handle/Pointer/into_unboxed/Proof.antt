-- `into_unboxed` gives the pointer back, with what it owns.
use Rattle.std.proofs.Common.{◌≡◌, List, [], ◌∷◌, ◌++◌, refl, sym, ap, ◌∙◌, subst}
use Rattle.std.specs.Prelude.{Option, Some, is_some, true}
use base.Fml.{ftrue}
use base.Logic.{SProp, ent, id⊢, never, fst∗}
use types.Logic.{sem}
use mir.Raw.{raw as bare}
use mir.Val.{Val, vptr}
use prog.Wp.{WpFn}
use types.Kit.{‵, raw, ◌⊛◌, ◌$◌, ◌∵◌, !, qed, drop, keep, move, split, fsplit, fpick, join, rewrite, suffices, use1, done}
use types.Run.{and_then, no_more, of_opd, fld, stop, enter, returns}
use types.ByLocal.{alloc_all, pass_all, free_all, look_at, get, get_in, sets}
use types.Part.{agg, sub, whole}
use contract.Monad.{fact}
use contract.Running.{tables}
use denote.Memory.{lone}
use denote.RattleType.{RattleType, owns}
use denote.RawPtr.{Ptr, block_ptr, null_ptr, ptr_val, in_a_block}
use denote.Signature.{plain}
use denote.Steps.{nothing, heard}
use denote.Triple.Walked.{Stays, stay_dropped, walk_of, says, ends_at}
use Rattle.std.specs.Box.Ownership.{box_owns}
use Rattle.std.specs.declared.alloc.Global.{Global}
use Rattle.std.specs.contracts.alloc.Global as global
use Rattle.std.proofs.BoxSteps.Form.{D, word, box_typed}
use Rattle.std.proofs.BoxSteps.Steps.{box_in}
use Rattle.std.proofs.alloc.Calls.{token, Goes-blank, handle_tells}
use Rattle.std.proofs.raw_atomic.Walks.{proved_at}
use Rattle.legumeyet_c.specs.Owned.{owned}
use Rattle.legumeyet_c.proofs.AsBox.{E, Apart}
use Rattle.legumeyet_c.proofs.PointerValues.{lone_field, pointer_out, content_there}
use Rattle.legumeyet_c.specs.contracts.content.Content as content
use Rattle.legumeyet_c.specs.contracts.handle.Pointer as pointer
use Rattle.legumeyet_c.specs.contracts.handle.Pointer.into_unboxed as f
use Rattle.legumeyet_c.proofs.handle.Pointer.into_unboxed.Statement.{statement}
use Rattle.legumeyet_c.proofs.handle.Pointer.into_unboxed.Code as code

abbrev C : RattleType
C = content.the_row

abbrev P : RattleType
P = pointer.the_row

abbrev Heap : RattleType
Heap = global.the_row

abbrev stayed : Stays (f.ended).signature.params (f.ended).kept
stayed = (stay_dropped (plain (λ _. P)) (f.ended).kept.0, (stay_dropped (plain (λ _. Heap)) (f.ended).kept.1.0, tt))

pub into_unboxed_spec : {M : Type 1} → statement M
into_unboxed_spec 𝓤 𝓛 𝓜 𝓡 wired =
    let clauses = f.clauses 𝓛 𝓜.mem 𝓡.returns in let W = walk_of 𝓛 f.ended stayed clauses in let 𝓣 = tables 𝓤 𝓛.H 𝓜 𝓡 𝓡.env in
    proved_at 𝓛 f.ended stayed clauses 𝓜 𝓡 (Goes-blank 𝓛 0 (plain (λ _. P)) (f.ended).kept.0 (λ κs x w. tt), (Goes-blank 𝓛 0 (plain (λ _. Heap)) (f.ended).kept.1.0 (λ κs x w. tt), tt))
    f.Key.name code.function (code.unfolded 𝓤 𝓛.H 𝓜 𝓡 wired) (λ z are.
    let Run : List Val → SProp 𝓤 = λ words. WpFn 𝓤 𝓛.H 𝓣.C 𝓣.Λ code.function words (W.post z) in
    let given = z.0.3.0 in let alloc = z.0.3.1.0 in
    qed 𝓛 ((‵ ftrue ⊛ ‵ (owns (P ∷ Heap ∷ []) z.0.3 z.0.4)) ∷ raw (fact 𝓤 (is_some given.value ≡ true)) ∷ []) ∵ split ! $ drop ! $ move ! (1 ∷ []) $
    heard ! (is_some given.value ≡ true) (λ there.
    let x = (content_there given.value there).0 in let is : given.value ≡ Some x = (content_there given.value there).1 in
    fsplit ! $ pointer_out ! given z.0.4.0 (λ words. rewrite ! 0 (λ (value : Option C.Denot). ‵ (owned C given.at value)) is refl $
    fpick ! (λ (heap : Global).
    in_a_block ! given.at (λ at. box_owns (token E.al heap) C at x) (fst∗ 𝓤 (never 𝓤) (sem 𝓛 (token E.al heap (bare (lone C.mir)) null_ptr))) (λ b o at_block.
    move ! (1 ∷ []) $ fsplit ! $ handle_tells E.al ! alloc z.0.4.1.0 (λ h us fits. move ! (2 ∷ 0 ∷ []) $
    -- [the block; the handle of the heap; nothing]
    let w : Val = lone_field (vptr b o) in
    suffices ! (Run (w ∷ h ∷ [])) (subst (λ (vs : List Val). ent 𝓤 (Run (w ∷ h ∷ [])) (Run vs))
    (sym (λ i. (words ∙ ap (λ (at : Ptr). lone_field (ptr_val at) ∷ []) at_block) i ++ (us i ++ []))) (id⊢ 𝓤 (Run (w ∷ h ∷ [])))) $
    enter ! _ _ _ _ _ $ alloc_all ! (λ l. pass_all ! refl ((tt, (tt, tt)), (fits, tt)) $
    sets ! (of_opd ! (get_in ! (fld ! refl (stop !)) (sub ! 0 refl (whole !)))) refl (tt, tt) $
    sets ! (of_opd ! (get ! refl)) refl (tt, tt) $
    sets ! (agg ! (and_then ! (get ! refl) (and_then ! (get ! refl) (no_more !)))) refl (box_typed E h b o fits) $
    returns ! (look_at ! 0 refl) $ free_all ! refl $ keep ! (0 ∷ 1 ∷ []) $ fsplit ! $
    let made : D E = record { ptr = block_ptr b o; alloc = alloc; value = x } in
    let apart : Apart.Denot = record { at = block_ptr b o; alloc = alloc; value = x } in
    box_in E ! made b o x refl refl $ use1 𝓛 (‵ (Apart.own_val apart (word E h b o ∷ []))) (id⊢ 𝓤 _) $
    suffices ! _ (ends_at 𝓛 f.ended stayed clauses z (word E h b o) apart (tt, (tt, tt)) (tt, (tt, tt))) $
    says ! is $ nothing ! $ nothing ! $ join ! $ nothing ! $ join ! $ nothing ! $ done !)))))))
