-- `get_mut` lends the content, and the pointer follows it.
use Rattle.std.proofs.Common.{◌≡◌, ℕ, List, [], ◌∷◌, refl, sym, ap, ◌∙◌}
use Rattle.std.specs.Prelude.{Option, Some, is_some, true}
use seplogic.Ra.Ura.{Ura}
use base.Fraction.{full_share}
use base.Fml.{GName, Fml, ftrue, fsep, flft}
use base.Logic.{SProp, ent, sep, never, fst∗}
use mir.Raw.{raw as bare}
use mir.Syntax.{named}
use mir.Val.{Val, vptr}
use types.Logic.{Logic, sem}
use types.Kit.{‵, raw, ◌⊛◌, some, later, at_ret, ◌$◌, ◌∵◌, !, qed, move, keep, split, split3, join, fsplit, fsplit3, fjoin, fpick, fpack, pick, await, rewrite, suffices, frame, group, use1, done}
use types.Run.{addr, of_opd, load, fld, stop, first, blocks, exec, enter, returns}
use types.ByLocal.{alloc_all, pass_all, free_all, look_at, get, through, sets, sets_last, env}
use types.Part.{sub, whole, look_in}
use contract.Monad.{fact}
use contract.Running.{tables}
use denote.Exit.{no}
use denote.Follow.{follows, lends_Part}
use denote.Memory.{cell_at, lone, mem, part_at, part_of}
use denote.RattleType.{RattleType, owns}
use denote.RawPtr.{Ptr, block_ptr, null_ptr, ptr_val, in_a_block}
use denote.Ref.{MutRef, mut_vals, mut_Tells}
use denote.Signature.{plain, mut_ref_to}
use denote.Steps.{nothing, heard, opens}
use denote.Triple.Walked.{Stays, stay_dropped, walk_of, says, ends_at, Goes-spent_ref}
use Rattle.std.specs.Box.Ownership.{box_owns}
use Rattle.std.specs.declared.alloc.Global.{Global}
use Rattle.std.proofs.VecSteps.Shapes.{after}
use Rattle.std.proofs.alloc.Calls.{token}
use Rattle.std.proofs.raw_atomic.Walks.{proved}
use Rattle.legumeyet_c.specs.Lending.{with_content}
use Rattle.legumeyet_c.specs.Owned.{owned}
use Rattle.legumeyet_c.proofs.AsBox.{E}
use Rattle.legumeyet_c.proofs.PointerValues.{lone_field, pointer_in, pointer_out, content_there}
use Rattle.legumeyet_c.specs.contracts.content.Content as content
use Rattle.legumeyet_c.specs.contracts.handle.Pointer as pointer
use Rattle.legumeyet_c.specs.contracts.handle.Pointer.get_mut as f
use Rattle.legumeyet_c.proofs.handle.Pointer.get_mut.Statement.{statement}
use Rattle.legumeyet_c.proofs.handle.Pointer.get_mut.Code as code

abbrev C : RattleType
C = content.the_row

abbrev P : RattleType
P = pointer.the_row

abbrev stayed : Stays (f.ended).signature.params (f.ended).kept
stayed = (stay_dropped (mut_ref_to (0 ∷ []) tt (plain (λ _. P))) no, tt)

module _ {M : Type 1} {𝓤 : Ura M} (𝓛 : Logic 𝓤) (p : P.Denot) (heap : Global) (rb ro b o : ℕ) where
  -- all of the pointer but its content: the right to free the block, and the word
  abbrev Rest : Fml
  Rest = fsep (token E.al heap (bare (lone C.mir)) (block_ptr b o)) (cell_at full_share P.mir (lone_field (vptr b o) ∷ []) rb ro)

  -- with any content it is a pointer again
  back : p.at ≡ block_ptr b o → (w : C.Denot) → ent 𝓤 (sep 𝓤 (sem 𝓛 ((mem C).own_at w b o)) (sem 𝓛 Rest)) (sem 𝓛 ((mem P).own_at (with_content p w) rb ro))
  unfolding part_of
  back at_block w =
      qed 𝓛 (‵ (part_at C full_share w b o) ∷ ‵ Rest ∷ []) ∵ move ! (1 ∷ []) $ fsplit ! $ move ! (2 ∷ 0 ∷ []) $ fjoin ! $
      fpack ! Global (λ (h : Global). box_owns (token E.al h) C (block_ptr b o) w) heap $
      rewrite ! 0 (λ (at : Ptr). ‵ (owned C at (Some w))) (sym at_block) refl $ pointer_in ! p.at (Some w) $
      rewrite ! 1 (λ (at : Ptr). ‵ (cell_at full_share P.mir (lone_field (ptr_val at) ∷ []) rb ro)) (sym at_block) refl $ move ! (1 ∷ []) $ fjoin ! $
      fpack ! (List Val) (λ us. fsep (cell_at full_share P.mir us rb ro) (P.own_val (with_content p w) us)) (lone_field (ptr_val p.at) ∷ []) $ done !

pub get_mut_spec : {M : Type 1} → statement M
get_mut_spec 𝓤 𝓛 𝓜 𝓡 wired =
    let clauses = f.clauses 𝓛 𝓜.mem 𝓡.returns in let W = walk_of 𝓛 f.ended stayed clauses in let 𝓣 = tables 𝓤 𝓛.H 𝓜 𝓡 𝓡.env in let fn = code.function in
    proved 𝓛 f.ended stayed clauses 𝓜 𝓡 (Goes-spent_ref 𝓛 1 (0 ∷ []) tt (plain (λ _. P)), tt) f.Key.name fn (code.unfolded 𝓤 𝓛.H 𝓜 𝓡 wired)
    (λ κs. (mut_vals, tt)) (λ κs. (mut_Tells (named 0) κs.0 P, tt)) (λ κs qs bounds a gh are.
    let κ = κs.0 in let q = qs.0 in let rb = a.0.ref_ptr.0 in let ro = a.0.ref_ptr.1 in let γ = a.0.ghost_name in let p : P.Denot = a.0.now in
    let y : W.Ghost = ((κs, qs, bounds, a, (vptr rb ro ∷ [], tt)), gh) in let Post : Val → SProp 𝓤 = W.post y in
    qed 𝓛 (((‵ (flft κ q) ⊛ ‵ ftrue) ⊛ ‵ (owns (MutRef (named 0) κ P ∷ []) a (vptr rb ro ∷ [], tt))) ∷ raw (fact 𝓤 (is_some p.value ≡ true)) ∷ []) ∵
    move ! (1 ∷ []) $ heard ! (is_some p.value ≡ true) (λ there.
    let x : C.Denot = (content_there p.value there).0 in let is : p.value ≡ Some x = (content_there p.value there).1 in
    split ! $ split ! $ move ! (2 ∷ []) $ fsplit ! $ fsplit3 ! $ keep ! (1 ∷ 2 ∷ 4 ∷ []) $
    enter ! 𝓣.C 𝓣.Λ fn (vptr rb ro ∷ []) Post $ alloc_all ! (λ l. pass_all ! refl ((tt, tt), tt) $ let Ev = env fn.locals l in
    opens ! tt P {h = p} rb ro (λ words. move ! (1 ∷ []) $ pointer_out ! p words (λ words_are.
    rewrite ! 0 (λ (value : Option C.Denot). ‵ (owned C p.at value)) is refl $ fpick ! (λ (heap : Global).
    in_a_block ! p.at (λ at. box_owns (token E.al heap) C at x) (fst∗ 𝓤 (never 𝓤) (sem 𝓛 (token E.al heap (bare (lone C.mir)) null_ptr))) (λ b o at_block. fsplit ! $
    rewrite ! 2 (λ (us : List Val). ‵ (cell_at full_share P.mir us rb ro)) (words_are ∙ ap (λ (at : Ptr). lone_field (ptr_val at) ∷ []) at_block) refl $
    -- [the content; the right to free its block; the pointer's word; the open borrow, in three entries]
    first ! $ blocks ! $
    sets ! (of_opd ! (load ! (through ! refl (fld ! refl (stop !))) (look_in ! 2 (sub ! 0 refl (whole !))))) refl (tt, tt) $
    sets ! (of_opd ! (get ! refl)) refl (tt, tt) $
    sets_last ! (addr ! (through ! refl (stop !))) refl (tt, tt) $ exec ! 𝓣.C 𝓣.Λ Ev (after 1 fn.body) (at_ret Ev Post) $
    sets ! (of_opd ! (get ! refl)) refl (tt, tt) $
    move ! (1 ∷ 2 ∷ []) $ fjoin ! $ move ! (2 ∷ 3 ∷ 4 ∷ 1 ∷ 0 ∷ []) $ group ! 5 $
    let Lent = λ (δ : GName). (MutRef (named 0) κ C).own_val (record { ref_ptr = (b, o); ghost_name = δ; now = x }) (vptr b o ∷ []) in
    use1 𝓛 (later (some (λ (δ : GName). ‵ (Lent δ) ⊛ ‵ (flft κ q) ⊛ ‵ (follows P C γ δ (with_content p)))))
    (lends_Part 𝓛 P C (with_content p) (named 0) κ q rb ro b o γ (sem 𝓛 (Rest 𝓛 p heap rb ro b o)) (back 𝓛 p heap rb ro b o at_block) (P.coded.code p) (P.coded.code p) x) $
    await ! tt $ pick ! (λ δ. split3 ! $ returns ! (look_at ! 0 refl) $ free_all ! refl $ keep ! (0 ∷ 1 ∷ 2 ∷ []) $
    suffices ! _ (ends_at 𝓛 f.ended stayed clauses y (vptr b o) (record { ref_ptr = (b, o); ghost_name = δ; now = x }) (tt, tt) (tt, tt)) $
    nothing ! $ nothing ! $ fjoin ! $ join ! $ nothing ! $ move ! (2 ∷ 0 ∷ []) $ join ! $ join ! $ frame ! $ says ! is $ done !))))))))
