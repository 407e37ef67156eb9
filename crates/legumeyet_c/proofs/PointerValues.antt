-- The machine value of a `Pointer`, and what is owned of it.
use Rattle.std.proofs.Common.{◌≡◌, List, [], ◌∷◌, ◌++◌, refl, sym, subst}
use Rattle.std.specs.Prelude.{Option, Some, None, is_some, true}
use lib.Dec.{T}
use seplogic.Ra.Ura.{Ura}
use mir.Val.{Val, vstruct, vcons, vnil, of_list}
use types.Logic.{Logic}
use types.Kit.{Item, Goal, Seq, Step, step, ‵, ◌$◌, drop, fsplit, fjoin, fpick, fpack, feq_i, feq_l}
use denote.RattleType.{Valss}
use denote.Builtin.{RawPtr}
use denote.RawPtr.{Ptr, ptr_val}
use denote.Steps.{nothing}
use denote.Struct.Struct.{within}
use denote.Struct.Owning.{shape}
use Rattle.legumeyet_c.specs.Owned.{owned}
use Rattle.legumeyet_c.specs.contracts.content.Content as content
use Rattle.legumeyet_c.specs.contracts.handle.Pointer as pointer

-- a struct of one field
abbrev pub lone_field : Val → Val
lone_field v = vstruct (vcons v vnil)

module _ {M : Type 1} {𝓤 : Ura M} {𝓛 : Logic 𝓤} {K : Type 0} {Γ : List (Item 𝓤)} {G : Goal 𝓤 𝓛.H} where
  -- from what it owns, the value
  pub pointer_in : K → (at : Ptr) (value : Option (content.the_row).Denot)
      → Step K 𝓛 (‵ ((pointer.the_row).own_val (record { at = at; value = value }) (lone_field (ptr_val at) ∷ [])) ∷ Γ) G (‵ (owned content.the_row at value) ∷ Γ) G
  pointer_in k at value = step (λ rest.
      let word : Val = lone_field (ptr_val at) in
      nothing k $ feq_i k (List Val) (ptr_val at ∷ []) (ptr_val at ∷ []) refl $ fjoin k $
      feq_i k (List Val) (word ∷ []) (word ∷ []) refl $ fjoin k $
      fpack k (Valss (RawPtr ∷ [])) (within (shape pointer.the_type) (at, tt) (word ∷ [])) (ptr_val at ∷ [], tt) $ fjoin k $ rest)

  -- and back
  pub pointer_out : K → (p : (pointer.the_row).Denot) (words : List Val)
      → (words ≡ lone_field (ptr_val p.at) ∷ [] → Seq K 𝓛 (‵ (owned content.the_row p.at p.value) ∷ Γ) G)
      → Seq K 𝓛 (‵ ((pointer.the_row).own_val p words) ∷ Γ) G
  pointer_out k p words then =
      fsplit k $ fpick k (λ fields. fsplit k $ feq_l k (λ whole. fsplit k $ feq_l k (λ first. drop k $
      then (subst (λ (field : List Val). words ≡ vstruct (of_list (field ++ [])) ∷ []) first whole))))

-- the content that is there
pub content_there : {X : Type 0} (o : Option X) → is_some o ≡ true → (x : X) × (o ≡ Some x)
content_there None there = absurd (subst T (sym there) tt)
content_there (Some x) there = (x, refl)
