-- What is lent can be had twice, so a `&` to a pointer to it is looked into, and such a pointer may be copied.
use Rattle.std.proofs.Common.{◌≡◌, List, [], ◌∷◌, refl}
use Rattle.std.specs.Prelude.{Option, Some, None}
use seplogic.Ra.Ura.{Ura}
use mir.Val.{Val}
use base.Logic.{ent, sep, emp, id⊢}
use base.Fml.{ftrue}
use types.Logic.{Logic, sem}
use types.Kit.{‵, ◌⊛◌, ◌$◌, ◌∵◌, !, qed, move, split, fsplit, fjoin, use0, use1, done}
use denote.RattleType.{RowLaws, RattleType}
use denote.Laws.{Is, Copy, shows}
use denote.Opens.{Opens}
use denote.Copied.{whole-copied}
use denote.RawPtr.{Ptr, ptr_val}
use denote.Shadow.{makes_shadow}
use denote.SharingLaws.{contraction}
use denote.Steps.{peeks}
use denote.Struct.Lending.{lent_at, lent_at_shr_laws}
use denote.Struct.Struct.{Struct}
use denote.Struct.Owning.{shape}
use Rattle.legumeyet_c.specs.Lent.{lent}
use Rattle.legumeyet_c.specs.contracts.content.Content as content
use Rattle.legumeyet_c.proofs.content.Content.TheLaws as content_laws
use Rattle.legumeyet_c.specs.contracts.lent.SharedPointer as pointer
use Rattle.legumeyet_c.proofs.lent.SharedPointer.TheLaws as pointer_laws
use Rattle.legumeyet_c.proofs.PointerValues.{lone_field}

-- a content, a pointer to one, and its field
abbrev pub R : RattleType
R = content.the_row

abbrev pub Row : RattleType
Row = pointer.the_row

abbrev pub Data : RattleType
Data = Struct (shape pointer.the_type)

-- the machine value of a pointer
abbrev pub word : Ptr → Val
word p = lone_field (ptr_val p)

pub laws : RowLaws R
laws = (content_laws.the_row_laws).shr_laws

pub told : (d : Row.Denot) (vs : List Val) → Is Row d vs → vs ≡ word d.at ∷ []
told d vs is = (pointer_laws.lowers).val_is d vs is

module _ {M : Type 1} {𝓤 : Ura M} (𝓛 : Logic 𝓤) where
  -- the field of a new one
  pub made : (p : Ptr) → ent 𝓤 (emp 𝓤) (sem 𝓛 (Data.own_val (p, tt) (word p ∷ [])))
  made p = makes_shadow 𝓛 (Data.own_val (p, tt) (word p ∷ [])) (λ vss. (tt, (tt, tt))) ((ptr_val p ∷ [], tt), (refl, (refl, tt)))

  pub lent_twice : (at : Ptr) (value : Option R.Denot) → ent 𝓤 (sem 𝓛 (lent R at value)) (sep 𝓤 (sem 𝓛 (lent R at value)) (sem 𝓛 (lent R at value)))
  lent_twice at None = qed 𝓛 (‵ ftrue ∷ []) ∵ use0 𝓛 (‵ ftrue) (id⊢ 𝓤 (emp 𝓤)) $ done !
  lent_twice at (Some x) = contraction 𝓛 (lent_at R at x) (lent_at_shr_laws R laws at x) []

  lent_copy : Copy 𝓛 Row
  lent_copy = record {
    twice = λ d vs. qed 𝓛 (‵ (Row.own_val d vs) ∷ []) ∵ fsplit ! $ peeks ! Data (Is Data) (shows 𝓛 Data) (d.at, tt) vs (λ is.
        use0 𝓛 (‵ (Data.own_val (d.at, tt) vs)) (makes_shadow 𝓛 (Data.own_val (d.at, tt) vs) (λ vss. (tt, (tt, tt))) is) $ move ! (2 ∷ []) $
        use1 𝓛 (‵ (lent R d.at d.value) ⊛ ‵ (lent R d.at d.value)) (lent_twice d.at d.value) $ split ! $
        move ! (2 ∷ 0 ∷ []) $ fjoin ! $ move ! (2 ∷ 1 ∷ []) $ fjoin ! $ done !);
  }

  -- so a `&` to it is looked into
  pub opened : Opens 𝓛 Row
  opened = (whole-copied 𝓛 Row (λ h b o. refl) pointer_laws.lowered (pointer_laws.lowers).val_is lent_copy).opens
