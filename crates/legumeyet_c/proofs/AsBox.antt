-- A content's box taken apart owns what the box owned.
use mathlib.Core.List.{[]}
use mir.Syntax.{impl, tnil, dnil}
use denote.RattleType.{RattleType}
use denote.Signature.{Slot, plain}
use Rattle.std.proofs.BoxSteps.Form.{Bx}
use Rattle.std.specs.contracts.alloc.Global as global
use Rattle.std.proofs.alloc.Global.TheLaws as global_laws
use Rattle.std.specs.contracts.impls.GlobalAllocator.TheImpl as heap
use Rattle.legumeyet_c.specs.contracts.content.Content as content
use Rattle.legumeyet_c.proofs.content.Content.TheLaws as content_laws
use Rattle.legumeyet_c.specs.contracts.unboxed.Unboxed as unboxed

-- a box of a content, of the heap
abbrev pub E : Bx
E = record {
  row = content.the_row;
  laws = content_laws.the_row_laws;
  al = record { row = global.the_row; laws = global_laws.the_row_laws; g = heap.ghosts; d = heap.dict; drops = impl [] tnil dnil };
}

-- the same, taken apart
abbrev pub Apart : RattleType
Apart = unboxed.the_row content.the_row global.the_row heap.ghosts

abbrev pub ApartSlot : Slot 0
ApartSlot = plain (λ _. Apart)
