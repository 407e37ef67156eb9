-- What becomes of a pointer whose content is lent, and of a handle whose content is read.
-- Cited by what a pointer lends, and what a handle shows.
use mathlib.Core.Option.{none}
use Rattle.std.specs.Borrow.{Fml, Lends, MutBor, follows_so}
use Rattle.std.specs.Prelude.{◌≡◌, ⊤, Some}
use Rattle.legumeyet_c.specs.contracts.content.Content as content
use Rattle.legumeyet_c.specs.contracts.handle.Handle as handle
use Rattle.legumeyet_c.specs.contracts.handle.Pointer as pointer
use Rattle.legumeyet_c.specs.declared.content.Content.{Content}
use Rattle.legumeyet_c.specs.declared.handle.Handle.{Handle}
use Rattle.legumeyet_c.specs.declared.handle.Pointer.{Pointer}

-- ---- a pointer

-- p, to another content
abbrev pub with_content : Pointer → Content → Pointer
with_content p x = record p { value = Some x }

-- p ends with the last content behind r
abbrev pub LendsContent : MutBor Pointer → MutBor Content → Fml
LendsContent p r = Lends pointer.the_row content.the_row p r (with_content p.now)

-- ---- a handle

-- h ends with the content that it had
abbrev pub StaysOpened : MutBor Handle → Fml
StaysOpened h = follows_so handle.the_row handle.the_row h.ghost_name none (λ _ _. ⊤) (λ n. n.pointer.value ≡ h.now.pointer.value)
