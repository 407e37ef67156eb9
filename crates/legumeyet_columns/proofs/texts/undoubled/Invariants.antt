use Rattle.std.proofs.Common.{◌≡◌, ◌++◌, length}
use Rattle.std.specs.Prelude.{option_map}
use Rattle.legumeyet_columns.specs.FieldTexts.{undoubled}
use Rattle.legumeyet_columns.proofs.texts.undoubled.Given as goal

-- the text is what was taken and that of what is left
abbrev pub invariant-loop-first : goal.invariant-loop-first
invariant-loop-first l = undoubled l.fn.bytes ≡ option_map (λ t. l.text.items ++ t) (undoubled l.left)

abbrev pub decreases-loop-first : goal.decreases-loop-first
decreases-loop-first l = length l.left
