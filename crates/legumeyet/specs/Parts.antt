-- The lines of the parts of a text: the name and the text of each, in order of opening.
-- Defined in docs/command.md, "Parts".
-- Cited by `put_held`, and by `put_number` through Output.antt.
use Rattle.std.specs.Prelude.{ℕ, List, ◌++◌, codes}
use Rattle.std.specs.List.{flat_map}
use Rattle.locale_numbers_lines.specs.Lines.{ended}
use Rattle.writeable.specs.HeldParts.{Held}
use Rattle.writeable.specs.PartText.{PartText, part_texts}

-- the line of a part
abbrev pub part_line : PartText → List ℕ
part_line it = ended (codes "  " ++ (it.part.value ++ (codes " " ++ it.text)))

-- those of all parts
abbrev pub part_lines : Held → List ℕ
part_lines held = flat_map part_line (part_texts held.text held.parts)
