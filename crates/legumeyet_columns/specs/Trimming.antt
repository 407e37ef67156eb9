-- The text of a line or a field without the blanks around it.
-- Defined in docs/command.md, "Refused numbers".
-- Cited by `trimmed`, by the calls that write fields through FieldsWritten.antt, and by what the command writes for lines.
use Rattle.std.specs.Prelude.{ℕ, ◌==◌, Bool, ◌||◌, List, [], ◌∷◌, reverse, if◌then◌else◌}

-- a space, a tab or a carriage return
abbrev pub is_blank : ℕ → Bool
is_blank byte = (byte == 32 || byte == 9) || byte == 13

-- what is after the blanks in front
abbrev pub without_front : List ℕ → List ℕ
without_front [] = []
without_front (byte ∷ bytes) = if is_blank byte then without_front bytes else byte ∷ bytes

-- what is before the blanks at the end
abbrev pub without_end : List ℕ → List ℕ
without_end text = reverse (without_front (reverse text))

-- what is between the blanks at both ends
abbrev pub trimmed : List ℕ → List ℕ
trimmed text = without_end (without_front text)
