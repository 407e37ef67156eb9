-- A text with spaces before it, or behind it, up to so many characters.
-- Defined in docs/command.md, "Fields of a table".
-- Cited by `put_padded`, and by the calls that write fields through FieldsWritten.antt.
use Rattle.std.specs.Prelude.{ℕ, ◌-◌, Bool, ◌&&◌, not, nat_le, List, ◌++◌, replicate, if◌then◌else◌}
use Rattle.std.specs.List.{count_by}
use Rattle.legumeyet_columns.specs.declared.padding.Padding.{Padding}

-- whether a byte is the first of a character in UTF-8
abbrev pub is_first : ℕ → Bool
is_first byte = not (nat_le 0x80 byte && nat_le byte 0xBF)

-- how many characters a text has
abbrev pub characters : List ℕ → ℕ
characters text = count_by is_first text

abbrev pub spaces_for : Padding → List ℕ → List ℕ
spaces_for padding text = replicate (padding.width - characters text) 32

abbrev pub padded : Padding → List ℕ → List ℕ
padded padding text = if padding.is_behind then text ++ spaces_for padding text else spaces_for padding text ++ text
