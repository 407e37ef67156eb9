-- Which characters a message shows by an escape: those that nobody sees, as a carriage return.
-- Defined in docs/command.md, "Refused numbers".
-- Cited by `is_hidden`.
use Rattle.std.specs.Prelude.{ℕ, ◌==◌, Bool, ◌||◌, ◌&&◌, not, nat_le}
use Rattle.std.specs.Char.{is_control, is_whitespace}

abbrev pub is_between : ℕ → ℕ → ℕ → Bool
is_between first last c = nat_le first c && nat_le c last

-- marks without a width: a soft hyphen, those of direction, joiners, the byte order mark
abbrev pub is_mark : ℕ → Bool
is_mark c = (((c == 0xAD || c == 0x61C) || is_between 0x200B 0x200F c) || (is_between 0x202A 0x202E c || is_between 0x2060 0x206F c)) || c == 0xFEFF

-- a control character, such a mark, or white space but the plain space
abbrev pub is_hidden : ℕ → Bool
is_hidden c = not (c == 32) && ((is_control c || is_whitespace c) || is_mark c)
