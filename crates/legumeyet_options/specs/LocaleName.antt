-- The tag of a locale's name: without codeset and modifier, a hyphen for each underscore; `en` for C and POSIX.
-- After POSIX, Base Definitions, 8.2 (language[_territory][.codeset][@modifier]); docs/command.md, "Tags".
-- Cited by `tag_of_name`.
use Rattle.std.specs.Prelude.{ℕ, List, [], ◌||◌, ◌==◌, Bool, if◌then◌else◌, codes, map}
use Rattle.std.specs.List.{before_first}
use Rattle.std.specs.Str.{bytes_eq, chars, encode_utf8_all}

-- the code of a dot
abbrev pub dot : ℕ
dot = 46

-- the code of an at sign
abbrev pub at_sign : ℕ
at_sign = 64

-- the codes of an underscore and of a hyphen
abbrev pub underscore : ℕ
underscore = 95

abbrev pub hyphen : ℕ
hyphen = 45

-- the name before its codeset and its modifier
abbrev pub base_of : List ℕ → List ℕ
base_of name = before_first (λ b. b == at_sign) (before_first (λ b. b == dot) name)

-- whether a base names no locale of its own
abbrev pub is_default : List ℕ → Bool
is_default base = bytes_eq base [] || bytes_eq base (codes "C") || bytes_eq base (codes "POSIX")

-- a hyphen for an underscore
abbrev pub hyphen_for : ℕ → ℕ
hyphen_for c = if c == underscore then hyphen else c

-- a text with a hyphen for each underscore
abbrev pub hyphened : List ℕ → List ℕ
hyphened base = encode_utf8_all (map hyphen_for (chars base))

-- the tag of a name
abbrev pub tag_of : List ℕ → List ℕ
tag_of name = if is_default (base_of name) then codes "en" else hyphened (base_of name)
