-- A class of texts is one set of bytes for all characters, or one for the first and one for the rest.
-- Defined in docs/small-text.md, "Classes"; the sets are the ASCII classes of the Rust standard library.
-- Cited by the nine class questions of `TinyAsciiStr`, `Aligned4` and `Aligned8`.
use Rattle.std.specs.Prelude.{ℕ, Bool, true, not, ◌&&◌, List, [], ◌∷◌}
use Rattle.std.specs.List.{list_all}
use Rattle.std.specs.Char.{is_ascii_uppercase, is_ascii_lowercase}

-- the first character is in the one set, the rest in the other; the empty text is in every class
abbrev pub is_in_class : (ℕ → Bool) → (ℕ → Bool) → List ℕ → Bool
is_in_class first rest [] = true
is_in_class first rest (b ∷ bs) = first b && list_all rest bs

-- a byte that lower case leaves as it is
abbrev pub is_not_uppercase : ℕ → Bool
is_not_uppercase b = not (is_ascii_uppercase b)

-- a byte that upper case leaves as it is
abbrev pub is_not_lowercase : ℕ → Bool
is_not_lowercase b = not (is_ascii_lowercase b)
