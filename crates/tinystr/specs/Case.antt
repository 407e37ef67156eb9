-- A case change maps each character of a text; title case puts the first in upper case and the rest in lower case.
-- Defined in docs/small-text.md, "Case".
-- Cited by the case changes of `TinyAsciiStr`, `Aligned4` and `Aligned8`, and by the class questions on case.
use Rattle.std.specs.Prelude.{ℕ, List, [], ◌∷◌, map}
use Rattle.std.specs.Char.{to_ascii_uppercase, to_ascii_lowercase}

abbrev pub lowercase : List ℕ → List ℕ
lowercase text = map to_ascii_lowercase text

abbrev pub uppercase : List ℕ → List ℕ
uppercase text = map to_ascii_uppercase text

abbrev pub titlecase : List ℕ → List ℕ
titlecase [] = []
titlecase (b ∷ bs) = to_ascii_uppercase b ∷ map to_ascii_lowercase bs
