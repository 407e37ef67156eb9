-- The byte order mark in front of a text in UTF-8, as Windows puts it there: it is no part of the first field.
-- After the Unicode Standard, section 23.8.
-- Cited by `read_first_record` and `without_mark`.
use Rattle.std.specs.Prelude.{ℕ, ◌==◌, Bool, false, ◌&&◌, List, [], ◌∷◌, if◌then◌else◌}

abbrev pub has_mark : List ℕ → Bool
has_mark [] = false
has_mark (first ∷ []) = false
has_mark (first ∷ second ∷ []) = false
has_mark (first ∷ second ∷ third ∷ bytes) = (first == 0xEF && second == 0xBB) && third == 0xBF

abbrev pub mark_of : List ℕ → List ℕ
mark_of bytes = if has_mark bytes then 0xEF ∷ 0xBB ∷ 0xBF ∷ [] else []

abbrev pub without_mark : List ℕ → List ℕ
without_mark [] = []
without_mark (first ∷ []) = first ∷ []
without_mark (first ∷ second ∷ []) = first ∷ second ∷ []
without_mark (first ∷ second ∷ third ∷ bytes) =
    if has_mark (first ∷ second ∷ third ∷ bytes) then bytes else first ∷ second ∷ third ∷ bytes
