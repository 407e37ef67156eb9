-- A text cut where another text is first in it.
-- Defined in docs/words.md, "Tables of words".
-- Cited by the reading of patterns and of names of units, and by the names that are put into patterns.
use Rattle.std.specs.Prelude.{ℕ, Bool, false, not, List, [], ◌∷◌, length, take, drop, Option, None, Some, is_some, option_map, if◌then◌else◌}
use Rattle.std.specs.Option.{option_map_or}
use Rattle.std.specs.Str.{bytes_eq}

abbrev pub begins : List ℕ → List ℕ → Bool
begins needle text = bytes_eq needle (take (length needle) text)

-- what is before the needle where it is first, and what is after it
abbrev pub cut_at : List ℕ → List ℕ → Option (List ℕ × List ℕ)
cut_at needle [] = None
cut_at needle (b ∷ bs) =
    if begins needle (b ∷ bs)
    then Some ([], drop (length needle) (b ∷ bs))
    else option_map (λ parts. (b ∷ parts.0, parts.1)) (cut_at needle bs)

-- the needle is nowhere in a text
abbrev pub lacks : List ℕ → List ℕ → Bool
lacks needle text = not (is_some (cut_at needle text))

-- it is there, and not in what is after it
abbrev pub has_once : List ℕ → List ℕ → Bool
has_once needle text = option_map_or (λ parts. lacks needle parts.1) (cut_at needle text) false
