-- The pieces of a text between the bytes that part them.
-- Defined in docs/requests.md, "Request line".
-- Cited by `answer` and `run`, through Request.antt of `locale_numbers_requests`, by `cut_last` and by the private `cut_field`.
use Rattle.std.specs.Prelude.{◌≡◌, ◌==◌, ℕ, Bool, false, List, [], ◌∷◌, ◌++◌, ◌⊎◌}
use Rattle.std.specs.List.{All, slice_split}

abbrev pub is_separator : ℕ → ℕ → Bool
is_separator separator byte = byte == separator

abbrev pub cut_at : ℕ → List ℕ → List (List ℕ)
cut_at separator text = slice_split (is_separator separator) text

-- the byte is no separator
abbrev pub IsNot : ℕ → ℕ → Type 0
IsNot separator byte = is_separator separator byte ≡ false

-- a text is cut before its last piece: what is before it is nothing, or ends with a separator, and the piece has none
pub record IsLastCut (separator : ℕ) (text front last : List ℕ) : Type 0 where
  pub whole : text ≡ front ++ last
  pub ends : (front ≡ []) ⊎ ((before : List ℕ) × (front ≡ before ++ separator ∷ []))
  pub none : All (IsNot separator) last
