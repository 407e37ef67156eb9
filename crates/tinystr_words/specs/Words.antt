-- Eight bytes are one word, the first the lowest; a list of bytes is cut into words, the last filled up with NULs.
-- Defined in docs/small-text.md, "Words of eight bytes".
-- Cited by every call of this crate, on words and on slices.
use Rattle.std.specs.Prelude.{ℕ, ◌+◌, ◌*◌, ◌-◌, zero, suc, Bool, true, false, cond, ◌||◌, List, [], ◌∷◌, ◌++◌, length, map, replicate, nat_eq}
use Rattle.std.specs.Int.{w64, to_le_bytes}

-- the eight bytes of a word, the lowest first
unfoldable pub word_bytes : ℕ → List ℕ
word_bytes word = to_le_bytes w64 word

-- the number that these bytes make, the first the lowest
abbrev pub word_of : List ℕ → ℕ
word_of [] = 0
word_of (b ∷ bs) = b + 256 * word_of bs

-- a byte's high bit, set where a test holds
abbrev pub flag : Bool → ℕ
flag holds = cond holds 128 0

-- the word whose bytes are the flags of these bytes
abbrev pub flags : (ℕ → Bool) → List ℕ → ℕ
flags test bytes = word_of (map (λ b. flag (test b)) bytes)

-- a byte of the class, or a NUL that fills up
abbrev pub or_nul : (ℕ → Bool) → ℕ → Bool
or_nul test b = nat_eq b 0 || test b

-- the first byte by one function, the rest by another
abbrev pub map_first : (ℕ → ℕ) → (ℕ → ℕ) → List ℕ → List ℕ
map_first front back [] = []
map_first front back (b ∷ bs) = front b ∷ map back bs

-- bytes filled up with NULs to eight
unfoldable pub filled : List ℕ → List ℕ
filled bytes = bytes ++ replicate (8 - length bytes) 0

-- all of them are NUL
abbrev pub are_nuls : List ℕ → Bool
are_nuls [] = true
are_nuls (zero ∷ bs) = are_nuls bs
are_nuls (suc b ∷ bs) = false

-- only NULs follow a NUL
abbrev pub nuls_last : List ℕ → Bool
nuls_last [] = true
nuls_last (zero ∷ bs) = are_nuls bs
nuls_last (suc b ∷ bs) = nuls_last bs

-- how many of them are no NUL
abbrev pub text_bytes : List ℕ → ℕ
text_bytes [] = 0
text_bytes (zero ∷ bs) = text_bytes bs
text_bytes (suc b ∷ bs) = suc (text_bytes bs)
