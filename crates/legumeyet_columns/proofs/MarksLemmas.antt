-- A text by its first line, without the byte order mark in front of it.
use Rattle.std.proofs.Common.{◌≡◌, ℕ, List, [], ◌∷◌, ◌++◌, Bool, true, false, refl, eqb-true}
use Rattle.std.specs.Prelude.{◌==◌, ◌&&◌}
use Rattle.std.specs.Io.BufRead.{take_through, drop_through}
use Rattle.legumeyet_columns.specs.Marks.{has_mark, mark_of, without_mark}

-- the bytes of the mark
record Marked (a b c : ℕ) : Type 0 where
  pub first : a ≡ 0xEF
  pub second : b ≡ 0xBB
  pub third : c ≡ 0xBF

marked : (a b c : ℕ) (bs : List ℕ) → has_mark (a ∷ b ∷ c ∷ bs) ≡ true → Marked a b c
marked a b c bs = at (a == 0xEF) (b == 0xBB) (c == 0xBF) refl refl refl
  where
    at : (x y z : Bool) → (a == 0xEF) ≡ x → (b == 0xBB) ≡ y → (c == 0xBF) ≡ z → ((x && y) && z) ≡ true → Marked a b c
    at true true true x y z e = record { first = eqb-true a 0xEF x; second = eqb-true b 0xBB y; third = eqb-true c 0xBF z }
    at true true false x y z e = cc
    at true false z' x y z e = cc
    at false y' z' x y z e = cc

-- of a text with the mark
with_mark : (a b c : ℕ) (bs : List ℕ) → Marked a b c
    → without_mark (take_through 10 (a ∷ b ∷ c ∷ bs)) ≡ take_through 10 (without_mark (a ∷ b ∷ c ∷ bs))
with_mark a b c bs m = rw (m.first, m.second, m.third) refl

with_mark_whole : (a b c : ℕ) (bs : List ℕ) → Marked a b c
    → mark_of (a ∷ b ∷ c ∷ bs) ++ take_through 10 (without_mark (a ∷ b ∷ c ∷ bs)) ≡ take_through 10 (a ∷ b ∷ c ∷ bs)
with_mark_whole a b c bs m = rw (m.first, m.second, m.third) refl

with_mark_rest : (a b c : ℕ) (bs : List ℕ) → Marked a b c
    → drop_through 10 (without_mark (a ∷ b ∷ c ∷ bs)) ≡ drop_through 10 (a ∷ b ∷ c ∷ bs)
with_mark_rest a b c bs m = rw (m.first, m.second, m.third) refl

-- the first line without the mark is the first line of the text without it
pub mark_of_line : (bytes : List ℕ) → without_mark (take_through 10 bytes) ≡ take_through 10 (without_mark bytes)
mark_of_line [] = refl
mark_of_line (a ∷ []) = at (a == 10) refl
  where
    at : (x : Bool) → (a == 10) ≡ x → without_mark (take_through 10 (a ∷ [])) ≡ take_through 10 (without_mark (a ∷ []))
    at true x = simp x
    at false x = simp x
mark_of_line (a ∷ b ∷ []) = at (a == 10) (b == 10) refl refl
  where
    at : (x y : Bool) → (a == 10) ≡ x → (b == 10) ≡ y
        → without_mark (take_through 10 (a ∷ b ∷ [])) ≡ take_through 10 (without_mark (a ∷ b ∷ []))
    at true y' x y = simp x
    at false true x y = simp (x, y)
    at false false x y = simp (x, y)
mark_of_line (a ∷ b ∷ c ∷ bs) = at (has_mark (a ∷ b ∷ c ∷ bs)) (a == 10) (b == 10) (c == 10) refl refl refl refl
  where
    at : (h x y z : Bool) → has_mark (a ∷ b ∷ c ∷ bs) ≡ h → (a == 10) ≡ x → (b == 10) ≡ y → (c == 10) ≡ z
        → without_mark (take_through 10 (a ∷ b ∷ c ∷ bs)) ≡ take_through 10 (without_mark (a ∷ b ∷ c ∷ bs))
    at true x' y' z' h x y z = with_mark a b c bs (marked a b c bs h)
    at false true y' z' h x y z = simp (h, x)
    at false false true z' h x y z = simp (h, x, y)
    at false false false true h x y z = simp (h, x, y, z)
    at false false false false h x y z = simp (h, x, y, z)

-- the mark and that line are the first line
pub mark_and_line : (bytes : List ℕ) → mark_of bytes ++ take_through 10 (without_mark bytes) ≡ take_through 10 bytes
mark_and_line [] = refl
mark_and_line (a ∷ []) = refl
mark_and_line (a ∷ b ∷ []) = refl
mark_and_line (a ∷ b ∷ c ∷ bs) = at (has_mark (a ∷ b ∷ c ∷ bs)) refl
  where
    at : (h : Bool) → has_mark (a ∷ b ∷ c ∷ bs) ≡ h
        → mark_of (a ∷ b ∷ c ∷ bs) ++ take_through 10 (without_mark (a ∷ b ∷ c ∷ bs)) ≡ take_through 10 (a ∷ b ∷ c ∷ bs)
    at true h = with_mark_whole a b c bs (marked a b c bs h)
    at false h = simp h

-- what follows the first line is the same
pub mark_and_rest : (bytes : List ℕ) → drop_through 10 (without_mark bytes) ≡ drop_through 10 bytes
mark_and_rest [] = refl
mark_and_rest (a ∷ []) = refl
mark_and_rest (a ∷ b ∷ []) = refl
mark_and_rest (a ∷ b ∷ c ∷ bs) = at (has_mark (a ∷ b ∷ c ∷ bs)) refl
  where
    at : (h : Bool) → has_mark (a ∷ b ∷ c ∷ bs) ≡ h
        → drop_through 10 (without_mark (a ∷ b ∷ c ∷ bs)) ≡ drop_through 10 (a ∷ b ∷ c ∷ bs)
    at true h = with_mark_rest a b c bs (marked a b c bs h)
    at false h = simp h
