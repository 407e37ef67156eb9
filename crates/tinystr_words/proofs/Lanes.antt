-- What a sum and an operation on words say of each byte.
use Rattle.std.proofs.Common.{◌≡◌, ℕ, zero, suc, ◌+◌, ◌*◌, ◌^◌, ◌<◌, Bool, true, ◌&&◌, List, [], ◌∷◌, map, length, nat_eq, inl, inr, refl, sym, ap, arith, ◌∙◌}
use Rattle.std.specs.Str.{IsAscii}
use Rattle.std.specs.Prelude.{bit_and, bit_or, bit_xor}
use Rattle.std.proofs.lemmas.Bool.{and_parts, cases_order}
use Rattle.std.proofs.lemmas.Bool.Decides.{nat_tests}
use Rattle.std.proofs.lemmas.Nat.{and_block, or_block, xor_block}
use Rattle.tinystr_words.specs.Words.{word_of}

-- what a function makes of an ASCII byte is a byte
abbrev pub Fits : (ℕ → ℕ) → Type 0
Fits f = (b : ℕ) → b < 128 → f b < 256

pub add_lanes : (f g : ℕ → ℕ) (xs : List ℕ) → word_of (map f xs) + word_of (map g xs) ≡ word_of (map (λ b. f b + g b) xs)
add_lanes f g [] = refl
add_lanes f g (x ∷ xs) = omega (arith, add_lanes f g xs)

-- an operation that goes by blocks of bits goes by the byte
module _ (o : ℕ → ℕ → ℕ) (zeros : o 0 0 ≡ 0) (block : (k a b r s : ℕ) → r < 2 ^ k → s < 2 ^ k → o (a * 2 ^ k + r) (b * 2 ^ k + s) ≡ o a b * 2 ^ k + o r s) where
  by_lane : (f g : ℕ → ℕ) → Fits f → Fits g → (xs : List ℕ) → IsAscii xs
      → o (word_of (map f xs)) (word_of (map g xs)) ≡ word_of (map (λ b. o (f b) (g b)) xs)
  by_lane f g a b [] s = zeros
  by_lane f g a b (x ∷ xs) s =
      let one : f x + 256 * word_of (map f xs) ≡ word_of (map f xs) * 256 + f x = omega arith in
      let two : g x + 256 * word_of (map g xs) ≡ word_of (map g xs) * 256 + g x = omega arith in
      (λ i. o (one i) (two i)) ∙ block 8 _ _ _ _ (a x (s 0)) (b x (s 0)) ∙ omega (arith, by_lane f g a b xs (λ i. s (suc i)))

pub and_lanes : (f g : ℕ → ℕ) → Fits f → Fits g → (xs : List ℕ) → IsAscii xs
    → bit_and (word_of (map f xs)) (word_of (map g xs)) ≡ word_of (map (λ b. bit_and (f b) (g b)) xs)
and_lanes f g a b xs s = by_lane bit_and refl and_block f g a b xs s

pub or_lanes : (f g : ℕ → ℕ) → Fits f → Fits g → (xs : List ℕ) → IsAscii xs
    → bit_or (word_of (map f xs)) (word_of (map g xs)) ≡ word_of (map (λ b. bit_or (f b) (g b)) xs)
or_lanes f g a b xs s = by_lane bit_or refl or_block f g a b xs s

pub xor_lanes : (f g : ℕ → ℕ) → Fits f → Fits g → (xs : List ℕ) → IsAscii xs
    → bit_xor (word_of (map f xs)) (word_of (map g xs)) ≡ word_of (map (λ b. bit_xor (f b) (g b)) xs)
xor_lanes f g a b xs s = by_lane bit_xor refl xor_block f g a b xs s

-- functions that agree on ASCII bytes map them alike
pub same_lanes : (f g : ℕ → ℕ) → ((b : ℕ) → b < 128 → f b ≡ g b) → (xs : List ℕ) → IsAscii xs → map f xs ≡ map g xs
same_lanes f g e [] s = refl
same_lanes f g e (x ∷ xs) s = λ i. e x (s 0) i ∷ same_lanes f g e xs (λ j. s (suc j)) i

pub same_word : (xs : List ℕ) → word_of (map (λ b. b) xs) ≡ word_of xs
same_word [] = refl
same_word (x ∷ xs) = omega (arith, same_word xs)

-- the word whose n bytes are 1
repeated : ℕ → ℕ
repeated zero = 0
repeated (suc n) = 1 + 256 * repeated n

spread_by : (m : ℕ) (xs : List ℕ) → word_of (map (λ _. m) xs) ≡ m * repeated (length xs)
unfolding repeated
spread_by m [] = omega arith
spread_by m (x ∷ xs) =
    let distributed : m * (1 + 256 * repeated (length xs)) ≡ m + 256 * (m * repeated (length xs)) = grind arith in
    omega (arith, spread_by m xs, distributed)

-- one byte in each place of a word
pub spread : (m : ℕ) (xs : List ℕ) → length xs ≡ 8 → word_of (map (λ _. m) xs) ≡ m * 0x0101_0101_0101_0101
unfolding repeated
spread m xs long = spread_by m xs ∙ ap (λ n. m * repeated n) long

-- ---- facts of one byte, by trying each
abbrev same_below : ℕ → (ℕ → ℕ) → (ℕ → ℕ) → Bool
same_below zero f g = true
same_below (suc n) f g = nat_eq (f n) (g n) && same_below n f g

pub tried_same : (n : ℕ) (f g : ℕ → ℕ) → same_below n f g ≡ true → (b : ℕ) → b < n → f b ≡ g b
tried_same zero f g e b l = absurd (omega arith)
tried_same (suc n) f g e b l =
    let both = and_parts (nat_eq (f n) (g n)) (same_below n f g) e in
    let last : f n ≡ g n = grind (arith, nat_tests, both.0) in
    elim (cases_order b n) [
      | inl same ↦ ap f same ∙ last ∙ sym (ap g same)
      | inr other ↦ elim other [
        | inl less ↦ tried_same n f g both.1 b less
        | inr more ↦ absurd (omega (arith, more))
      ]
    ]
