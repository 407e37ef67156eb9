-- The length of a text in one word: the highest byte that is no NUL tells it.
use Rattle.std.proofs.Common.{◌≡◌, ℕ, zero, suc, ◌+◌, ◌*◌, ◌/◌, ◌-◌, ◌^◌, ◌≤◌, ◌<◌, true, false, List, [], ◌∷◌, length, get_or, inl, inr, refl, sym, ap, arith, ◌∙◌}
use Rattle.std.specs.Int.{leading_zeros, w64, byte_at, bytes_low_first}
use Rattle.std.proofs.Math.Pow.{pow_mono}
use Rattle.std.proofs.lemmas.Bool.{cases_lt}
use Rattle.std.proofs.lemmas.Nat.{pow-add, pow_pos, leading_length}
use Rattle.tinystr_words.specs.Words.{word_bytes, word_of, are_nuls, nuls_last, text_bytes}
use Rattle.tinystr_words.proofs.FlagLaws.{word_of_bytes, length-word_bytes}

nuls_word : (xs : List ℕ) → are_nuls xs ≡ true → word_of xs ≡ 0
nuls_word [] h = refl
nuls_word (zero ∷ xs) h = omega (arith, nuls_word xs h)
nuls_word (suc x ∷ xs) h = let e : false ≡ true = h in cc

pub nuls_count : (xs : List ℕ) → are_nuls xs ≡ true → text_bytes xs ≡ 0
nuls_count [] h = refl
nuls_count (zero ∷ xs) h = nuls_count xs h
nuls_count (suc x ∷ xs) h = let e : false ≡ true = h in cc

pub power_step : (c : ℕ) → 2 ^ (8 * suc c) ≡ 256 * 2 ^ (8 * c)
power_step c = let e : 8 * suc c ≡ 8 + 8 * c = omega arith in ap (λ k. 2 ^ k) e ∙ pow-add 2 8 (8 * c)

-- each byte is below 256
abbrev pub AreBytes : List ℕ → Type 0
AreBytes xs = (i : ℕ) → get_or xs i 0 < 256

word_below_power : (xs : List ℕ) → nuls_last xs ≡ true → AreBytes xs → word_of xs < 2 ^ (8 * text_bytes xs)
word_below_power [] last small = omega arith
word_below_power (zero ∷ xs) last small = omega (arith, nuls_word xs last, pow_pos (8 * text_bytes xs))
word_below_power (suc x ∷ xs) last small =
    omega (arith, power_step (text_bytes xs), word_below_power xs last (λ i. small (suc i)), small 0)

power_below_word : (xs : List ℕ) → nuls_last xs ≡ true → 2 ^ (8 * text_bytes xs) ≤ 256 * word_of xs + 1
power_below_word [] last = omega arith
power_below_word (zero ∷ xs) last =
    let none : 2 ^ (8 * text_bytes xs) ≡ 1 = ap (λ c. 2 ^ (8 * c)) (nuls_count xs last) in
    omega (arith, none)
power_below_word (suc x ∷ xs) last = omega (arith, power_step (text_bytes xs), power_below_word xs last)

pub text_bytes_le : (xs : List ℕ) → text_bytes xs ≤ length xs
text_bytes_le [] = omega arith
text_bytes_le (zero ∷ xs) = omega (arith, text_bytes_le xs)
text_bytes_le (suc x ∷ xs) = omega (arith, text_bytes_le xs)

-- where a number lies between these powers, so does the count of its binary digits
digits_le : (m c w : ℕ) → 2 ^ m ≤ 2 * w + 1 → w < 2 ^ (8 * c) → m ≤ 8 * c
digits_le m c w low high = elim (cases_lt (8 * c) m) [
  | inl more ↦
      let step : 2 ^ (1 + 8 * c) ≡ 2 * 2 ^ (8 * c) = pow-add 2 1 (8 * c) in
      let mono : 2 ^ (1 + 8 * c) ≤ 2 ^ m = pow_mono (omega (arith, more)) in
      absurd (omega (arith, low, high, step, mono))
  | inr le ↦ le
]

digits_ge : (m c w : ℕ) → w < 2 ^ m → 2 ^ (8 * c) ≤ 256 * w + 1 → 8 * c < m + 8
digits_ge m c w high low = elim (cases_lt (8 * c) (m + 8)) [
  | inl less ↦ less
  | inr le ↦
      let e : 8 + m ≡ m + 8 = omega arith in
      let step : 2 ^ (m + 8) ≡ 256 * 2 ^ m = ap (λ k. 2 ^ k) (sym e) ∙ pow-add 2 8 m in
      let mono : 2 ^ (m + 8) ≤ 2 ^ (8 * c) = pow_mono le in
      absurd (omega (arith, low, high, step, mono))
]

byte_small : (i n : ℕ) → byte_at i n < 256
byte_small zero n = omega arith
byte_small (suc i) n = let q = n / 256 ^ suc i in omega arith

lowest_small : (k i n j : ℕ) → get_or (bytes_low_first i k n) j 0 < 256
lowest_small zero i n j = omega arith
lowest_small (suc k) i n zero = byte_small i n
lowest_small (suc k) i n (suc j) = lowest_small k (suc i) n j

pub bytes_below : (w : ℕ) → AreBytes (word_bytes w)
unfolding word_bytes
bytes_below w i = lowest_small 8 0 w i

pub word_length : (w : ℕ) → w < 2 ^ 64 → nuls_last (word_bytes w) ≡ true → 8 - leading_zeros w64 w / 8 ≡ text_bytes (word_bytes w)
word_length w small last =
    let c = text_bytes (word_bytes w) in
    let whole = word_of_bytes w small in
    let most : c ≤ 8 = omega (arith, text_bytes_le (word_bytes w), length-word_bytes w) in
    let top = leading_length 64 w small in
    let above = digits_le top.0 c w top.3 (omega (arith, whole, word_below_power (word_bytes w) last (bytes_below w))) in
    let below = digits_ge top.0 c w top.2 (omega (arith, whole, power_below_word (word_bytes w) last)) in
    omega (arith, top.1, above, below, most)
