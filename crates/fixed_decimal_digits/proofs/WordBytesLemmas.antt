-- The bytes of a word hold its digits.
use Rattle.std.proofs.Common.{◌≡◌, ℕ, zero, suc, ◌+◌, ◌-◌, ◌*◌, ◌/◌, ◌%◌, ◌^◌, ◌<◌, ◌≤◌, List, [], ◌∷◌, ◌++◌, drop, take, refl, sym, ap, ◌∙◌, arith, w64}
use Rattle.std.proofs.lemmas.List.{append_assoc}
use Rattle.std.specs.Int.{bytes_high_first, to_be_bytes}
use Rattle.std.specs.Int.Digits.{AllBelowBase}
use Rattle.fixed_decimal_digit_words.specs.DigitWord.{word_digits, word_bytes}
use Rattle.fixed_decimal_digit_words.specs.Packed.{packed, digits_in, IsPacked}
use Rattle.fixed_decimal_digit_words.proofs.WordLemmas.{word_length}
use Rattle.fixed_decimal_digit_words.proofs.ByteWordLemmas.{high_word}
use Rattle.fixed_decimal_digits.proofs.PackedLemmas.{kept_so, pushed_upper, pushed_both}

-- two digits are a byte
pub word_even : (k w : ℕ) → packed (word_digits w (2 * k)) ≡ word_bytes w k
word_even zero w = refl
word_even (suc k) w =
    let twice : 2 * suc k ≡ suc (suc (2 * k)) = omega arith in
    let above : w / 16 / 16 ≡ w / 256 = omega arith in
    let byte : w / 16 % 16 * 16 + w % 16 ≡ w % 256 = omega arith in
    let ds = word_digits (w / 16 / 16) (2 * k) in
    ap (λ n. packed (word_digits w n)) twice
    ∙ ap packed (append_assoc ds (w / 16 % 16 ∷ []) (w % 16 ∷ []))
    ∙ pushed_both k ds (w / 16 % 16) (w % 16) (word_length (2 * k) (w / 16 / 16))
    ∙ ap (λ b. packed ds ++ (b ∷ [])) byte
    ∙ ap (λ bs. bs ++ (w % 256 ∷ [])) (word_even k (w / 16 / 16) ∙ ap (λ u. word_bytes u k) above)

-- after an odd digit is 0
pub word_odd : (k w : ℕ) → packed (word_digits w (2 * k + 1)) ≡ word_bytes (w * 16) (k + 1)
word_odd k w =
    let next : 2 * k + 1 ≡ suc (2 * k) = omega arith in
    let more : k + 1 ≡ suc k = omega arith in
    let above : w / 16 ≡ w * 16 / 256 = omega arith in
    let byte : w % 16 * 16 ≡ w * 16 % 256 = omega arith in
    let ds = word_digits (w / 16) (2 * k) in
    ap (λ n. packed (word_digits w n)) next
    ∙ pushed_upper k ds (w % 16) (word_length (2 * k) (w / 16))
    ∙ ap (λ b. packed ds ++ (b ∷ [])) byte
    ∙ ap (λ bs. bs ++ (w * 16 % 256 ∷ [])) (word_even k (w / 16) ∙ ap (λ u. word_bytes u k) above)
    ∙ ap (word_bytes (w * 16)) (sym more)

-- the bytes of a word hold its digits
pub even_word : (kept : List ℕ) (w count : ℕ) → AllBelowBase 10 (word_digits w count) → count % 2 ≡ 0 → kept ≡ word_bytes w (count / 2)
    → IsPacked kept count × (digits_in kept count ≡ word_digits w count)
even_word kept w count h even e =
    let twice : count ≡ 2 * (count / 2) = omega arith in
    kept_so kept (word_digits w count) count h (e ∙ sym (ap (λ n. packed (word_digits w n)) twice ∙ word_even (count / 2) w)) (sym (word_length count w))

pub odd_word : (kept : List ℕ) (w count : ℕ) → AllBelowBase 10 (word_digits w count) → count % 2 ≡ 1 → kept ≡ word_bytes (w * 16) (count / 2 + 1)
    → IsPacked kept count × (digits_in kept count ≡ word_digits w count)
odd_word kept w count h odd e =
    let twice : count ≡ 2 * (count / 2) + 1 = omega arith in
    kept_so kept (word_digits w count) count h (e ∙ sym (ap (λ n. packed (word_digits w n)) twice ∙ word_odd (count / 2) w)) (sym (word_length count w))

high_last : (n w : ℕ) → n ≤ 8 → drop (8 - n) (bytes_high_first 8 w) ≡ bytes_high_first n w
high_last zero w h = refl
high_last (suc zero) w h = refl
high_last (suc (suc zero)) w h = refl
high_last (suc (suc (suc zero))) w h = refl
high_last (suc (suc (suc (suc zero)))) w h = refl
high_last (suc (suc (suc (suc (suc zero))))) w h = refl
high_last (suc (suc (suc (suc (suc (suc zero)))))) w h = refl
high_last (suc (suc (suc (suc (suc (suc (suc zero))))))) w h = refl
high_last (suc (suc (suc (suc (suc (suc (suc (suc zero)))))))) w h = refl
high_last (suc (suc (suc (suc (suc (suc (suc (suc (suc n))))))))) w h = absurd (omega arith)

-- the lowest bytes of a word are the last of all eight
pub last_bytes : (n w : ℕ) → n ≤ 8 → drop (8 - n) (to_be_bytes w64 w) ≡ word_bytes w n
last_bytes n w h = high_last n w h ∙ high_word n w

cons : {b c : ℕ} {bs cs : List ℕ} → b ≡ c → bs ≡ cs → b ∷ bs ≡ c ∷ cs
cons {b} {c} {bs} {cs} e es = ap (λ x. x ∷ bs) e ∙ ap (λ xs. c ∷ xs) es

moved_up : (n w : ℕ) → 0 < n → n ≤ 8 → take n (bytes_high_first 8 (w * 2 ^ (64 - 8 * n) % 2 ^ 64)) ≡ bytes_high_first n w
moved_up zero w some h = absurd (omega arith)
moved_up (suc zero) w some h = cons (omega arith) refl
moved_up (suc (suc zero)) w some h = cons (omega arith) (cons (omega arith) refl)
moved_up (suc (suc (suc zero))) w some h = cons (omega arith) (cons (omega arith) (cons (omega arith) refl))
moved_up (suc (suc (suc (suc zero)))) w some h = cons (omega arith) (cons (omega arith) (cons (omega arith) (cons (omega arith) refl)))
moved_up (suc (suc (suc (suc (suc zero))))) w some h = cons (omega arith) (cons (omega arith) (cons (omega arith) (cons (omega arith) (cons (omega arith) refl))))
moved_up (suc (suc (suc (suc (suc (suc zero)))))) w some h = cons (omega arith) (cons (omega arith) (cons (omega arith) (cons (omega arith) (cons (omega arith) (cons (omega arith) refl)))))
moved_up (suc (suc (suc (suc (suc (suc (suc zero))))))) w some h = cons (omega arith) (cons (omega arith) (cons (omega arith) (cons (omega arith) (cons (omega arith) (cons (omega arith) (cons (omega arith) refl))))))
moved_up (suc (suc (suc (suc (suc (suc (suc (suc zero)))))))) w some h = cons (omega arith) (cons (omega arith) (cons (omega arith) (cons (omega arith) (cons (omega arith) (cons (omega arith) (cons (omega arith) (cons (omega arith) refl)))))))
moved_up (suc (suc (suc (suc (suc (suc (suc (suc (suc n))))))))) w some h = absurd (omega arith)

-- the lowest bytes of a word that is moved up are the first of all eight
pub first_bytes : (n w : ℕ) → 0 < n → n ≤ 8 → take n (to_be_bytes w64 (w * 2 ^ (64 - 8 * n) % 2 ^ 64)) ≡ word_bytes w n
first_bytes n w some h = moved_up n w some h ∙ high_word n w
