-- Words that spell numbers: two beside one another, and with zeros before the first digit.
use Rattle.std.proofs.Common.{◌≡◌, ℕ, zero, suc, ◌+◌, ◌*◌, ◌/◌, ◌%◌, ◌^◌, ◌<◌, ◌≤◌, List, [], ◌∷◌, ◌++◌, length, map, refl, sym, ap, ◌∙◌, subst, arith}
use Rattle.std.proofs.Math.Nat.{pow-suc, mul-le-mul_right, div-add-mod'}
use Rattle.std.proofs.lemmas.Nat.{pow-add}
use Rattle.std.proofs.lemmas.Int.Digits.{number_push, digits_value_is}
use Rattle.std.specs.Char.{digit_value}
use Rattle.std.specs.Str.Parse.{digits_value, digits_value_after}
use Rattle.fixed_decimal_digit_words.specs.DigitText.{AreDigits}
use Rattle.std.proofs.lemmas.List.{append_assoc, append-nil}
use Rattle.std.specs.Int.Digits.{number_from_digits, AllBelowBase}
use Rattle.fixed_decimal_digit_words.specs.DigitWord.{word_digits, SpellsNumber}
use Rattle.fixed_decimal_digit_words.proofs.DigitsLemmas.{number_joined, below_joined, below_push}
use Rattle.fixed_decimal_digit_words.proofs.WordLemmas.{word_length, power_positive, word_after, value_below, tens_of}

upper_of : (a b u v : ℕ) → v ≡ u * 16 → (a * v + b) / 16 ≡ a * u + b / 16
upper_of a b u v e = let sum : a * v + b ≡ a * u * 16 + b = omega (arith, ap (λ x. a * x) e) in ap (λ n. n / 16) sum ∙ omega arith

last_of : (a b u v : ℕ) → v ≡ u * 16 → (a * v + b) % 16 ≡ b % 16
last_of a b u v e = let sum : a * v + b ≡ a * u * 16 + b = omega (arith, ap (λ x. a * x) e) in ap (λ n. n % 16) sum ∙ omega arith

-- the digits of two words, one after the other
pub word_joined : (m k a b : ℕ) → b < 16 ^ m → word_digits (a * 16 ^ m + b) (k + m) ≡ word_digits a k ++ word_digits b m
word_joined zero k a b h =
    let none : a * 1 + b ≡ a = omega arith in let same : k + 0 ≡ k = omega arith in
    ap (λ w. word_digits w (k + 0)) none ∙ ap (word_digits a) same ∙ sym (append-nil (word_digits a k))
word_joined (suc m) k a b h =
    let next : k + suc m ≡ suc (k + m) = omega arith in
    let power : 16 ^ suc m ≡ 16 ^ m * 16 = pow-suc 16 m in
    let w = a * 16 ^ suc m + b in
    let below : b / 16 < 16 ^ m = omega (arith, h, power) in
    ap (word_digits w) next
    ∙ ap (λ u. word_digits u (k + m) ++ (w % 16 ∷ [])) (upper_of a b (16 ^ m) (16 ^ suc m) power)
    ∙ ap (λ ds. ds ++ (w % 16 ∷ [])) (word_joined m k a (b / 16) below)
    ∙ append_assoc (word_digits a k) (word_digits (b / 16) m) (w % 16 ∷ [])
    ∙ ap (λ d. word_digits a k ++ (word_digits (b / 16) m ++ (d ∷ []))) (last_of a b (16 ^ m) (16 ^ suc m) power)

joined_below : (x y u v : ℕ) → x < u → y < v → x * v + y < u * v
joined_below x y u v h k = let most : (x + 1) * v ≤ u * v = mul-le-mul_right v (omega arith) in omega arith

pub spells_joined : (x k a y m b : ℕ) → SpellsNumber x k a → SpellsNumber y m b → SpellsNumber (x * 16 ^ m + y) (k + m) (a * 10 ^ m + b)
spells_joined x k a y m b s t =
    let both = word_joined m k x y t.fits in
    record {
      fits = subst (λ n. x * 16 ^ m + y < n) (sym (pow-add 16 k m)) (joined_below x y (16 ^ k) (16 ^ m) s.fits t.fits);
      tens = subst (λ ds. AllBelowBase 10 ds) (sym both) (below_joined (word_digits x k) (word_digits y m) s.tens t.tens);
      value = ap (number_from_digits 10) both ∙ number_joined (word_digits x k) (word_digits y m)
          ∙ ap (λ n. n * 10 ^ length (word_digits y m) + number_from_digits 10 (word_digits y m)) s.value
          ∙ ap (λ n. a * 10 ^ n + number_from_digits 10 (word_digits y m)) (word_length m y)
          ∙ ap (λ n. a * 10 ^ m + n) t.value;
    }

-- the two halves of a number
pub spells_halves : (k u t n x y : ℕ) → u ≡ 16 ^ k → t ≡ 10 ^ k → SpellsNumber x k (n / t) → SpellsNumber y k (n % t) → SpellsNumber (x * u + y) (k + k) n
spells_halves k u t n x y e f s r =
    subst (λ v. SpellsNumber (x * v + y) (k + k) n) (sym e)
    (subst (λ m. SpellsNumber (x * 16 ^ k + y) (k + k) m) (ap (λ v. n / t * v + n % t) (sym f) ∙ div-add-mod' n t)
    (spells_joined x k (n / t) y k (n % t) s r))

pub spells_none : (k : ℕ) → SpellsNumber 0 k 0
spells_none zero = record { fits = omega arith; tens = tt; value = refl }
spells_none (suc k) =
    let less = spells_none k in
    record {
      fits = power_positive (suc k);
      tens = below_push (word_digits 0 k) 0 less.tens (omega arith);
      value = number_push 10 (word_digits 0 k) 0 ∙ ap (λ n. n * 10 + 0) less.value;
    }

-- zeros before the first digit
pub spells_wide : (m w k n : ℕ) → SpellsNumber w k n → SpellsNumber w (m + k) n
spells_wide m w k n s =
    let word : 0 * 16 ^ k + w ≡ w = omega arith in
    let number : 0 * 10 ^ k + n ≡ n = omega arith in
    subst (λ v. SpellsNumber v (m + k) n) word (subst (λ v. SpellsNumber (0 * 16 ^ k + w) (m + k) v) number (spells_joined 0 m 0 w k n (spells_none m) s))

-- the digits of a text, folded into a word
pub text_spells : (text : List ℕ) → AreDigits text → SpellsNumber (digits_value_after 16 0 text) (length text) (digits_value 10 text)
text_spells text h =
    let w = digits_value_after 16 0 text in
    let none : length text ≡ 0 + length text = omega arith in
    let items : word_digits w (length text) ≡ map digit_value text = ap (word_digits w) none ∙ word_after text 0 0 h in
    record {
      fits = let below = value_below text 0 0 h (power_positive 0) in subst (λ n. w < 16 ^ n) (sym none) below;
      tens = subst (λ ds. AllBelowBase 10 ds) (sym items) (tens_of text h);
      value = ap (number_from_digits 10) items ∙ sym (digits_value_is 10 text);
    }
