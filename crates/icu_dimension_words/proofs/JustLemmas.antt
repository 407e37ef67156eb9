-- A number of which one digit is all that is shown.
use Rattle.std.proofs.Common.{◌≡◌, ◌==◌, ℕ, ◌+◌, ◌*◌, ◌/◌, ◌%◌, ◌^◌, ◌<◌, ◌≤◌, ⊎_elim, true, refl, sym, ap, ◌∙◌, arith}
use Rattle.std.proofs.Math.Nat.{div-add-mod', mul-le-mul_left, mul-lt-mul_of_pos_right, mul-mod_left, mul_comm}
use Rattle.std.proofs.lemmas.Bool.{and_parts, cases_lt, eq-eqb, eqb-true, false≢true, ne_eqb}
use Rattle.std.proofs.lemmas.Bool.Decides.{eqb_tells}
use Rattle.fixed_decimal.specs.Number.{IsNumber, Number, digit}
use Rattle.fixed_decimal.specs.SignedValue.{SignedValue}
use Rattle.fixed_decimal.specs.TextLaws.{IsDecimal}
use Rattle.fixed_decimal.specs.Range.{IsHighest}
use Rattle.fixed_decimal.specs.WholeNumbers.{IsWhole}
use Rattle.fixed_decimal.specs.declared.Sign.{Sign}
use Rattle.fixed_decimal.specs.declared.Sign.TheVariants.{None as NoSign, Negative, Positive}
use Rattle.fixed_decimal.proofs.TenLemmas.{tens_next, tens_positive}
use Rattle.icu_dimension_words.specs.WordsLaws.{digit_alone}
use Rattle.icu_dimension_words.specs.WordsText.{has_no_sign, is_just}

-- ---- what is shown as one digit is that digit

few_units : (q p count : ℕ) → q * p ≤ count → count < p * 10 → q < 10
few_units q p count under below =
    ⊎_elim (λ few. few) (λ many. let more : p * 10 ≤ p * q = mul-le-mul_left {m = 10} {n = q} p many in let turned : p * q ≡ q * p = mul_comm p q in absurd (omega (arith, more, turned))) (cases_lt q 10)

one_digit : (count p n : ℕ) → count % p ≡ 0 → count < p * 10 → count / p % 10 ≡ n → count ≡ n * p
one_digit count p n whole below is =
    let split = div-add-mod' count p in
    let exact : count / p * p ≡ count = omega (arith, split, whole) in
    let few : count / p < 10 = few_units (count / p) p count (omega (arith, exact)) below in
    let same : count / p ≡ n = omega (arith, few, is) in
    sym exact ∙ ap (λ q. q * p) same

just_count : (v : Number) (b n : ℕ) → IsNumber v → v.low ≡ b → v.high ≡ b → digit v.count b ≡ n → v.count ≡ n * 10 ^ b
just_count v b n is low high at =
    let whole : v.count % 10 ^ b ≡ 0 = ap (λ e. v.count % 10 ^ e) (sym low) ∙ is.whole in
    let limit : 10 ^ (v.high + 1) ≡ 10 ^ b * 10 = ap (λ e. 10 ^ (e + 1)) high ∙ tens_next b in
    let top = is.below in
    one_digit v.count (10 ^ b) n whole (omega (arith, top, limit)) at

no_sign_is : (sign : Sign) → has_no_sign sign ≡ true → sign ≡ NoSign
no_sign_is NoSign has = refl
no_sign_is Negative has = absurd (false≢true has)
no_sign_is Positive has = absurd (false≢true has)

pub just_is_digit : (n : ℕ) (v : SignedValue Number) → IsDecimal v → is_just n v ≡ true → v ≡ digit_alone n
just_is_digit n v is just =
    let first = and_parts (has_no_sign v.sign) _ just in
    let second = and_parts (v.absolute.low == 32768) _ first.1 in
    let third = and_parts (v.absolute.high == 32768) (digit v.absolute.count 32768 == n) second.1 in
    let sign : v.sign ≡ NoSign = no_sign_is v.sign first.0 in
    let low : v.absolute.low ≡ 32768 = eqb-true v.absolute.low 32768 second.0 in
    let high : v.absolute.high ≡ 32768 = eqb-true v.absolute.high 32768 third.0 in
    let count : v.absolute.count ≡ n * 10 ^ 32768 = just_count v.absolute 32768 n is low high (eqb-true (digit v.absolute.count 32768) n third.1) in
    λ i. record { sign = sign i; absolute = record { count = count i; low = low i; high = high i } }

-- ---- a whole number of one digit is that digit

high_of_digit : (b n count high : ℕ) → n < 10 → count ≡ n * 10 ^ b → IsHighest b 0 count high → high ≡ b
high_of_digit b n count high few is highest =
    let below : n * 10 ^ b < 10 * 10 ^ b = mul-lt-mul_of_pos_right few (tens_positive b) in
    let turned : 10 * 10 ^ b ≡ 10 ^ b * 10 = mul_comm 10 (10 ^ b) in
    let limit : 10 ^ (b + 1) ≡ 10 ^ b * 10 = tens_next b in
    let top : high ≤ b = highest.lowest b (omega arith) (omega arith) (omega (arith, is, below, turned, limit)) in
    let least : b ≤ high = highest.keeps in
    omega (arith, top, least)

pub whole_is_digit : (n : ℕ) (v : SignedValue Number) → n < 10 → IsWhole n v → v ≡ digit_alone n
whole_is_digit n v few whole =
    let high : v.absolute.high ≡ 32768 = high_of_digit 32768 n v.absolute.count v.absolute.high few whole.size.count whole.size.high in
    let size = whole.size in
    λ i. record { sign = whole.sign i; absolute = record { count = size.count i; low = size.low i; high = high i } }

pub whole_is_decimal : (n : ℕ) (v : SignedValue Number) → n < 10 → IsWhole n v → IsDecimal v
whole_is_decimal n v few whole =
    let size = whole.size in
    let high : v.absolute.high ≡ 32768 = high_of_digit 32768 n v.absolute.count v.absolute.high few size.count size.high in
    let low : v.absolute.low ≡ 32768 = size.low in
    record {
      low = omega (arith, low);
      ones = omega (arith, high);
      high = omega (arith, high);
      whole = ap (λ e. v.absolute.count % 10 ^ e) low ∙ ap (λ k. k % 10 ^ 32768) size.count ∙ mul-mod_left n (10 ^ 32768);
      below = size.high.holds;
    }

-- ---- how many digits are shown

pub no_fraction : (low n : ℕ) → low + n ≡ 32768 → (n == 0) ≡ (low == 32768)
no_fraction low n is = ⊎_elim (λ t. t.0 ∙ sym (eq-eqb low 32768 (let none = t.1 in omega (arith, is, none)))) (λ t. t.0 ∙ sym (ne_eqb low 32768 (λ same. t.1 (omega (arith, is, same))))) (eqb_tells n 0)

pub one_whole : (high n : ℕ) → 32767 + n ≡ high → (n == 1) ≡ (high == 32768)
one_whole high n is = ⊎_elim (λ t. t.0 ∙ sym (eq-eqb high 32768 (let one = t.1 in omega (arith, is, one)))) (λ t. t.0 ∙ sym (ne_eqb high 32768 (λ same. t.1 (omega (arith, is, same))))) (eqb_tells n 1)
