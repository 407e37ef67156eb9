-- The printed text of a number spells that number.
use Rattle.std.proofs.Common.{◌≡◌, ℕ, zero, suc, ◌+◌, ◌-◌, ◌*◌, ◌/◌, ◌%◌, ◌^◌, ◌<◌, ◌≤◌, min, max, ◌==◌, ◌||◌, Bool, true, false, cond, List, [], ◌∷◌, ◌++◌, length, length-append, map, refl, sym, ap, ◌∙◌, subst, arith, inl}
use Rattle.std.proofs.Math.Nat.{mod-lt, mod-eq_of_lt, div-div-eq-div-mul, mod-one, div-add-mod', pow-suc}
use Rattle.std.proofs.lemmas.Nat.{div_below}
use Rattle.std.proofs.lemmas.List.{append-nil, map-append}
use Rattle.std.proofs.lemmas.Bool.Decides.{nat_tests}
use Rattle.std.specs.Char.{digit_value}
use Rattle.fixed_decimal_unsigned.specs.Number.{Number, IsNumber, digit, digits_down, whole_digits, fraction_digits}
use Rattle.fixed_decimal_unsigned.specs.NumberText.{AreDigits, spelled, after_point, character, small_mark, Parts, number_at, mantissa_of, up_of, down_of, AreEndsIn, Reads, text_of}
use Rattle.fixed_decimal_digits.proofs.ShownDigitsLemmas.{down_split}
use Rattle.fixed_decimal_digits.proofs.TenLemmas.{tens_positive, tens_split, remainder_more}
use Rattle.fixed_decimal_unsigned.proofs.MantissaLemmas.{spelled_from, number_made, same_number}
use Rattle.fixed_decimal_unsigned.proofs.ReadOnceLemmas.{same_at, reads_once}

pub digit_below_ten : (count p : ℕ) → digit count p < 10
digit_below_ten count p = mod-lt (count / 10 ^ p) {m = 10} (omega arith)

pub character_value : (d : ℕ) → d < 10 → digit_value (character d) ≡ d
character_value d h = grind (arith, nat_tests)

pub printed_digits : (count base n : ℕ) → AreDigits (map character (digits_down count base n))
printed_digits count base zero = tt
printed_digits count base (suc k) =
    (subst (λ x. x < 10) (sym (character_value (digit count (base + k)) (digit_below_ten count (base + k)))) (digit_below_ten count (base + k)), printed_digits count base k)

pub printed_length : (count base n : ℕ) → length (map character (digits_down count base n)) ≡ n
printed_length count base zero = refl
printed_length count base (suc k) = ap suc (printed_length count base k)

plain_sum : (d t r : ℕ) → (0 * 10 + d) * t + r ≡ d * t + r
plain_sum d t r = omega arith

-- the digits of a count spell its quotient, cut above
pub printed_value : (count base n : ℕ) → spelled (map character (digits_down count base n)) ≡ count / 10 ^ base % 10 ^ n
printed_value count base zero = sym (mod-one (count / 10 ^ base))
printed_value count base (suc k) =
    let rest = map character (digits_down count base k) in
    let first : digit_value (character (digit count (base + k))) ≡ digit count (base + k) = character_value (digit count (base + k)) (digit_below_ten count (base + k)) in
    let at : digit count (base + k) ≡ count / 10 ^ base / 10 ^ k % 10 =
    ap (λ t. count / t % 10) (tens_split base k (base + k) refl) ∙ ap (λ x. x % 10) (sym (div-div-eq-div-mul count (10 ^ base) (10 ^ k))) in
    spelled_from (0 * 10 + digit_value (character (digit count (base + k)))) rest
    ∙ ap (λ l. (0 * 10 + digit_value (character (digit count (base + k)))) * 10 ^ l + spelled rest) (printed_length count base k)
    ∙ ap (λ s. (0 * 10 + digit_value (character (digit count (base + k)))) * 10 ^ k + s) (printed_value count base k)
    ∙ ap (λ d. (0 * 10 + d) * 10 ^ k + count / 10 ^ base % 10 ^ k) (first ∙ at)
    ∙ plain_sum (count / 10 ^ base / 10 ^ k % 10) (10 ^ k) (count / 10 ^ base % 10 ^ k)
    ∙ sym (remainder_more (count / 10 ^ base) (10 ^ k) (tens_positive k))
    ∙ ap (λ t. count / 10 ^ base % t) (sym (pow-suc 10 k))

quotient_whole : (n low k top : ℕ) → low + k ≡ top → n < 10 ^ top → n / 10 ^ low % 10 ^ k ≡ n / 10 ^ low
quotient_whole n low k top e h =
    let under : n < 10 ^ k * 10 ^ low = subst (λ x. n < x) (tens_split k low top (omega arith)) h in
    mod-eq_of_lt (div_below n (10 ^ low) (10 ^ k) (tens_positive low) under)

least : (low : ℕ) → low ≤ 32768 → low ≡ min 32768 low
least low l = omega arith

greatest : (high : ℕ) → 32768 ≤ high → high ≡ max 32768 high
greatest high t = omega arith

nothing_moved : (b : Bool) (n : ℕ) → cond b n n ≡ n
nothing_moved true n = refl
nothing_moved false n = refl

printed_within : (a b u d low high : ℕ) → low ≤ 32768 → high < 65536 → a ≡ high - 32767 → b ≡ 32768 - low → u ≡ 0 → d ≡ 0 → AreEndsIn a b u d
printed_within a b u d low high l t ea eb eu ed = record { exponent_high = omega arith; exponent_low = omega arith; first = omega arith; last = omega arith }

printed_number : (count low high : ℕ) → low ≤ 32768 → 32768 ≤ high → count % 10 ^ low ≡ 0 → number_made count low high ≡ number_at (count / 10 ^ low) (high - 32767) (32768 - low) 0 0
printed_number count low high l t w =
    let place : 32768 + 0 - ((32768 - low) + 0) ≡ low = omega arith in
    let whole : count ≡ count / 10 ^ low * 10 ^ low = omega (arith, div-add-mod' count (10 ^ low)) in
    let top : 32768 + 0 + (high - 32767) - (0 + 1) ≡ high = omega arith in
    same_number count (count / 10 ^ low * 10 ^ (32768 + 0 - ((32768 - low) + 0))) low (min 32768 (32768 + 0 - ((32768 - low) + 0))) high (max 32768 (32768 + 0 + (high - 32767) - (0 + 1)))
    (whole ∙ ap (λ k. count / 10 ^ low * 10 ^ k) (sym place)) (least low l ∙ ap (λ k. min 32768 k) (sym place)) (greatest high t ∙ ap (λ k. max 32768 k) (sym top))

-- the printed text spells the number
pub reads_printed : (v : Number) → IsNumber v → Reads (text_of v) v
reads_printed v h =
    let above = v.high - 32767 in let below = 32768 - v.low in
    let parts : Parts = record { integer = map character (whole_digits v); fraction = map character (fraction_digits v); negative = false; exponent = [] } in
    let base : v.low + below ≡ 32768 = let a = h.low in omega arith in
    let all : whole_digits v ++ fraction_digits v ≡ digits_down v.count v.low (above + below) =
    ap (λ b. digits_down v.count b above ++ fraction_digits v) (sym base) ∙ sym (down_split v.count v.low above below) in
    let mantissa : spelled (parts.integer ++ parts.fraction) ≡ v.count / 10 ^ v.low =
    ap spelled (sym (map-append character (whole_digits v) (fraction_digits v)) ∙ ap (map character) all)
    ∙ printed_value v.count v.low (above + below)
    ∙ quotient_whole v.count v.low (above + below) (v.high + 1) (let a = h.low in let b = h.ones in omega arith) h.below in
    let la : length parts.integer ≡ above = printed_length v.count 32768 above in
    let lb : length parts.fraction ≡ below = printed_length v.count v.low below in
    let up : up_of parts ≡ 0 = nothing_moved (mantissa_of parts == 0 || false) 0 in
    let down : down_of parts ≡ 0 = nothing_moved (mantissa_of parts == 0) 0 in
    record {
      parts = parts;
      spells = record {
        last = [];
        whole = ap (λ t. parts.integer ++ t) (sym (append-nil (after_point parts.fraction)));
        integer_digits = printed_digits v.count 32768 above;
        fraction_digits = printed_digits v.count v.low below;
        some = let b = h.ones in omega arith;
        power = record { mark = small_mark; is_mark = inl refl; digits = tt; whole = refl };
      };
      within = printed_within (length parts.integer) (length parts.fraction) (up_of parts) (down_of parts) v.low v.high h.low h.high la lb up down;
      is = printed_number v.count v.low v.high h.low h.ones h.whole
          ∙ sym (same_at (mantissa_of parts) (v.count / 10 ^ v.low) (length parts.integer) above (length parts.fraction) below (up_of parts) 0 (down_of parts) 0 mantissa la lb up down);
    }

after_length : (text : List ℕ) → 0 < length text → length (after_point text) ≡ length text + 1
after_length [] p = absurd (omega arith)
after_length (c ∷ cs) p = omega arith

behind_none : (text : List ℕ) → length text ≡ 0 → length (after_point text) ≡ 0
behind_none [] e = refl
behind_none (c ∷ cs) e = absurd (omega arith)

-- how long a printed text is, with a fraction and without one
pub text_with_fraction : (v : Number) → 32768 ≤ v.high → v.low < 32768 → v.high - v.low + 1 + 1 ≡ length (text_of v)
text_with_fraction v o l =
    let whole = printed_length v.count 32768 (v.high - 32767) in
    let part = printed_length v.count v.low (32768 - v.low) in
    let behind = after_length (map character (fraction_digits v)) (omega arith) in
    omega (arith, length-append (map character (whole_digits v)) (after_point (map character (fraction_digits v))))

pub text_without_fraction : (v : Number) → 32768 ≤ v.high → v.low ≡ 32768 → v.high - v.low + 1 ≡ length (text_of v)
text_without_fraction v o l =
    let whole = printed_length v.count 32768 (v.high - 32767) in
    let part = printed_length v.count v.low (32768 - v.low) in
    let behind = behind_none (map character (fraction_digits v)) (omega arith) in
    omega (arith, length-append (map character (whole_digits v)) (after_point (map character (fraction_digits v))))

-- numbers with one printed text are one number
pub texts_tell : (a b : Number) → IsNumber a → IsNumber b → text_of a ≡ text_of b → a ≡ b
texts_tell a b h k e = reads_once (text_of a) a b (reads_printed a h) (subst (λ t. Reads t b) (sym e) (reads_printed b k))
