-- Blocks of digits after other digits.
use Rattle.std.proofs.Common.{◌≡◌, ℕ, zero, suc, ◌+◌, ◌*◌, ◌%◌, ◌/◌, List, [], ◌∷◌, ◌++◌, length, length-append, map, refl, sym, ap, ◌∙◌, arith}
use Rattle.std.proofs.lemmas.List.{append_assoc, length-map, map-append}
use Rattle.std.specs.Char.{digit_value}
use Rattle.std.specs.Int.Digits.{AllBelowBase}
use Rattle.fixed_decimal_digit_words.specs.DigitText.{AreDigits}
use Rattle.fixed_decimal_digit_words.specs.Packed.{packed, digits_in, IsPacked}
use Rattle.fixed_decimal_digit_words.proofs.DigitsLemmas.{below_joined}
use Rattle.fixed_decimal_digits.proofs.PackedLemmas.{kept_so}

-- digits after an even count
packed_joined : (k : ℕ) (ds es : List ℕ) → length ds ≡ 2 * k → packed (ds ++ es) ≡ packed ds ++ packed es
packed_joined zero [] es e = refl
packed_joined zero (x ∷ xs) es e = absurd (omega arith)
packed_joined (suc k) [] es e = absurd (omega arith)
packed_joined (suc k) (x ∷ []) es e = absurd (omega arith)
packed_joined (suc k) (x ∷ y ∷ ds) es e = ap (λ r. (x * 16 + y) ∷ r) (packed_joined k ds es (omega arith))

pub block_pushed : (bytes new es : List ℕ) (count n : ℕ) → IsPacked bytes count → AllBelowBase 10 es → count % 2 ≡ 0 → length es ≡ n → new ≡ bytes ++ packed es
    → IsPacked new (count + n) × (digits_in new (count + n) ≡ digits_in bytes count ++ es)
block_pushed bytes new es count n p tens even size e =
    let ds = digits_in bytes count in
    kept_so new (ds ++ es) (count + n) (below_joined ds es p.tens tens)
    (e ∙ ap (λ b. b ++ packed es) p.packed_are ∙ sym (packed_joined (count / 2) ds es (omega (arith, p.all))))
    (omega (arith, length-append ds es, p.all, size))

-- a text of two parts, one pushed after the other
pub parts_pushed : (ds front back text : List ℕ) → text ≡ front ++ back → (ds ++ map digit_value front) ++ map digit_value back ≡ ds ++ map digit_value text
parts_pushed ds front back text e =
    append_assoc ds (map digit_value front) (map digit_value back)
    ∙ ap (λ t. ds ++ t) (sym (map-append digit_value front back)) ∙ ap (λ t. ds ++ map digit_value t) (sym e)

pub pushed_length : (ds text : List ℕ) → length (ds ++ map digit_value text) ≡ length ds + length text
pushed_length ds text = length-append ds (map digit_value text) ∙ ap (λ n. length ds + n) (length-map text digit_value)

pub digits_ahead : (front back : List ℕ) → AreDigits (front ++ back) → AreDigits front
digits_ahead [] back h = tt
digits_ahead (c ∷ cs) back h = (h.0, digits_ahead cs back h.1)

pub digits_past : (front back : List ℕ) → AreDigits (front ++ back) → AreDigits back
digits_past [] back h = h
digits_past (c ∷ cs) back h = digits_past cs back h.1

-- the first character of a text, and the rest
pub first_left : (ds rest text : List ℕ) (c d : ℕ) → text ≡ c ∷ rest → d ≡ digit_value c → (ds ++ d ∷ []) ++ map digit_value rest ≡ ds ++ map digit_value text
first_left ds rest text c d e f =
    append_assoc ds (d ∷ []) (map digit_value rest)
    ∙ ap (λ k. ds ++ k ∷ map digit_value rest) f ∙ ap (λ t. ds ++ map digit_value t) (sym e)
