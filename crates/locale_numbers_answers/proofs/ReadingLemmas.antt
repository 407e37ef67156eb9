-- A text spells one number: whichever parts spell it, they name the same.
use Rattle.std.proofs.Common.{◌≡◌, ◌==◌, ◌||◌, ◌&&◌, ℕ, ◌+◌, ◌<◌, nat_le, Bool, true, false, cond, List, [], ◌∷◌, ◌++◌, length, refl, sym, ap, ◌∙◌, subst, arith}
use Rattle.std.specs.Char.{digit_value}
use Rattle.std.proofs.lemmas.Bool.{and_from, and_parts, le-leb, leb-true}
use Rattle.fixed_decimal.specs.NumberText.{minus_if, minus, Parts, SpellsExponent, Spells, IsWithin, up_of, down_of, number_of, mantissa_of, number_at, spelled, AreEndsIn}
use Rattle.fixed_decimal.proofs.TextPartsLemmas.{found_parts, cons_head, cons_tail, exponent_no_digit, exponent_no_point}
use Rattle.locale_numbers_answers.specs.NumberReading.{is_within}

-- a minus is no digit
minus_first : (d : ℕ) → minus ≡ d → digit_value d < 10 → ⊥
minus_first d first digit = let bad : digit_value 45 < 10 = subst (λ n. digit_value n < 10) (sym first) digit in omega arith

-- two exponents of one text have one sign, where they have digits, and the same digits
record AgreesOn (a b : Bool) (x y : List ℕ) : Type 0 where
  digits : x ≡ y
  up : cond a 0 (spelled x) ≡ cond b 0 (spelled y)
  down : cond a (spelled x) 0 ≡ cond b (spelled y) 0

after_agree : (a b : Bool) (c d : ℕ) (cs ds : List ℕ) → digit_value c < 10 → digit_value d < 10 → minus_if a ++ c ∷ cs ≡ minus_if b ++ d ∷ ds → AgreesOn a b (c ∷ cs) (d ∷ ds)
after_agree true true c d cs ds first second same = let e = cons_tail minus minus (c ∷ cs) (d ∷ ds) same in record { digits = e; up = refl; down = ap spelled e }
after_agree false false c d cs ds first second same = record { digits = same; up = ap spelled same; down = refl }
after_agree true false c d cs ds first second same = absurd (minus_first d (cons_head minus d (c ∷ cs) ds same) second)
after_agree false true c d cs ds first second same = absurd (minus_first c (sym (cons_head c minus cs (d ∷ ds) same)) first)

none_agree : (a b : Bool) → AgreesOn a b [] []
none_agree true true = record { digits = refl; up = refl; down = refl }
none_agree true false = record { digits = refl; up = refl; down = refl }
none_agree false true = record { digits = refl; up = refl; down = refl }
none_agree false false = record { digits = refl; up = refl; down = refl }

powers_agree : (last : List ℕ) (a b : Bool) (x y : List ℕ) → SpellsExponent last a x → SpellsExponent last b y → AgreesOn a b x y
powers_agree last a b [] [] one two = none_agree a b
powers_agree last a b [] (d ∷ ds) one two = let bad : [] ≡ two.mark ∷ (minus_if b ++ d ∷ ds) = sym one.whole ∙ two.whole in absurd (cc)
powers_agree last a b (c ∷ cs) [] one two = let bad : [] ≡ one.mark ∷ (minus_if a ++ c ∷ cs) = sym two.whole ∙ one.whole in absurd (cc)
powers_agree last a b (c ∷ cs) (d ∷ ds) one two =
    after_agree a b c d cs ds one.digits.0 two.digits.0 (cons_tail one.mark two.mark (minus_if a ++ c ∷ cs) (minus_if b ++ d ∷ ds) (sym one.whole ∙ two.whole))

-- two lists of parts of one text have one mantissa, one range and one exponent
pub record Agree (one two : Parts) : Type 0 where
  pub integer : one.integer ≡ two.integer
  pub fraction : one.fraction ≡ two.fraction
  pub up : up_of one ≡ up_of two
  pub down : down_of one ≡ down_of two

pub parts_agree : (text : List ℕ) (one two : Parts) → Spells text one → Spells text two → Agree one two
parts_agree text one two first second =
    let found = found_parts text one.integer one.fraction first.last first.whole first.integer_digits first.fraction_digits
    (exponent_no_digit first.last one.negative one.exponent first.power) (λ _. exponent_no_point first.last one.negative one.exponent first.power) two second in
    let same = powers_agree first.last one.negative two.negative one.exponent two.exponent first.power (subst (λ t. SpellsExponent t two.negative two.exponent) (sym found.2) second.power) in
    let mantissa : mantissa_of one ≡ mantissa_of two = cc in
    record {
      integer = found.0;
      fraction = found.1;
      up = at_up (mantissa_of one == 0) (mantissa_of two == 0) one.negative two.negative (ap (λ m. m == 0) mantissa) same.up;
      down = at_down (mantissa_of one == 0) (mantissa_of two == 0) (ap (λ m. m == 0) mantissa) same.down;
    }
  where
    at_up : (z w a b : Bool) → z ≡ w → cond a 0 (spelled one.exponent) ≡ cond b 0 (spelled two.exponent) → cond (z || a) 0 (spelled one.exponent) ≡ cond (w || b) 0 (spelled two.exponent)
    at_up true true a b zero up = refl
    at_up false false a b zero up = up
    at_up true false a b zero up = absurd (cc)
    at_up false true a b zero up = absurd (cc)

    at_down : (z w : Bool) → z ≡ w → cond one.negative (spelled one.exponent) 0 ≡ cond two.negative (spelled two.exponent) 0 → cond z 0 (cond one.negative (spelled one.exponent) 0) ≡ cond w 0 (cond two.negative (spelled two.exponent) 0)
    at_down true true zero down = refl
    at_down false false zero down = down
    at_down true false zero down = absurd (cc)
    at_down false true zero down = absurd (cc)

five : {T : Type 0} (F : ℕ → ℕ → ℕ → ℕ → ℕ → T) (m n a b c d u v x y : ℕ) → m ≡ n → a ≡ b → c ≡ d → u ≡ v → x ≡ y → F m a c u x ≡ F n b d v y
five F m n a b c d u v x y first second third fourth fifth = cc

pub numbers_agree : (one two : Parts) → Agree one two → number_of one ≡ number_of two
numbers_agree one two same =
    let mantissa : mantissa_of one ≡ mantissa_of two = let whole : one.integer ++ one.fraction ≡ two.integer ++ two.fraction = ap (λ t. t ++ one.fraction) same.integer ∙ ap (λ t. two.integer ++ t) same.fraction in ap spelled whole in
    five number_at (mantissa_of one) (mantissa_of two) (length one.integer) (length two.integer) (length one.fraction) (length two.fraction) (up_of one) (up_of two) (down_of one) (down_of two)
    mantissa (ap length same.integer) (ap length same.fraction) same.up same.down

ends_agree : (a b c d u v x y : ℕ) → a ≡ b → c ≡ d → u ≡ v → x ≡ y → AreEndsIn a c u x → AreEndsIn b d v y
ends_agree a b c d u v x y first second third fourth ends = record {
  exponent_high = omega (arith, ends.exponent_high);
  exponent_low = omega (arith, ends.exponent_low);
  first = omega (arith, ends.first);
  last = omega (arith, ends.last);
}

pub within_agree : (one two : Parts) → Agree one two → IsWithin one → IsWithin two
within_agree one two same within =
    ends_agree (length one.integer) (length two.integer) (length one.fraction) (length two.fraction) (up_of one) (up_of two) (down_of one) (down_of two)
    (ap length same.integer) (ap length same.fraction) same.up same.down within

ends_shown : (above below up down : ℕ) → (nat_le up 32767 && nat_le down 32768 && nat_le (above + up) (32768 + down) && nat_le (below + down) (32768 + up)) ≡ true → AreEndsIn above below up down
ends_shown above below up down inside =
    let last = and_parts _ _ inside in let first = and_parts _ _ last.0 in let ends = and_parts _ _ first.0 in
    record { exponent_high = leb-true _ _ ends.0; exponent_low = leb-true _ _ ends.1; first = leb-true _ _ first.1; last = leb-true _ _ last.1 }

ends_tested : (above below up down : ℕ) → AreEndsIn above below up down → (nat_le up 32767 && nat_le down 32768 && nat_le (above + up) (32768 + down) && nat_le (below + down) (32768 + up)) ≡ true
ends_tested above below up down ends =
    and_from _ _ (and_from _ _ (and_from _ _ (le-leb _ _ ends.exponent_high) (le-leb _ _ ends.exponent_low)) (le-leb _ _ ends.first)) (le-leb _ _ ends.last)

-- the test of the ends is the fact
pub within_shown : (parts : Parts) → is_within parts ≡ true → IsWithin parts
within_shown parts inside = ends_shown (length parts.integer) (length parts.fraction) (up_of parts) (down_of parts) inside

pub within_tested : (parts : Parts) → IsWithin parts → is_within parts ≡ true
within_tested parts within = ends_tested (length parts.integer) (length parts.fraction) (up_of parts) (down_of parts) within
