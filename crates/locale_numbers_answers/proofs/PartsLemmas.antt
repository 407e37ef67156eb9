-- The parts that a function finds of a text are those that spell it.
use Rattle.std.proofs.Common.{◌≡◌, ◌==◌, ◌||◌, ℕ, ◌+◌, ◌<◌, ◌⊎◌, Bool, true, false, cond, List, [], ◌∷◌, ◌++◌, length, Option, Some, None, refl, sym, ap, ◌∙◌, subst, arith, inl, inr}
use Rattle.std.specs.List.{list_all}
use Rattle.std.proofs.lemmas.List.{append-nil}
use Rattle.std.proofs.lemmas.Bool.Decides.{nat_tests}
use Rattle.fixed_decimal.specs.NumberText.{AreDigits, after_point, minus_if, minus, point, small_mark, capital_mark, Parts, SpellsExponent, Spells, IsNoText}
use Rattle.fixed_decimal.specs.TextParts.{StartsNoDigit, StartsNoPoint, StartsNoMinus, IsNoExponent}
use Rattle.fixed_decimal.proofs.TextPartsLemmas.{no_fraction, no_power, no_digits, found_exponent, no_exponent, cons_head, cons_tail}
pub use Rattle.locale_numbers_requests.proofs.DigitsLemmas.{all_digits}
use Rattle.locale_numbers_answers.specs.NumberReading.{is_digit, digits_front, after_digits, is_mark, digits_alone, after_mark_of, power_of, parts_with, after_point_of, parts_behind, parts_of}

-- the digits in front, and what is after them
pub front_whole : (text : List ℕ) → text ≡ digits_front text ++ after_digits text
front_whole [] = refl
front_whole (c ∷ cs) = at (is_digit c) (front_whole cs)
  where
    at : (b : Bool) → cs ≡ digits_front cs ++ after_digits cs → c ∷ cs ≡ cond b (c ∷ digits_front cs) [] ++ cond b (after_digits cs) (c ∷ cs)
    at true rest = ap (λ x. c ∷ x) rest
    at false rest = refl

pub front_digits : (text : List ℕ) → AreDigits (digits_front text)
front_digits [] = tt
front_digits (c ∷ cs) = at (is_digit c) refl (front_digits cs)
  where
    at : (b : Bool) → is_digit c ≡ b → AreDigits (digits_front cs) → AreDigits (cond b (c ∷ digits_front cs) [])
    at true is rest = (grind (arith, nat_tests), rest)
    at false is rest = tt

pub front_ends : (text : List ℕ) → StartsNoDigit (after_digits text)
front_ends [] = tt
front_ends (c ∷ cs) = at (is_digit c) refl (front_ends cs)
  where
    at : (b : Bool) → is_digit c ≡ b → StartsNoDigit (after_digits cs) → StartsNoDigit (cond b (after_digits cs) (c ∷ cs))
    at true is rest = rest
    at false is rest = λ lt. absurd (grind (arith, nat_tests))

-- what a sign and digits, or none, say of the text of an exponent
abbrev pub IsPowerOf : List ℕ → Option (Bool × List ℕ) → Type 0
IsPowerOf text None = IsNoExponent text
IsPowerOf text (Some power) = SpellsExponent text power.0 power.1

-- what parts, or none, say of a text
abbrev pub IsPartsOf : List ℕ → Option Parts → Type 0
IsPartsOf text None = IsNoText text
IsPartsOf text (Some parts) = Spells text parts

parts_with_right : (text integer fraction last : List ℕ) → text ≡ integer ++ (after_point fraction ++ last) → AreDigits integer → AreDigits fraction → StartsNoDigit last → (fraction ≡ [] → StartsNoPoint last)
    → (power : Option (Bool × List ℕ)) → IsPowerOf last power → IsPartsOf text (parts_with integer fraction power)
parts_with_right text integer fraction last whole integers fractions no_digit no_point None lacks =
    no_power text integer fraction last whole integers fractions no_digit no_point lacks
parts_with_right text integer fraction last whole integers fractions no_digit no_point (Some power) spells =
    at (length integer + length fraction == 0) refl
  where
    parts : Parts
    parts = record { integer = integer; fraction = fraction; negative = power.0; exponent = power.1 }

    at : (b : Bool) → (length integer + length fraction == 0) ≡ b → IsPartsOf text (cond b None (Some parts))
    at true none = no_digits text integer fraction last whole integers fractions no_digit no_point (grind (arith, nat_tests)) (grind (arith, nat_tests))
    at false some = record {
      last = last;
      whole = whole;
      integer_digits = integers;
      fraction_digits = fractions;
      some = grind (arith, nat_tests);
      power = spells;
    }

pub digits_all : (text : List ℕ) → AreDigits text → list_all is_digit text ≡ true
digits_all [] digits = refl
digits_all (c ∷ cs) digits = let first : is_digit c ≡ true = grind (arith, nat_tests, digits.0) in rw (first, digits_all cs digits.1)

-- after a mark and a sign are digits alone, or there is no exponent
alone_right : (text tail behind : List ℕ) (mark : ℕ) (sign : Bool) → text ≡ mark ∷ tail → tail ≡ minus_if sign ++ behind → (sign ≡ false → StartsNoMinus behind) → (mark ≡ small_mark) ⊎ (mark ≡ capital_mark)
    → IsPowerOf text (digits_alone sign behind)
alone_right text tail behind mark sign first second no_minus marked = at behind second no_minus
  where
    found : (behind : List ℕ) → tail ≡ minus_if sign ++ behind → (sign ≡ false → StartsNoMinus behind) → (negative : Bool) (exponent : List ℕ) → SpellsExponent text negative exponent
        → (digits_front behind ≡ exponent) × (after_digits behind ≡ []) × (0 < length exponent) × ((mark ≡ small_mark) ⊎ (mark ≡ capital_mark))
    found behind second no_minus negative exponent spells = found_exponent text tail behind (digits_front behind) (after_digits behind) mark sign first second no_minus (front_whole behind) (front_digits behind) (front_ends behind) negative exponent spells

    by_test : (c : ℕ) (cs : List ℕ) → tail ≡ minus_if sign ++ c ∷ cs → (sign ≡ false → StartsNoMinus (c ∷ cs)) → (b : Bool) → list_all is_digit (c ∷ cs) ≡ b → IsPowerOf text (cond b (Some (sign, c ∷ cs)) None)
    by_test c cs second no_minus true all = record { mark = mark; is_mark = marked; digits = all_digits (c ∷ cs) all; whole = first ∙ ap (λ t. mark ∷ t) second }
    by_test c cs second no_minus false some = λ negative exponent spells.
        let none : after_digits (c ∷ cs) ≡ [] = (found (c ∷ cs) second no_minus negative exponent spells).1 in
        let whole : c ∷ cs ≡ digits_front (c ∷ cs) = front_whole (c ∷ cs) ∙ ap (λ t. digits_front (c ∷ cs) ++ t) none ∙ append-nil (digits_front (c ∷ cs)) in
        let all : list_all is_digit (c ∷ cs) ≡ true = digits_all (c ∷ cs) (subst AreDigits (sym whole) (front_digits (c ∷ cs))) in
        cc

    at : (behind : List ℕ) → tail ≡ minus_if sign ++ behind → (sign ≡ false → StartsNoMinus behind) → IsPowerOf text (digits_alone sign behind)
    at [] second no_minus = λ negative exponent spells. let h = found [] second no_minus negative exponent spells in let bad : 0 < 0 = subst (λ t. 0 < length t) (sym h.0) h.2 in absurd (omega arith)
    at (c ∷ cs) second no_minus = by_test c cs second no_minus (list_all is_digit (c ∷ cs)) refl

-- an exponent has its mark in front
unmarked : (c : ℕ) (cs : List ℕ) → is_mark c ≡ false → IsNoExponent (c ∷ cs)
unmarked c cs other negative [] spells = let bad : c ∷ cs ≡ [] = spells.whole in cc
unmarked c cs other negative (d ∷ ds) spells =
    let same : c ≡ spells.mark = cons_head c spells.mark cs (minus_if negative ++ d ∷ ds) spells.whole in
    at spells.mark same spells.is_mark
  where
    at : (mark : ℕ) → c ≡ mark → (mark ≡ small_mark) ⊎ (mark ≡ capital_mark) → ⊥
    at mark same (inl small) = grind (arith, nat_tests)
    at mark same (inr capital) = grind (arith, nat_tests)

-- a mark alone is no exponent
mark_alone : (c : ℕ) → IsNoExponent (c ∷ [])
mark_alone c negative [] spells = let bad : c ∷ [] ≡ [] = spells.whole in cc
mark_alone c true (d ∷ ds) spells = let bad : [] ≡ minus ∷ (d ∷ ds) = cons_tail c spells.mark [] (minus ∷ (d ∷ ds)) spells.whole in cc
mark_alone c false (d ∷ ds) spells = let bad : [] ≡ d ∷ ds = cons_tail c spells.mark [] (d ∷ ds) spells.whole in cc

marks : (c : ℕ) → is_mark c ≡ true → (c ≡ small_mark) ⊎ (c ≡ capital_mark)
marks c marked = at (c == small_mark) (c == capital_mark) refl refl marked
  where
    at : (a b : Bool) → (c == small_mark) ≡ a → (c == capital_mark) ≡ b → (a || b) ≡ true → (c ≡ small_mark) ⊎ (c ≡ capital_mark)
    at true b small capital marked = inl (grind (arith, nat_tests))
    at false true small capital marked = inr (grind (arith, nat_tests))
    at false false small capital marked = absurd (cc)

power_right : (text : List ℕ) → IsPowerOf text (power_of text)
power_right [] = no_exponent [] refl
power_right (c ∷ []) = at (is_mark c)
  where
    at : (b : Bool) → IsPowerOf (c ∷ []) (cond b None None)
    at true = mark_alone c
    at false = mark_alone c
power_right (c ∷ d ∷ ds) = at (is_mark c) refl
  where
    signed : (c ≡ small_mark) ⊎ (c ≡ capital_mark) → (b : Bool) → (d == minus) ≡ b → IsPowerOf (c ∷ d ∷ ds) (cond b (digits_alone true ds) (digits_alone false (d ∷ ds)))
    signed marked true is = let first : d ≡ minus = grind (arith, nat_tests) in alone_right (c ∷ d ∷ ds) (d ∷ ds) ds c true refl (ap (λ x. x ∷ ds) first) (λ never. absurd (cc)) marked
    signed marked false is = alone_right (c ∷ d ∷ ds) (d ∷ ds) (d ∷ ds) c false refl refl (λ _. λ same. absurd (grind (arith, nat_tests))) marked

    at : (b : Bool) → is_mark c ≡ b → IsPowerOf (c ∷ d ∷ ds) (cond b (after_mark_of (d ∷ ds)) None)
    at true marked = signed (marks c marked) (d == minus) refl
    at false other = unmarked c (d ∷ ds) other

-- the parts that are found spell the text, and where none are found none do
pub parts_right : (text : List ℕ) → IsPartsOf text (parts_of text)
parts_right text = behind (after_digits text) (front_whole text) (front_ends text)
  where
    front : List ℕ
    front = digits_front text

    fraction_right : (tail fraction last : List ℕ) → tail ≡ fraction ++ last → text ≡ front ++ point ∷ tail → AreDigits fraction → StartsNoDigit last → IsPartsOf text (after_point_of front fraction last)
    fraction_right tail [] last cut whole digits ends = no_fraction text front (point ∷ tail) whole (front_digits text) (record { tail = tail; whole = refl; rest = subst StartsNoDigit (sym cut) ends })
    fraction_right tail (f ∷ fs) last cut whole digits ends =
        parts_with_right text front (f ∷ fs) last (whole ∙ ap (λ t. front ++ point ∷ t) cut) (front_digits text) digits ends (λ never. absurd (cc)) (power_of last) (power_right last)

    at : (c : ℕ) (cs : List ℕ) → text ≡ front ++ c ∷ cs → StartsNoDigit (c ∷ cs) → (b : Bool) → (c == point) ≡ b → IsPartsOf text (cond b (after_point_of front (digits_front cs) (after_digits cs)) (parts_with front [] (power_of (c ∷ cs))))
    at c cs whole ends true is = let first : c ≡ point = grind (arith, nat_tests) in
        fraction_right cs (digits_front cs) (after_digits cs) (front_whole cs) (whole ∙ ap (λ x. front ++ x ∷ cs) first) (front_digits cs) (front_ends cs)
    at c cs whole ends false is = parts_with_right text front [] (c ∷ cs) whole (front_digits text) tt ends (λ _. λ same. absurd (grind (arith, nat_tests))) (power_of (c ∷ cs)) (power_right (c ∷ cs))

    behind : (rest : List ℕ) → text ≡ front ++ rest → StartsNoDigit rest → IsPartsOf text (parts_behind front rest)
    behind [] whole ends = parts_with_right text front [] [] whole (front_digits text) tt tt (λ _. tt) (power_of []) (power_right [])
    behind (c ∷ cs) whole ends = at c cs whole ends (c == point) refl
