-- The form as a function is the form, and what a significand that is divided again is.
use Rattle.std.proofs.Common.{◌≡◌, ◌↔◌, IfNone, IfSome, IsFalse, IsSome, IsTrue, Option, None, Some, ℕ, zero, suc, ℤ, pos, negsuc, ◌+◌, ◌+ℤ◌, ◌-◌, ◌*◌, ◌/◌, ◌%◌, ◌^◌, ◌<◌, ◌≤◌, ◌==◌, ◌&&◌, nat_lt, Bool, true, false, cond, refl, sym, ap, ◌∙◌, subst, lit≤, arith, inl, inr, ⊎_elim}
use Rattle.std.proofs.Math.Nat.{div-add-mod', div-le_self, mul-div_cancel, zero-mod}
use Rattle.std.proofs.lemmas.Bool.{and_from, and_parts, cases_lt, eq-eqb, eqb-false, eqb-true, false≢true, lt-ltb, ltb-false, ltb-true, ne_eqb}
use Rattle.fixed_decimal.specs.Number.{IsNumber, Number}
use Rattle.fixed_decimal.specs.Range.{IsHighest, IsLowest}
use Rattle.fixed_decimal.specs.Shifts.{TrimsEnd, TrimsStart, fall, rise}
use Rattle.fixed_decimal.specs.SignedValue.{SignedValue}
use Rattle.fixed_decimal.specs.TextLaws.{IsDecimal}
use Rattle.fixed_decimal.proofs.TenLemmas.{tens_apart, tens_positive}
use Rattle.icu_decimal_scientific.specs.CarryLaws.{BeyondIsBelow, CarriedIsNormal, FormIsFunction, FunctionIsForm, UnchangedIsForm}
use Rattle.icu_decimal_scientific.specs.FormOf.{bare, below_form, carried, counted, divided, does_carry, exponent_at, exponent_in, form_of, holding, raised, reach, with_change}
use Rattle.icu_decimal_scientific.specs.Scientific.{IsBeyondPlaces, IsExponent, IsForm, IsGreatestMultiple, IsSignificand, ScientificParts, step}
use Rattle.icu_decimal_scientific.specs.ScientificLaws.{IsNormal}
use Rattle.icu_decimal_scientific.specs.declared.notation.ScientificNotation.{ScientificNotation}
use Rattle.icu_decimal_scientific.specs.declared.notation.ScientificNotation.TheVariants.{Scientific, Engineering}
use Rattle.icu_decimal_scientific.proofs.BareLemmas.{bare_high, bare_is, ending_is, far, further, holding_is}
use Rattle.icu_decimal_scientific.proofs.FormLawLemmas.{beyond_has_no_form, first_of, form_is_normal, same_exponent}
use Rattle.icu_decimal_scientific.proofs.FormLemmas.{can_raise, other_way}
use Rattle.icu_decimal_scientific.proofs.NotationLemmas.{is_significand}
use Rattle.icu_decimal_scientific.proofs.PowerLemmas.{IsTop, below_scaled, first_at, lt_through, powers_lt, top_of, no_first, reached, reaches_scaled, same_first}

-- ---- the exponent

counted_rises : (n : ℕ) → rise (counted n) ≡ n - 32769
counted_rises n = go (nat_lt n 32769) refl
  where
    go : (b : Bool) → nat_lt n 32769 ≡ b → rise (cond b (negsuc (32768 - n)) (pos (n - 32769))) ≡ n - 32769
    go true test = let below = ltb-true n 32769 test in omega arith
    go false test = refl

counted_falls : (n : ℕ) → fall (counted n) ≡ 32769 - n
counted_falls n = go (nat_lt n 32769) refl
  where
    go : (b : Bool) → nat_lt n 32769 ≡ b → fall (cond b (negsuc (32768 - n)) (pos (n - 32769))) ≡ 32769 - n
    go true test = let below = ltb-true n 32769 test in omega arith
    go false test = let over = ltb-false n 32769 test in omega arith

singly : (place x : ℕ) (e : ℤ) → rise e ≡ x - 32769 → fall e ≡ 32769 - x → x ≡ place + 1 → IsGreatestMultiple 1 place e
singly place x e r f is = record { multiple = omega arith; under = omega arith; next = omega arith }

by_threes : (place x : ℕ) (e : ℤ) → rise e ≡ x - 32769 → fall e ≡ 32769 - x → x ≡ (place + 1) / 3 * 3 → IsGreatestMultiple 3 place e
by_threes place x e r f is = record { multiple = omega arith; under = omega arith; next = omega arith }

greatest_is : (notation : ScientificNotation) (place : ℕ) → IsGreatestMultiple (step notation) place (exponent_at notation place)
greatest_is Scientific place = singly place (place + 1) (counted (place + 1)) (counted_rises (place + 1)) (counted_falls (place + 1)) refl
greatest_is Engineering place = by_threes place ((place + 1) / 3 * 3) (counted ((place + 1) / 3 * 3)) (counted_rises ((place + 1) / 3 * 3)) (counted_falls ((place + 1) / 3 * 3)) refl

-- the first digit
first_is : (n : ℕ) → 0 < n → n < 10 ^ 65536 → IsTop n (holding 65536 0 n)
first_is n some l =
    let h = holding_is 65536 0 n (further n 65537 l (lit≤ tt)) in
    record { reaches = ⊎_elim (λ below. absurd (before n (holding 65536 0 n) some below h.lowest)) (λ above. above) (cases_lt n (10 ^ holding 65536 0 n)); below = h.holds }
  where
    before : (n top : ℕ) → 0 < n → n < 10 ^ top → ((h : ℕ) → 0 ≤ h → n < 10 ^ (h + 1) → top ≤ h) → ⊥
    before n zero some few lowest = absurd (omega arith)
    before n (suc top) some few lowest = let l = lowest top (omega arith) (subst (λ k. n < 10 ^ k) (omega arith) few) in absurd (omega arith)

pub positive : (n : ℕ) → (n == 0) ≡ false → 0 < n
positive n test = ⊎_elim (λ z. absurd (eqb-false n 0 test (omega arith))) (λ s. omega arith) (cases_lt n 1)

pub exponent_of_count : (notation : ScientificNotation) (n : Number) → IsNumber n → IsExponent notation n.count (exponent_in notation n.count)
unfolding exponent_in
exponent_of_count notation n is = go (n.count == 0) refl
  where
    go : (b : Bool) → (n.count == 0) ≡ b → IsExponent notation n.count (cond b (pos 0) (exponent_at notation (holding 65536 0 n.count)))
    go true test = let none : n.count ≡ 0 = eqb-true n.count 0 test in record { zero = λ _. refl; some = λ p f. absurd (no_first n.count p none f) }
    go false test =
        let some : 0 < n.count = positive n.count test in
        record {
          zero = λ none. absurd (omega (arith, some, none));
          some = λ p f. subst (λ k. IsGreatestMultiple (step notation) k (exponent_at notation (holding 65536 0 n.count)))
              (same_first n.count (holding 65536 0 n.count) p (first_at n.count (holding 65536 0 n.count) (first_is n.count some (far n is))) f)
              (greatest_is notation (holding 65536 0 n.count));
        }

pub exponent_known : (notation : ScientificNotation) (n : Number) (e : ℤ) → IsNumber n → IsExponent notation n.count e → e ≡ exponent_in notation n.count
exponent_known notation n e is x = same_exponent notation n e (exponent_in notation n.count) is x (exponent_of_count notation n is)

-- ---- the form

quotient : (s n a b : ℕ) → s * 10 ^ a ≡ n * 10 ^ b → s ≡ n * 10 ^ b / 10 ^ a
quotient s n a b e = sym (mul-div_cancel s (tens_positive a)) ∙ ap (λ k. k / 10 ^ a) e

significand_is : (e : ℤ) (n s : Number) → s.count < 10 ^ 65536 → IsSignificand e n s → s ≡ divided e n.count
significand_is e n s l d = bare_is s l d.low d.high ∙ ap bare (quotient s.count n.count (rise e) (fall e) d.count)

-- the form of a number is what the function answers
record IsKnown (notation : ScientificNotation) (n s : Number) (e : ℤ) : Type 0 where
  significand : s ≡ divided (exponent_in notation n.count) n.count
  exponent : e ≡ exponent_in notation n.count

form_known : (notation : ScientificNotation) (n s : Number) (e : ℤ) → IsNumber n → IsForm notation n s e → IsKnown notation n s e
form_known notation n s e is f =
    let known : e ≡ exponent_in notation n.count = exponent_known notation n e is f.power in
    record {
      significand = significand_is e n s (far s (is_significand notation n s e is f)) f.divided ∙ ap (λ x. divided x n.count) known;
      exponent = known;
    }

pub form_is_function : FormIsFunction
form_is_function notation d form is f =
    let known : IsKnown notation d.absolute form.significand.absolute form.exponent = form_known notation d.absolute form.significand.absolute form.exponent is f.absolute in
    λ i. record { significand = record { sign = f.sign i; absolute = known.significand i }; exponent = known.exponent i }

pub beyond_is_below : BeyondIsBelow
beyond_is_below notation d is = (
  λ b. λ none. b.digit (ap (λ x. d.absolute.count % 10 ^ rise x) (exponent_known notation d.absolute b.exponent is b.power) ∙ none),
  λ part. record { exponent = exponent_in notation d.absolute.count; power = exponent_of_count notation d.absolute is; digit = part },
)

-- ---- what the function answers is a form

by_one : (n : ℕ) → n % 10 ^ 0 ≡ 0
by_one n = omega arith

unit : (n : ℕ) → n * 10 ^ 0 ≡ n
unit n = omega arith

-- where no digit is lost, none of the number that is divided is either
whole_scaled : (e : ℤ) (n : ℕ) → n % 10 ^ rise e ≡ 0 → n * 10 ^ fall e % 10 ^ rise e ≡ 0
whole_scaled e n whole =
    ⊎_elim (λ none. ap (λ k. n * 10 ^ k % 10 ^ rise e) none ∙ ap (λ k. k % 10 ^ rise e) (unit n) ∙ whole)
    (λ none. ap (λ k. n * 10 ^ fall e % 10 ^ k) none ∙ by_one (n * 10 ^ fall e)) (other_way e)

few_scaled : (notation : ScientificNotation) (n : Number) (e : ℤ) → IsNumber n → IsExponent notation n.count e → n.count * 10 ^ fall e < 10 ^ 65536
few_scaled notation n e is x =
    ⊎_elim (λ none. subst (λ k. k < 10 ^ 65536) (sym (ap (λ k. n.count * 10 ^ k) (stays (fall e) none) ∙ unit n.count)) (far n is))
    (λ falls. let raise = can_raise notation n e is x falls in lt_through (n.count * 10 ^ fall e) (10 ^ 32772) (10 ^ 65536) raise.few (tens_apart 32772 65536 (lit≤ tt)))
    (cases_lt (fall e) 1)
  where
    stays : (k : ℕ) → k < 1 → k ≡ 0
    stays k l = omega arith

few_divided : (notation : ScientificNotation) (n : Number) (e : ℤ) → IsNumber n → IsExponent notation n.count e → n.count * 10 ^ fall e / 10 ^ rise e < 10 ^ 65536
few_divided notation n e is x = reached (n.count * 10 ^ fall e / 10 ^ rise e) (n.count * 10 ^ fall e) (10 ^ 65536) (div-le_self (n.count * 10 ^ fall e) (10 ^ rise e)) (few_scaled notation n e is x)

divided_is : (notation : ScientificNotation) (n : Number) (e : ℤ) → IsNumber n → IsExponent notation n.count e → n.count % 10 ^ rise e ≡ 0 → IsSignificand e n (divided e n.count)
unfolding bare
divided_is notation n e is x whole =
    let m : ℕ = n.count * 10 ^ fall e in
    record {
      count = let parts = div-add-mod' m (10 ^ rise e) in let none = whole_scaled e n.count whole in omega (arith, parts, none);
      low = ending_is 32768 (m / 10 ^ rise e);
      high = bare_high (m / 10 ^ rise e) (few_divided notation n e is x);
    }

pub function_is_form : FunctionIsForm
function_is_form notation d is whole =
    let power : IsExponent notation d.absolute.count (exponent_in notation d.absolute.count) = exponent_of_count notation d.absolute is in
    record { sign = refl; absolute = record { power = power; divided = divided_is notation d.absolute (exponent_in notation d.absolute.count) is power whole } }

-- ---- what the calls answer

-- whether a digit is lost, by the exponent that the code finds
pub below_is : (notation : ScientificNotation) (n : Number) (e : ℤ) → IsNumber n → IsExponent notation n.count e → n.count % 10 ^ rise e ≡ below_form notation n.count
below_is notation n e is x = ap (λ z. n.count % 10 ^ rise z) (exponent_known notation n e is x)

pub is_formed : (b : Bool) (part below : ℕ) → part ≡ below → (IsTrue b → part ≡ 0) → (IsFalse b → ¬ (part ≡ 0)) → IsTrue b ↔ (below ≡ 0)
is_formed true part below same none some = (λ t. sym same ∙ none t, λ _. refl)
is_formed false part below same none some = (λ t. absurd (false≢true t), λ z. absurd (some refl (same ∙ z)))

form_loses_nothing : (notation : ScientificNotation) (d : SignedValue Number) (s : Number) (e : ℤ) → IsDecimal d → IsForm notation d.absolute s e → below_form notation d.absolute.count ≡ 0
form_loses_nothing notation d s e is f = go (below_form notation d.absolute.count == 0) refl
  where
    go : (b : Bool) → (below_form notation d.absolute.count == 0) ≡ b → below_form notation d.absolute.count ≡ 0
    go true test = eqb-true (below_form notation d.absolute.count) 0 test
    go false test =
        absurd (beyond_has_no_form notation d.absolute s e is ((beyond_is_below notation d is).1 (eqb-false (below_form notation d.absolute.count) 0 test)) f)

-- where there is a form, it is made
module _ (notation : ScientificNotation) (d : SignedValue Number) (new : Number) (is : IsDecimal d) where
  pub made_value : (r : Option ℤ) → IfSome r (λ e. IsForm notation d.absolute new e) → IfSome r (λ e. record { significand = record { sign = d.sign; absolute = new }; exponent = e } ≡ form_of notation d)
  made_value None f = tt
  made_value (Some e) f = form_is_function notation d (record { significand = record { sign = d.sign; absolute = new }; exponent = e }) is (record { sign = refl; absolute = f })

  pub made_none : (r : Option ℤ) → IfNone r (IsBeyondPlaces notation d.absolute.count) → IfNone r (¬ (below_form notation d.absolute.count ≡ 0))
  made_none None b = (beyond_is_below notation d is).0 b
  made_none (Some e) b = tt

  pub made_some : (r : Option ℤ) → IfSome r (λ e. IsForm notation d.absolute new e) → IfNone r (IsBeyondPlaces notation d.absolute.count) → IsSome r ↔ (below_form notation d.absolute.count ≡ 0)
  made_some None f b = (λ some. absurd (cc), λ none. absurd ((beyond_is_below notation d is).0 b none))
  made_some (Some e) f b = (λ _. form_loses_nothing notation d new e is f, λ _. refl)

-- ---- divided again

pub bare_quotient : (old low trimmed new : Number) (by : ℕ) → low.count * 10 ^ by ≡ old.count → TrimsEnd low trimmed → TrimsStart trimmed new → IsNumber new → new ≡ bare (old.count / 10 ^ by)
bare_quotient old low trimmed new by d t u is =
    let count : new.count ≡ low.count = u.count ∙ t.count in
    let whole : new.count * 10 ^ by ≡ old.count = ap (λ k. k * 10 ^ by) count ∙ d in
    bare_is new (far new is)
    (subst (IsLowest 32768 new.count) (sym u.low) (subst (λ k. IsLowest 32768 k trimmed.low) (sym count) t.low))
    (subst (λ k. IsHighest 32768 0 k new.high) (sym u.count) u.high)
    ∙ ap bare (sym (mul-div_cancel new.count (tens_positive by)) ∙ ap (λ k. k / 10 ^ by) whole)

-- a carry takes place exactly where its two tests hold
module _ (notation : ScientificNotation) (count : ℕ) where
  pub carries : 0 < reach notation count → count % 10 ^ reach notation count ≡ 0 → does_carry notation count ≡ true
  carries some whole =
      let first : nat_lt 0 (reach notation count) ≡ true = lt-ltb 0 (reach notation count) some in
      let second : (count % 10 ^ reach notation count == 0) ≡ true = eq-eqb (count % 10 ^ reach notation count) 0 whole in
      and_from (nat_lt 0 (reach notation count)) (count % 10 ^ reach notation count == 0) first second

  pub reaches_nothing : reach notation count ≡ 0 → does_carry notation count ≡ false
  reaches_nothing none = ap (λ k. nat_lt 0 k && (count % 10 ^ reach notation count == 0)) none

  pub loses : ¬ (count % 10 ^ reach notation count ≡ 0) → does_carry notation count ≡ false
  loses part =
      let second : (count % 10 ^ reach notation count == 0) ≡ false = ne_eqb (count % 10 ^ reach notation count) 0 part in
      ap (λ b. nat_lt 0 (reach notation count) && b) second ∙ never (nat_lt 0 (reach notation count))
    where
      never : (b : Bool) → (b && false) ≡ false
      never true = refl
      never false = refl

pub carries_by : (notation : ScientificNotation) (count by : ℕ) → by ≡ reach notation count → 0 < by → count % 10 ^ by ≡ 0 → does_carry notation count ≡ true
carries_by notation count by at some whole = carries notation count (subst (λ k. 0 < k) at some) (subst (λ k. count % 10 ^ k ≡ 0) at whole)

pub stays_by : (notation : ScientificNotation) (count by : ℕ) → by ≡ reach notation count → by ≡ 0 → does_carry notation count ≡ false
stays_by notation count by at none = reaches_nothing notation count (sym at ∙ none)

pub loses_by : (notation : ScientificNotation) (count by : ℕ) → by ≡ reach notation count → ¬ (count % 10 ^ by ≡ 0) → does_carry notation count ≡ false
loses_by notation count by at part = loses notation count (λ whole. part (subst (λ k. count % 10 ^ k ≡ 0) (sym at) whole))

pub carried_some : (notation : ScientificNotation) (old : ScientificParts) → does_carry notation old.significand.absolute.count ≡ true → carried notation old ≡ raised (reach notation old.significand.absolute.count) old
carried_some notation old carry = ap (λ b. cond b (raised (reach notation old.significand.absolute.count) old) old) carry

pub carried_none : (notation : ScientificNotation) (old : ScientificParts) → does_carry notation old.significand.absolute.count ≡ false → carried notation old ≡ old
carried_none notation old stays = ap (λ b. cond b (raised (reach notation old.significand.absolute.count) old) old) stays

-- by the exponent that the code finds
pub reach_is : (notation : ScientificNotation) (n : Number) (e : ℤ) → IsNumber n → IsExponent notation n.count e → rise e ≡ reach notation n.count
reach_is notation n e is x = ap rise (exponent_known notation n e is x)

pub carried_by : (notation : ScientificNotation) (old : ScientificParts) (new : Number) (by : ℕ) (e : ℤ) → does_carry notation old.significand.absolute.count ≡ true → by ≡ reach notation old.significand.absolute.count
    → new ≡ bare (old.significand.absolute.count / 10 ^ by) → e ≡ old.exponent +ℤ pos by → carried notation old ≡ record { significand = record { sign = old.significand.sign; absolute = new }; exponent = e }
carried_by notation old new by e carry at is exponent =
    let same : raised by old ≡ record { significand = record { sign = old.significand.sign; absolute = new }; exponent = e } =
    λ i. record { significand = record { sign = old.significand.sign; absolute = sym is i }; exponent = sym exponent i } in
    carried_some notation old carry ∙ sym (ap (λ k. raised k old) at) ∙ same

pub carried_is_normal : CarriedIsNormal
carried_is_normal notation n is carry =
    let e : ℤ = exponent_in notation n.count in
    let x : IsExponent notation n.count e = exponent_of_count notation n is in
    let tests = and_parts (nat_lt 0 (reach notation n.count)) (n.count % 10 ^ reach notation n.count == 0) carry in
    let rises : 0 < rise e = ltb-true 0 (rise e) tests.0 in
    let whole : n.count % 10 ^ rise e ≡ 0 = eqb-true (n.count % 10 ^ rise e) 0 tests.1 in
    let value : n.count / 10 ^ rise e * 10 ^ rise e ≡ n.count = let p = div-add-mod' n.count (10 ^ rise e) in omega (arith, p, whole) in
    let falls : fall e ≡ 0 = ⊎_elim (λ f. f) (λ none. absurd (omega (arith, rises, none))) (other_way e) in
    let scaled : n.count / 10 ^ rise e * 10 ^ rise e ≡ n.count * 10 ^ fall e = value ∙ sym (ap (λ k. n.count * 10 ^ k) falls ∙ unit n.count) in
    ⊎_elim
    (λ z. let none : rise e ≡ 0 = ap rise (x.zero (omega (arith, z))) in absurd (omega (arith, rises, none)))
    (λ some.
    let h = first_of n is (omega (arith, some)) in
    let g = x.some h.place h.first in
    let under = g.under in
    let next = g.next in
    record {
      value = value;
      least = reaches_scaled n.count (n.count / 10 ^ rise e) h.place (rise e) (fall e) 32768 h.top scaled (omega (arith, under));
      below = below_scaled n.count (n.count / 10 ^ rise e) h.place (rise e) (fall e) (32768 + step notation) h.top scaled (omega (arith, next));
    })
    (cases_lt n.count 1)

-- ---- not changed

pub normal_exponent : (notation : ScientificNotation) (n : Number) (e : ℤ) → IsNumber n → IsNormal notation n.count e → IsExponent notation n.count (pos 0)
normal_exponent notation n e is (inl z) = record { zero = λ _. refl; some = λ p f. absurd (no_first n.count p z.0 f) }
normal_exponent notation n e is (inr some) = record {
  zero = λ _. refl;
  some = λ p f. let top = top_of (n.high + 1) n.count p is.below f in
      record {
        multiple = none_over (step notation);
        under = first_over p n.count (step notation) top some.least;
        next = first_under p n.count (step notation) top some.below;
      };
}
  where
    none_over : (by : ℕ) → 0 % by ≡ 0
    none_over by = zero-mod by

    first_over : (p count by : ℕ) → IsTop count p → 10 ^ 32768 ≤ count → 32768 + 0 ≤ p + 0
    first_over p count by top least = let below = top.below in let less = powers_lt 32768 (p + 1) (reached (10 ^ 32768) count (10 ^ (p + 1)) least below) in omega (arith, less)

    first_under : (p count by : ℕ) → IsTop count p → count < 10 ^ (32768 + by) → p + 0 < 32768 + 0 + by
    first_under p count by top below = let reaches = top.reaches in let less = powers_lt p (32768 + by) (reached (10 ^ p) count (10 ^ (32768 + by)) reaches below) in omega (arith, less)

pub unchanged_is_form : UnchangedIsForm
unchanged_is_form notation d form is f =
    let known : form ≡ form_of notation d = form_is_function notation d form is f in
    let number : IsNumber form.significand.absolute = is_significand notation d.absolute form.significand.absolute form.exponent is f.absolute in
    let power : IsExponent notation form.significand.absolute.count (pos 0) = normal_exponent notation form.significand.absolute form.exponent number (form_is_normal notation d.absolute form.significand.absolute form.exponent is f.absolute) in
    let stays : does_carry notation form.significand.absolute.count ≡ false =
    reaches_nothing notation form.significand.absolute.count (sym (ap rise (exponent_known notation form.significand.absolute (pos 0) number power))) in
    let there : does_carry notation (form_of notation d).significand.absolute.count ≡ false = subst (λ (x : ScientificParts). does_carry notation x.significand.absolute.count ≡ false) known stays in
    ap (λ b. cond b (with_change (λ v. v) (carried notation (form_of notation d))) (form_of notation d)) there ∙ sym known
