-- What is shown of a number whose significand is changed is normal, and is read back: `specs/ShownLaws.antt`.
use Rattle.std.proofs.Common.{◌≡◌, ℕ, zero, suc, ℤ, pos, negsuc, ◌+◌, ◌+ℤ◌, ◌-◌, ◌*◌, ◌/◌, ◌%◌, ◌^◌, ◌<◌, ◌≤◌, ◌==◌, nat_lt, Bool, true, false, cond, refl, sym, ap, ◌∙◌, subst, lit≤, arith, inl, inr, ⊎_elim}
use Rattle.std.proofs.Math.Nat.{mod-one, mul-div_cancel, mul-mod_left}
use Rattle.std.proofs.lemmas.Bool.{and_from, and_parts, cases_lt, eq-eqb, eqb-true, lt-ltb, ltb-false, ltb-true}
use Rattle.fixed_decimal.specs.Number.{IsNumber, Number}
use Rattle.fixed_decimal.specs.Shifts.{fall, rise}
use Rattle.fixed_decimal.specs.SignedValue.{SignedValue}
use Rattle.fixed_decimal.specs.TextLaws.{IsDecimal}
use Rattle.fixed_decimal.proofs.TenLemmas.{tens_apart, tens_positive, tens_split}
use Rattle.icu_decimal_scientific.specs.FormOf.{bare, carried, does_carry, form_of, raised, reach, shown_form, with_change}
use Rattle.icu_decimal_scientific.specs.NotationReading.{IsShownForm}
use Rattle.icu_decimal_scientific.specs.Product.{HasProduct}
use Rattle.icu_decimal_scientific.specs.Scientific.{IsExponent, IsFormOf, IsGreatestMultiple, ScientificParts, step}
use Rattle.icu_decimal_scientific.specs.ScientificLaws.{IsNormal, IsNormalSome}
use Rattle.icu_decimal_scientific.specs.ScientificReadingsLaws.{shown_as}
use Rattle.icu_decimal_scientific.specs.ShownLaws.{IsUpToStep, IsWithinPlaces, KeepsSignificands, NormalIsShown, NormalReadsBack, ShownIsNormal, ShownReadsBack, WithinIsDecimal}
use Rattle.icu_decimal_scientific.specs.ShownNumbers.{shown_exponent}
use Rattle.icu_decimal_scientific.specs.declared.notation.ScientificNotation.{ScientificNotation}
use Rattle.icu_decimal_scientific.specs.declared.notation.ScientificNotation.TheVariants.{Scientific, Engineering}
use Rattle.icu_decimal_scientific.proofs.BareLemmas.{ending_is, further, holding_is}
use Rattle.icu_decimal_scientific.proofs.FormLawLemmas.{form_is_normal}
use Rattle.icu_decimal_scientific.proofs.FormOfLemmas.{carried_some, carries, exponent_known, function_is_form, normal_exponent, reaches_nothing}
use Rattle.icu_decimal_scientific.proofs.NotationLemmas.{few_exponents, is_significand, step_small}
use Rattle.icu_decimal_scientific.proofs.PowerLemmas.{IsTop, first_at, le_through, reached, same_first}
use Rattle.icu_decimal_scientific.proofs.ScientificReadingsLemmas.{form_reads_back, shown_number, shown_so}
use Rattle.icu_decimal_scientific.proofs.ShownFormLemmas.{product_means, product_tested}

-- ---- where a significand reaches nothing

pub less : (a b : ℕ) → a < b → a ≤ b
less a b l = omega arith

itself : (a : ℕ) → a ≤ a
itself a = omega arith

between : (a b : ℕ) → b ≤ a → a ≤ b → a ≡ b
between a b l h = omega arith

-- a number of so few digits
of_count : ℕ → Number
of_count count = record { count = count; low = 0; high = 32771 }

is_of_count : (count : ℕ) → count < 10 ^ 32772 → IsNumber (of_count count)
unfolding of_count
is_of_count count few = record { low = lit≤ tt; ones = lit≤ tt; high = lit≤ tt; whole = mod-one count; below = few }

within_step : (notation : ScientificNotation) → 10 ^ (32768 + step notation) ≤ 10 ^ 32771
within_step notation = let small = step_small notation in tens_apart (32768 + step notation) 32771 (omega (arith, small))

few_of : (notation : ScientificNotation) (count : ℕ) → count ≤ 10 ^ (32768 + step notation) → count < 10 ^ 32772
few_of notation count l = reached count (10 ^ 32771) (10 ^ 32772) (le_through count (10 ^ (32768 + step notation)) (10 ^ 32771) l (within_step notation)) (lit≤ tt)

few_normal : (notation : ScientificNotation) (count : ℕ) (e : ℤ) → IsNormal notation count e → count < 10 ^ 32772
few_normal notation count e (inl z) = subst (λ k. k < 10 ^ 32772) (sym z.0) (tens_positive 32772)
few_normal notation count e (inr some) = few_of notation count (less count (10 ^ (32768 + step notation)) some.below)

stays_normal : (notation : ScientificNotation) (count : ℕ) (e : ℤ) → IsNormal notation count e → does_carry notation count ≡ false
unfolding of_count
stays_normal notation count e normal =
    let is : IsNumber (of_count count) = is_of_count count (few_normal notation count e normal) in
    reaches_nothing notation count (sym (ap rise (exponent_known notation (of_count count) (pos 0) is (normal_exponent notation (of_count count) e is normal))))

-- ---- where it reached ten to the step

multiple_of_step : (notation : ScientificNotation) → IsGreatestMultiple (step notation) (32768 + step notation) (pos (step notation))
multiple_of_step Scientific = record { multiple = refl; under = lit≤ tt; next = lit≤ tt }
multiple_of_step Engineering = record { multiple = refl; under = lit≤ tt; next = lit≤ tt }

top_of_step : (notation : ScientificNotation) → IsTop (10 ^ (32768 + step notation)) (32768 + step notation)
top_of_step Scientific = record { reaches = lit≤ tt; below = lit≤ tt }
top_of_step Engineering = record { reaches = lit≤ tt; below = lit≤ tt }

exponent_of_step : (notation : ScientificNotation) → IsExponent notation (10 ^ (32768 + step notation)) (pos (step notation))
exponent_of_step notation = record {
  zero = λ none. let some = tens_positive (32768 + step notation) in absurd (omega (arith, none, some));
  some = λ p f. subst (λ k. IsGreatestMultiple (step notation) k (pos (step notation)))
      (same_first (10 ^ (32768 + step notation)) (32768 + step notation) p (first_at (10 ^ (32768 + step notation)) (32768 + step notation) (top_of_step notation)) f)
      (multiple_of_step notation);
}

reach_of_step : (notation : ScientificNotation) → reach notation (10 ^ (32768 + step notation)) ≡ step notation
unfolding of_count
reach_of_step notation =
    ap rise (sym (exponent_known notation (of_count (10 ^ (32768 + step notation))) (pos (step notation))
    (is_of_count (10 ^ (32768 + step notation)) (few_of notation (10 ^ (32768 + step notation)) (itself (10 ^ (32768 + step notation))))) (exponent_of_step notation)))

split_step : (notation : ScientificNotation) → 10 ^ (32768 + step notation) ≡ 10 ^ 32768 * 10 ^ step notation
split_step notation = tens_split 32768 (step notation) (32768 + step notation) refl

step_carries : (notation : ScientificNotation) → does_carry notation (10 ^ (32768 + step notation)) ≡ true
step_carries notation =
    carries notation (10 ^ (32768 + step notation)) (subst (λ k. 0 < k) (sym (reach_of_step notation)) (some notation))
    (ap (λ k. 10 ^ (32768 + step notation) % 10 ^ k) (reach_of_step notation) ∙ ap (λ n. n % 10 ^ step notation) (split_step notation) ∙ mul-mod_left (10 ^ 32768) (10 ^ step notation))
  where
    some : (notation : ScientificNotation) → 0 < step notation
    some Scientific = lit≤ tt
    some Engineering = lit≤ tt

step_divided : (notation : ScientificNotation) → 10 ^ (32768 + step notation) / 10 ^ step notation ≡ 10 ^ 32768
step_divided notation = ap (λ n. n / 10 ^ step notation) (split_step notation) ∙ mul-div_cancel (10 ^ 32768) (tens_positive (step notation))

-- what is left is one
bare_count : (count : ℕ) → (bare count).count ≡ count
unfolding bare
bare_count count = refl

bare_number : (count : ℕ) → count < 10 ^ 65536 → IsNumber (bare count)
unfolding bare
bare_number count few =
    let low = ending_is 32768 count in
    let high = holding_is 32768 32768 count (further count 65537 few (lit≤ tt)) in
    record {
      low = low.under;
      ones = high.keeps;
      high = let least = high.lowest 65535 (lit≤ tt) few in omega (arith, least);
      whole = low.whole;
      below = high.holds;
    }

one_left : (notation : ScientificNotation) (old : ScientificParts) → old.significand.absolute.count ≡ 10 ^ (32768 + step notation)
    → carried notation old ≡ record { significand = record { sign = old.significand.sign; absolute = bare (10 ^ 32768) }; exponent = old.exponent +ℤ pos (step notation) }
one_left notation old at =
    let reached : reach notation old.significand.absolute.count ≡ step notation = ap (reach notation) at ∙ reach_of_step notation in
    let divided : old.significand.absolute.count / 10 ^ step notation ≡ 10 ^ 32768 = ap (λ n. n / 10 ^ step notation) at ∙ step_divided notation in
    carried_some notation old (ap (does_carry notation) at ∙ step_carries notation)
    ∙ ap (λ k. raised k old) reached
    ∙ ap (λ n. record { significand = record { sign = old.significand.sign; absolute = bare n }; exponent = old.exponent +ℤ pos (step notation) }) divided

-- and the exponent grows by the step
raised_multiple : (notation : ScientificNotation) (e : ℤ) → (rise e + fall e) % step notation ≡ 0 → (rise (e +ℤ pos (step notation)) + fall (e +ℤ pos (step notation))) % step notation ≡ 0
raised_multiple Scientific e multiple = mod-one (rise (e +ℤ pos 1) + fall (e +ℤ pos 1))
raised_multiple Engineering (pos n) multiple = omega (arith, multiple)
raised_multiple Engineering (negsuc zero) multiple = absurd (omega (arith, multiple))
raised_multiple Engineering (negsuc (suc zero)) multiple = absurd (omega (arith, multiple))
raised_multiple Engineering (negsuc (suc (suc zero))) multiple = refl
raised_multiple Engineering (negsuc (suc (suc (suc n)))) multiple = subst (λ x. (rise x + fall x) % 3 ≡ 0) (sym (nearer n)) (omega (arith, multiple))
  where
    nearer : (n : ℕ) → negsuc (suc (suc (suc n))) +ℤ pos 3 ≡ negsuc n
    nearer n = go (nat_lt 3 (suc (suc (suc (suc n))))) refl
      where
        go : (b : Bool) → nat_lt 3 (suc (suc (suc (suc n)))) ≡ b → cond b (negsuc (suc (suc (suc (suc n))) - 4)) (pos (3 - suc (suc (suc (suc n))))) ≡ negsuc n
        go true test = ap negsuc (omega arith)
        go false test = let over = ltb-false 3 (suc (suc (suc (suc n)))) test in absurd (omega (arith, over))

-- ---- what is shown is normal

module _ (notation : ScientificNotation) (change : SignedValue Number → SignedValue Number) (keeps : KeepsSignificands notation change) where
  -- once changed
  settles : (once : ScientificParts) → does_carry notation once.significand.absolute.count ≡ false
      → cond (does_carry notation once.significand.absolute.count) (with_change change (carried notation once)) once ≡ once
  settles once stays = ap (λ b. cond b (with_change change (carried notation once)) once) stays

  goes_on : (once : ScientificParts) → once.significand.absolute.count ≡ 10 ^ (32768 + step notation)
      → cond (does_carry notation once.significand.absolute.count) (with_change change (carried notation once)) once
      ≡ record { significand = change (record { sign = once.significand.sign; absolute = bare (10 ^ 32768) }); exponent = once.exponent +ℤ pos (step notation) }
  goes_on once at =
      ap (λ b. cond b (with_change change (carried notation once)) once) (ap (does_carry notation) at ∙ step_carries notation)
      ∙ ap (with_change change) (one_left notation once at)

  -- or again
  again : (once : ScientificParts) → (rise once.exponent + fall once.exponent) % step notation ≡ 0
      → IsNormal notation (change (record { sign = once.significand.sign; absolute = bare (10 ^ 32768) })).absolute.count (once.exponent +ℤ pos (step notation))
  again once multiple =
      let one : SignedValue Number = record { sign = once.significand.sign; absolute = bare (10 ^ 32768) } in
      let is : IsDecimal one = bare_number (10 ^ 32768) (lit≤ tt) in
      let count : one.absolute.count ≡ 10 ^ 32768 = bare_count (10 ^ 32768) in
      let within : IsUpToStep notation (change one).absolute.count = keeps.some one is (subst (λ n. 10 ^ 32768 ≤ n) (sym count) (itself (10 ^ 32768))) (subst (λ n. n < 10 ^ (32768 + step notation)) (sym count) (one_below notation)) in
      inr (record { multiple = raised_multiple notation once.exponent multiple; least = within.least; below = keeps.one one is count })
    where
      one_below : (notation : ScientificNotation) → 10 ^ 32768 < 10 ^ (32768 + step notation)
      one_below Scientific = lit≤ tt
      one_below Engineering = lit≤ tt

  NormalForm : ScientificParts → Type 0
  NormalForm form = IsNormal notation form.significand.absolute.count form.exponent

  from_some : (significand : SignedValue Number) (e : ℤ) → IsDecimal significand → IsNormalSome notation significand.absolute.count e
      → NormalForm (cond (does_carry notation (change significand).absolute.count) (with_change change (carried notation (record { significand = change significand; exponent = e })))
      (record { significand = change significand; exponent = e }))
  unfolding NormalForm
  from_some significand e is some =
      let once : ScientificParts = record { significand = change significand; exponent = e } in
      let within : IsUpToStep notation once.significand.absolute.count = keeps.some significand is some.least some.below in
      ⊎_elim
      (λ below. let normal : IsNormal notation once.significand.absolute.count e = inr (record { multiple = some.multiple; least = within.least; below = below }) in
      subst NormalForm (sym (settles once (stays_normal notation once.significand.absolute.count e normal))) normal)
      (λ above. subst NormalForm (sym (goes_on once (between once.significand.absolute.count (10 ^ (32768 + step notation)) above within.most))) (again once some.multiple))
      (cases_lt once.significand.absolute.count (10 ^ (32768 + step notation)))

  from_normal : (significand : SignedValue Number) (e : ℤ) → IsDecimal significand → IsNormal notation significand.absolute.count e
      → NormalForm (cond (does_carry notation (change significand).absolute.count) (with_change change (carried notation (record { significand = change significand; exponent = e })))
      (record { significand = change significand; exponent = e }))
  unfolding NormalForm
  from_normal significand e is (inl z) =
      let once : ScientificParts = record { significand = change significand; exponent = e } in
      let normal : IsNormal notation once.significand.absolute.count e = inl (keeps.zero significand is z.0, z.1) in
      subst NormalForm (sym (settles once (stays_normal notation once.significand.absolute.count e normal))) normal
  from_normal significand e is (inr some) = from_some significand e is some

pub shown_is_normal : ShownIsNormal
unfolding NormalForm
shown_is_normal notation change d keeps is whole =
    let form : ScientificParts = form_of notation d in
    let f : IsFormOf notation d form = function_is_form notation d is whole in
    from_normal notation change keeps form.significand form.exponent (is_significand notation d.absolute form.significand.absolute form.exponent is f.absolute)
    (form_is_normal notation d.absolute form.significand.absolute form.exponent is f.absolute)

-- ---- what is a decimal

pub within_is_decimal : WithinIsDecimal
within_is_decimal form is = (λ within. has form is within, λ product. within_of form is product)
  where
    has : (form : ScientificParts) → IsDecimal form.significand → IsWithinPlaces form → HasProduct form.exponent form.significand.absolute
    has form is within =
        let n : Number = form.significand.absolute in
        let e : ℤ = form.exponent in
        product_means e n is
        (and_from (nat_lt (n.high + rise e) 65536) (n.count * 10 ^ rise e % 10 ^ fall e == 0) (lt-ltb (n.high + rise e) 65536 within.above) (eq-eqb (n.count * 10 ^ rise e % 10 ^ fall e) 0 within.below))

    within_of : (form : ScientificParts) → IsDecimal form.significand → HasProduct form.exponent form.significand.absolute → IsWithinPlaces form
    within_of form is product =
        let n : Number = form.significand.absolute in
        let e : ℤ = form.exponent in
        let tests = and_parts (nat_lt (n.high + rise e) 65536) (n.count * 10 ^ rise e % 10 ^ fall e == 0) (product_tested e n is product) in
        record { above = ltb-true (n.high + rise e) 65536 tests.0; below = eqb-true (n.count * 10 ^ rise e % 10 ^ fall e) 0 tests.1 }

-- ---- read back

pub normal_is_shown : NormalIsShown
normal_is_shown notation o form is = record { shown = shown_so o form; normal = is.normal; product = (within_is_decimal form is.number).0 is.within }

pub normal_reads_back : NormalReadsBack
normal_reads_back s notation o form are readable few is =
    let shown : IsShownForm notation o form (shown_as o form) = normal_is_shown notation o form is in
    form_reads_back s notation o form (shown_as o form) are readable
    (record {
      significand = is.number;
      exponent = shown_number o form.exponent (shown_exponent o form.exponent) shown.shown.exponent few (few_exponents notation form.significand.absolute form.exponent is.normal shown.product);
      whole = refl;
    })
    shown

pub shown_reads_back : ShownReadsBack
shown_reads_back s notation o change d are readable few keeps is whole number within =
    normal_reads_back s notation o (shown_form change notation d) are readable few (record {
      number = number;
      normal = shown_is_normal notation change d keeps is whole;
      within = within;
    })
