-- What is read in a notation: one significand and one exponent, and the decimal that they are.
use Rattle.std.proofs.Common.{◌≡◌, ℕ, ℤ, pos, negsuc, ◌+◌, ◌-◌, ◌*◌, ◌%◌, ◌^◌, ◌<◌, ◌≤◌, lit≤, true, List, refl, sym, ap, ◌∙◌, subst, arith, inl, inr, ⊎_elim}
use Rattle.std.proofs.Math.Nat.{mod-eq_of_lt, mul-mod_left}
use Rattle.std.proofs.lemmas.Bool.{cases_lt}
use Rattle.fixed_decimal.specs.Number.{IsNumber, Number}
use Rattle.fixed_decimal.specs.Range.{IsHighest}
use Rattle.fixed_decimal.specs.ScientificText.{ScientificValue}
use Rattle.fixed_decimal.specs.Shifts.{IsShifted, fall, rise}
use Rattle.fixed_decimal.specs.SignedValue.{OnAbsolute, SignedValue}
use Rattle.fixed_decimal.specs.WholeNumbers.{size_of}
use Rattle.fixed_decimal.proofs.TenLemmas.{tens_apart, tens_positive, tens_split}
use Rattle.icu_decimal_scientific.specs.ExponentialText.{ScientificSettings, scientific_text}
use Rattle.icu_decimal_scientific.specs.NotationLaws.{DecimalHasFormText, DecimalIsReadBack, FormHasProduct, FormIsWrittenAgain, ProductIsTheNumber, TextHasOneForm}
use Rattle.icu_decimal_scientific.specs.NotationReading.{HasNoForm, IsFormText, IsShownForm, ShowsNoForm}
use Rattle.icu_decimal_scientific.specs.Product.{HasProduct}
use Rattle.icu_decimal_scientific.specs.Scientific.{IsForm, ScientificParts, step}
use Rattle.icu_decimal_scientific.specs.ScientificLaws.{IsNormal}
use Rattle.icu_decimal_scientific.specs.ScientificReading.{AreScientificTexts, HasNoScientific, IsScientificText, is_scientific_readable_by}
use Rattle.icu_decimal_scientific.specs.ShownNumbers.{IsShownExponent}
use Rattle.icu_decimal_scientific.specs.Steps.{IsFormExponent}
use Rattle.icu_decimal_scientific.specs.declared.notation.ScientificNotation.{ScientificNotation}
use Rattle.icu_decimal_scientific.specs.declared.notation.ScientificNotation.TheVariants.{Scientific, Engineering}
use Rattle.icu_decimal_scientific.specs.declared.shown.ExponentOptions.{ExponentOptions}
use Rattle.icu_decimal_scientific.proofs.FormLawLemmas.{first_of, form_is_normal}
use Rattle.icu_decimal_scientific.proofs.FormLemmas.{other_way}
use Rattle.icu_decimal_scientific.proofs.PowerLemmas.{cancel_lt, cancel_same, few_high, le_through, lt_through, powers_lt, reached}
use Rattle.icu_decimal_scientific.proofs.ProductLemmas.{product_down, product_up, room_of, whole_of}
use Rattle.icu_decimal_scientific.proofs.ScientificReadingLemmas.{one_value, same_shown}
use Rattle.icu_decimal_scientific.proofs.ShownExponentLemmas.{one_highest, too_many}

-- ---- the exponent of a decimal

pub step_small : (notation : ScientificNotation) → step notation ≤ 3
step_small Scientific = omega arith
step_small Engineering = omega arith

-- a count from one up that has no digit below a place reaches that place
whole_reaches : (n f end : ℕ) → 0 < n → n < 10 ^ end → n % 10 ^ f ≡ 0 → f < end
whole_reaches n f end some below whole =
    ⊎_elim (λ l. l) (λ l. let less = lt_through n (10 ^ end) (10 ^ f) below (tens_apart end f l) in let none : n ≡ 0 = sym (mod-eq_of_lt less) ∙ whole in absurd (omega arith)) (cases_lt f end)

at_least_one : (n k : ℕ) → 10 ^ k ≤ n → 0 < n
at_least_one n k l = let p = tens_positive k in omega arith

pub few_exponents : (notation : ScientificNotation) (s : Number) (e : ℤ) → IsNormal notation s.count e → HasProduct e s → size_of e < 100000
few_exponents notation s (pos n) normal p = let room = room_of (pos n) s p refl in omega arith
few_exponents notation s (negsuc n) (inl z) p = absurd (never n z.1)
  where
    never : (n : ℕ) → negsuc n ≡ pos 0 → ⊥
    never n e = cc
few_exponents notation s (negsuc n) (inr some) p =
    let reach = whole_reaches s.count (n + 1) (32768 + step notation) (at_least_one s.count 32768 some.least) some.below (whole_of (negsuc n) s p refl) in
    let small = step_small notation in
    omega arith

-- ---- what a shown number is

module _ (notation : ScientificNotation) (o : ExponentOptions) (s : Number) (v : SignedValue Number) where
  pub no_exponent : 10 ^ 32773 ≤ v.absolute.count → (e : ℤ) → ¬ (IsFormExponent notation o s v e)
  no_exponent many e f = too_many o e v many (few_exponents notation s e f.normal f.product) f.so

  pub not_shown : ((other : ℤ) → ¬ (IsShownExponent o other v)) → (other : ℤ) → ¬ (IsFormExponent notation o s v other)
  not_shown never other f = never other f.so

  pub not_normal : (e : ℤ) → IsShownExponent o e v → ¬ (IsNormal notation s.count e) → (other : ℤ) → ¬ (IsFormExponent notation o s v other)
  not_normal e so never other f = never (subst (λ x. IsNormal notation s.count x) (same_shown o other e v f.so so) f.normal)

  pub no_product : (e : ℤ) → IsShownExponent o e v → ¬ (HasProduct e s) → (other : ℤ) → ¬ (IsFormExponent notation o s v other)
  no_product e so never other f = never (subst (λ x. HasProduct x s) (same_shown o other e v f.so so) f.product)

  pub form_exponent_is : (e : ℤ) → IsShownExponent o e v → IsNormal notation s.count e → HasProduct e s → IsFormExponent notation o s v e
  form_exponent_is e so normal product = record { so = so; normal = normal; product = product }

-- so is a scientific number
module _ (notation : ScientificNotation) (o : ExponentOptions) (v : ScientificValue) where
  pub shown_form_is : (e : ℤ) → IsFormExponent notation o v.significand.absolute v.exponent e → IsShownForm notation o (record { significand = v.significand; exponent = e }) v
  shown_form_is e f = record { shown = record { significand = refl; exponent = f.so }; normal = f.normal; product = f.product }

  pub shows_no_form : ((e : ℤ) → ¬ (IsFormExponent notation o v.significand.absolute v.exponent e)) → ShowsNoForm notation o v
  shows_no_form none form f = none form.exponent (record {
    so = f.shown.exponent;
    normal = subst (λ (s : SignedValue Number). IsNormal notation s.absolute.count form.exponent) (sym f.shown.significand) f.normal;
    product = subst (λ (s : SignedValue Number). HasProduct form.exponent s.absolute) (sym f.shown.significand) f.product;
  })

-- ---- what is normal

pub normal_zero : (notation : ScientificNotation) (n : ℕ) (e : ℤ) → n ≡ 0 → e ≡ pos 0 → IsNormal notation n e
normal_zero notation n e none at = inl (none, at)

pub zero_alone : (notation : ScientificNotation) (n : ℕ) (e : ℤ) → n ≡ 0 → ¬ (e ≡ pos 0) → ¬ (IsNormal notation n e)
zero_alone notation n e none other (inl z) = other z.1
zero_alone notation n e none other (inr some) = let least = some.least in let t = tens_positive 32768 in absurd (omega (arith, none, least, t))

pub normal_some : (notation : ScientificNotation) (n : ℕ) (e : ℤ) (p : ℕ) → 10 ^ p ≤ n → n < 10 ^ (p + 1) → 32768 ≤ p → p < 32768 + step notation → (rise e + fall e) % step notation ≡ 0 → IsNormal notation n e
normal_some notation n e p reaches holds over under multiple = inr (record {
  multiple = multiple;
  least = le_through (10 ^ 32768) (10 ^ p) n (tens_apart 32768 p over) reaches;
  below = let up = tens_apart (p + 1) (32768 + step notation) (omega (arith, under)) in lt_through n (10 ^ (p + 1)) (10 ^ (32768 + step notation)) holds up;
})

pub multiple_by : (a b s i j k : ℕ) → a ≡ i → b ≡ j → s ≡ k → (a + b) % s ≡ 0 → (i + j) % k ≡ 0
multiple_by a b s i j k e f g h = subst (λ x. (i + j) % x ≡ 0) g (subst (λ x. (i + x) % s ≡ 0) f (subst (λ x. (x + b) % s ≡ 0) e h))

module _ (notation : ScientificNotation) (n : ℕ) (e : ℤ) (some : 0 < n) where
  pub too_small : (p : ℕ) → n < 10 ^ (p + 1) → p < 32768 → ¬ (IsNormal notation n e)
  too_small p holds under (inl z) = let none = z.0 in absurd (omega (arith, some, none))
  too_small p holds under (inr normal) = absurd (apart p (powers_lt 32768 (p + 1) (reached (10 ^ 32768) n (10 ^ (p + 1)) normal.least holds)) under)
    where
      apart : (p : ℕ) → 32768 < p + 1 → p < 32768 → ⊥
      apart p over under = omega arith

  pub too_large : (p : ℕ) → 10 ^ p ≤ n → 32768 + step notation ≤ p → ¬ (IsNormal notation n e)
  too_large p reaches over (inl z) = let none = z.0 in absurd (omega (arith, some, none))
  too_large p reaches over (inr normal) = let below = normal.below in let less = powers_lt p (32768 + step notation) (omega (arith, reaches, below)) in absurd (omega (arith, less, over))

  pub no_multiple : ¬ ((rise e + fall e) % step notation ≡ 0) → ¬ (IsNormal notation n e)
  no_multiple part (inl z) = let none = z.0 in absurd (omega (arith, some, none))
  no_multiple part (inr normal) = part normal.multiple

-- ---- what a text is

pub form_text_is : (s : ScientificSettings) (notation : ScientificNotation) (o : ExponentOptions) (text : List ℕ) (v : ScientificValue) (form : ScientificParts) → IsScientificText s text v → IsShownForm notation o form v → IsFormText s notation o text form
form_text_is s notation o text v form written shown = record { value = v; written = written; shown = shown }

pub no_form_shown : (s : ScientificSettings) (notation : ScientificNotation) (o : ExponentOptions) (text : List ℕ) (v : ScientificValue) → AreScientificTexts s → is_scientific_readable_by s ≡ true → IsScientificText s text v
    → ((form : ScientificParts) → ¬ (IsShownForm notation o form v)) → HasNoForm s notation o text
no_form_shown s notation o text v are readable written none form f =
    let same : f.value ≡ v = one_value s f.value v are readable f.written.number written.number (f.written.written ∙ sym written.written) in
    none form (subst (IsShownForm notation o form) same f.shown)

pub no_form_written : (s : ScientificSettings) (notation : ScientificNotation) (o : ExponentOptions) (text : List ℕ) → HasNoScientific s text → HasNoForm s notation o text
no_form_written s notation o text none form f = none f.value f.written.number f.written.written

-- ---- the form of a number is a decimal

-- a nonzero digit of a number is at a place
first_small : (number : Number) (p : ℕ) → IsNumber number → 10 ^ p ≤ number.count → p < 65536
first_small number p is l = let below = is.below in let less = powers_lt p (number.high + 1) (omega arith) in let high = is.high in omega arith

module _ (notation : ScientificNotation) (number s : Number) (e : ℤ) (is : IsNumber number) (f : IsForm notation number s e) where
  normal : IsNormal notation s.count e
  normal = form_is_normal notation number s e is f

  few : (n : ℕ) → IsNormal notation n e → n < 10 ^ 32771
  few n (inl z) = subst (λ k. k < 10 ^ 32771) (sym z.0) (tens_positive 32771)
  few n (inr some) = lt_through n (10 ^ (32768 + step notation)) (10 ^ 32771) some.below (tens_apart (32768 + step notation) 32771 (let small = step_small notation in omega arith))

  pub is_significand : IsNumber s
  is_significand = record {
    low = f.divided.low.under;
    ones = f.divided.high.keeps;
    high = let l = few_high 32768 s.count s.high 32770 f.divided.high (lit≤ tt) (few s.count normal) in omega arith;
    whole = f.divided.low.whole;
    below = f.divided.high.holds;
  }

  rises : fall e ≡ 0 → 32768 + rise e < 65536
  rises falls =
      ⊎_elim
      (λ z. let none : rise e ≡ 0 = ap rise (f.power.zero (omega arith)) in omega arith)
      (λ some.
      let h = first_of number is (omega arith) in
      let g = f.power.some h.place h.first in
      let under = g.under in
      let small = first_small number h.place is h.top.reaches in
      omega arith)
      (cases_lt number.count 1)

  room : fall e ≡ 0 → s.high + rise e < 65536
  room falls =
      let r = rises falls in
      let count : s.count * 10 ^ rise e ≡ number.count = f.divided.count ∙ ap (λ j. number.count * 10 ^ j) falls ∙ unit number.count in
      let up = tens_apart (number.high + 1) 65536 (let high = is.high in omega arith) in
      let split = tens_split (65535 - rise e + 1) (rise e) 65536 (omega arith) in
      let few = cancel_lt s.count (10 ^ (65535 - rise e + 1)) (10 ^ rise e) (below s.count number.count (10 ^ rise e) (10 ^ (number.high + 1)) (10 ^ 65536) (10 ^ (65535 - rise e + 1)) count is.below up split) in
      let l = few_high 32768 s.count s.high (65535 - rise e) f.divided.high (omega arith) few in
      omega arith
    where
      unit : (n : ℕ) → n * 10 ^ 0 ≡ n
      unit n = omega arith

      below : (s n t u v w : ℕ) → s * t ≡ n → n < u → u ≤ v → v ≡ w * t → s * t < w * t
      below s n t u v w a b c d = omega arith

  whole : rise e ≡ 0 → s.count % 10 ^ fall e ≡ 0
  whole rises =
      let count : s.count ≡ number.count * 10 ^ fall e = sym (ap (λ j. s.count * 10 ^ j) rises ∙ unit s.count) ∙ f.divided.count in
      ap (λ k. k % 10 ^ fall e) count ∙ mul-mod_left number.count (10 ^ fall e)
    where
      unit : (n : ℕ) → n * 10 ^ 0 ≡ n
      unit n = omega arith

  has_product : HasProduct e s
  has_product = ⊎_elim (λ falls. product_up e s is_significand falls (room falls)) (λ rises. product_down e s is_significand rises (whole rises)) (other_way e)

pub form_has_product : FormHasProduct
form_has_product notation number significand exponent is f = has_product notation number significand exponent is f

pub product_is_the_number : ProductIsTheNumber
product_is_the_number notation number s product e f p =
    cancel_same product.count number.count (10 ^ fall e) (tens_positive (fall e)) (p.count ∙ f.divided.count)

-- ---- laws of texts

pub text_has_one_form : TextHasOneForm
text_has_one_form s notation o text a b are readable f g =
    let value : f.value ≡ g.value = one_value s f.value g.value are readable f.written.number g.written.number (f.written.written ∙ sym g.written.written) in
    let significand : a.significand ≡ b.significand = sym f.shown.shown.significand ∙ ap (λ (x : ScientificValue). x.significand) value ∙ g.shown.shown.significand in
    let exponent : a.exponent ≡ b.exponent = same_shown o a.exponent b.exponent f.value.exponent f.shown.shown.exponent
    (subst (λ (x : ScientificValue). IsShownExponent o b.exponent x.exponent) (sym value) g.shown.shown.exponent) in
    λ i. record { significand = significand i; exponent = exponent i }

pub decimal_has_form_text : DecimalHasFormText
decimal_has_form_text s notation o d form v is number f shown = record {
  value = v;
  written = record { number = number; written = refl };
  shown = record {
    shown = shown;
    normal = form_is_normal notation d.absolute form.significand.absolute form.exponent is f.absolute;
    product = form_has_product notation d.absolute form.significand.absolute form.exponent is f.absolute;
  };
}

pub decimal_is_read_back : DecimalIsReadBack
decimal_is_read_back s notation o d read form v are readable is number f shown r =
    let same : r.form ≡ form = text_has_one_form s notation o (scientific_text s v) r.form form are readable r.written (decimal_has_form_text s notation o d form v is number f shown) in
    let product : OnAbsolute (IsShifted form.exponent) form.significand read = subst (λ (x : ScientificParts). OnAbsolute (IsShifted x.exponent) x.significand read) same r.product in
    record {
      sign = product.sign ∙ f.sign;
      count = product_is_the_number notation d.absolute form.significand.absolute read.absolute form.exponent f.absolute product.absolute;
    }

-- ---- written again

one_exponent : (o : ExponentOptions) (e : ℤ) (v w : SignedValue Number) → IsShownExponent o e v → IsShownExponent o e w → v ≡ w
one_exponent o e v w f g =
    let sign : v.sign ≡ w.sign = f.sign ∙ sym g.sign in
    let count : v.absolute.count ≡ w.absolute.count = f.count ∙ sym g.count in
    let low : v.absolute.low ≡ w.absolute.low = f.low ∙ sym g.low in
    let high : v.absolute.high ≡ w.absolute.high = one_highest (32768 + o.least_digits) w.absolute.count v.absolute.high w.absolute.high (subst (λ n. IsHighest 32768 (32768 + o.least_digits) n v.absolute.high) count f.high) g.high in
    λ i. record { sign = sign i; absolute = record { count = count i; low = low i; high = high i } }

pub form_is_written_again : FormIsWrittenAgain
form_is_written_again s notation o text form v f shown =
    let exponent : v.exponent ≡ f.value.exponent = one_exponent o form.exponent v.exponent f.value.exponent shown.exponent f.shown.shown.exponent in
    let significand : v.significand ≡ f.value.significand = shown.significand ∙ sym f.shown.shown.significand in
    ap (scientific_text s) (λ i. record { significand = significand i; exponent = exponent i }) ∙ f.written.written
