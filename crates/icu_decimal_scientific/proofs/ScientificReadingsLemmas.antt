-- The reading that the function answers is the one that the relations of a notation name: `specs/ScientificReadings.antt`.
use Rattle.std.proofs.Common.{◌≡◌, ◌==◌, ℕ, ℤ, ◌*◌, ◌%◌, ◌^◌, ◌<◌, lit≤, Bool, true, false, cond, List, ◌++◌, Option, None, Some, Err, refl, sym, ap, ◌∙◌, subst, arith}
use Rattle.std.proofs.Math.Nat.{mul-lt-mul_of_pos_right, mul-mod_left}
use Rattle.std.proofs.lemmas.Bool.{both_ways, eq-eqb, eqb-true, false≢true}
use Rattle.std.proofs.lemmas.Option.{none-some, option_and_then_some, same_Some}
use Rattle.std.proofs.lemmas.Str.{chars_from_encodes}
use Rattle.std.specs.Option.{option_and_then, option_or}
use Rattle.std.specs.Str.{IsUtf8, chars}
use Rattle.fixed_decimal.specs.IntegerText.{ShowsNoFraction}
use Rattle.fixed_decimal.specs.Number.{IsNumber, Number}
use Rattle.fixed_decimal.specs.ScientificText.{IsScientific, ScientificValue}
use Rattle.fixed_decimal.specs.Shifts.{IsShifted}
use Rattle.fixed_decimal.specs.SignedValue.{OnAbsolute, SignedValue}
use Rattle.fixed_decimal.specs.TextLaws.{IsDecimal}
use Rattle.fixed_decimal.specs.WholeNumbers.{size_of}
use Rattle.fixed_decimal.specs.declared.Sign.{Sign}
use Rattle.fixed_decimal.specs.declared.Sign.TheVariants.{None as NoSign, Negative, Positive}
use Rattle.fixed_decimal.proofs.TenLemmas.{tens_apart, tens_positive, tens_split}
use Rattle.icu_decimal_plain.specs.PlainText.{Tables, decimal_text, unsigned_text}
use Rattle.icu_decimal_reading.specs.PlainReading.{IsAnswered, IsPlainText, PlainReading, decimal, not_written, plain_reading, unreadable}
use Rattle.icu_decimal_reading.specs.Readable.{is_readable_by}
use Rattle.icu_decimal_reading.specs.ReadingLaws.{AreTables}
use Rattle.icu_decimal_reading.specs.declared.error.ReadError.{ReadError}
use Rattle.icu_decimal_reading.specs.declared.error.ReadError.TheVariants.{Unreadable, NotWritten, Memory}
use Rattle.icu_decimal_reading.proofs.LawLemmas.{plain_found, reads_back}
use Rattle.icu_decimal_reading.proofs.PlainLemmas.{chars_of, decimal_utf8}
use Rattle.icu_decimal_scientific.specs.ExponentialText.{ScientificSettings, exponential_text, scientific_text}
use Rattle.icu_decimal_scientific.specs.FormOf.{form_of}
use Rattle.icu_decimal_scientific.specs.NotationReading.{HasNoForm, IsDecimalText, IsFormText, IsShownForm}
use Rattle.icu_decimal_scientific.specs.Product.{HasProduct, decimal_of, product_of}
use Rattle.icu_decimal_scientific.specs.ReadingSteps.{IsWholeText, lacks_first, text_with}
use Rattle.icu_decimal_scientific.specs.Scientific.{IsFormOf, ScientificParts}
use Rattle.icu_decimal_scientific.specs.ScientificReading.{AreScientificTexts, IsScientificText, is_scientific_readable_by}
use Rattle.icu_decimal_scientific.specs.ScientificReadings.{Sides, form_in, if_unsigned, inner_of, integer_in, is_form_shown, reading_of, scientific_reading, scientific_value, sides_of, signed_value, unsigned_in, value_at, value_of}
use Rattle.icu_decimal_scientific.specs.ScientificReadingsLaws.{DecimalReadsBack, FormReadsBack, HasOneDecimalReading, IsDecimalReading, ReadFormIsWrittenAgain, ReadIsDecimal, shown_as}
use Rattle.icu_decimal_scientific.specs.ShownNumbers.{IsShownAs, IsShownExponent, shown_exponent}
use Rattle.icu_decimal_scientific.specs.declared.notation.ScientificNotation.{ScientificNotation}
use Rattle.icu_decimal_scientific.specs.declared.shown.ExponentOptions.{ExponentOptions}
use Rattle.icu_decimal_scientific.proofs.FormLawLemmas.{form_is_normal}
use Rattle.icu_decimal_scientific.proofs.FormOfLemmas.{function_is_form}
use Rattle.icu_decimal_scientific.proofs.NotationLemmas.{few_exponents, form_has_product, form_is_written_again, is_significand, no_form_shown, product_is_the_number, text_has_one_form}
use Rattle.icu_decimal_scientific.proofs.PowerLemmas.{lt_through}
use Rattle.icu_decimal_scientific.proofs.ProductLemmas.{one_product}
use Rattle.icu_decimal_scientific.proofs.ReaderLemmas.{unsigned_written}
use Rattle.icu_decimal_scientific.proofs.ScientificReadingLemmas.{lacks_number, one_value, plain_unsigned, tests_of, unsigned_encoded}
use Rattle.icu_decimal_scientific.proofs.ShownExponentLemmas.{shown_exponent_is_function}
use Rattle.icu_decimal_scientific.proofs.ShownFormLemmas.{form_is, product_shifted, shown_means, shown_tested}
use Rattle.icu_decimal_scientific.proofs.SidesLemmas.{inner_is, inner_there, sides_there, sides_whole}

-- ---- the two sides

-- a number that is written so without a sign
record IsUnsignedText (t : Tables) (text : List ℕ) (n : Number) : Type 0 where
  pub number : IsNumber n
  pub written : unsigned_text t n ≡ text

unsigned_means : (t : Tables) (text : List ℕ) (n : Number) → AreTables t → unsigned_in (plain_reading t text) ≡ Some n → IsUnsignedText t text n
unsigned_means t text n are is = at (plain_reading t text) refl is
  where
    at : (reading : PlainReading) → plain_reading t text ≡ reading → unsigned_in reading ≡ Some n → IsUnsignedText t text n
    at unreadable read is = absurd (none-some n is)
    at not_written read is = absurd (none-some n is)
    at (decimal v) read is = by v.sign refl is
      where
        plain : IsPlainText t text v
        plain = plain_found t text v are read

        by : (sign : Sign) → v.sign ≡ sign → if_unsigned sign v.absolute ≡ Some n → IsUnsignedText t text n
        by NoSign none is = subst (IsUnsignedText t text) (same_Some v.absolute n is) (record { number = plain.decimal; written = (unsigned_written t text v plain none).written })
        by Negative none is = absurd (none-some n is)
        by Positive none is = absurd (none-some n is)

unsigned_there : (t : Tables) (n : Number) → AreTables t → is_readable_by t ≡ true → IsNumber n → unsigned_in (plain_reading t (unsigned_text t n)) ≡ Some n
unsigned_there t n are readable is =
    ap unsigned_in (ap (plain_reading t) (sym (plain_unsigned t n)) ∙ reads_back t (record { sign = NoSign; absolute = n }) are readable is)

integer_means : (t : Tables) (text : List ℕ) (v : SignedValue Number) → AreTables t → integer_in (plain_reading t text) ≡ Some v → IsWholeText t text v
integer_means t text v are is = at (plain_reading t text) refl is
  where
    at : (reading : PlainReading) → plain_reading t text ≡ reading → integer_in reading ≡ Some v → IsWholeText t text v
    at unreadable read is = absurd (none-some v is)
    at not_written read is = absurd (none-some v is)
    at (decimal w) read is = by (w.absolute.low == 32768) refl is
      where
        plain : IsPlainText t text w
        plain = plain_found t text w are read

        by : (b : Bool) → (w.absolute.low == 32768) ≡ b → cond b (Some w) None ≡ Some v → IsWholeText t text v
        by true whole is = subst (IsWholeText t text) (same_Some w v is) (record { decimal = plain.decimal; whole = eqb-true w.absolute.low 32768 whole; written = plain.written })
        by false part is = absurd (none-some v is)

integer_there : (t : Tables) (v : SignedValue Number) → AreTables t → is_readable_by t ≡ true → IsDecimal v → ShowsNoFraction v → integer_in (plain_reading t (decimal_text t v)) ≡ Some v
integer_there t v are readable is whole =
    ap integer_in (reads_back t v are readable is) ∙ ap (λ b. cond b (Some v) None) (eq-eqb v.absolute.low 32768 whole)

-- ---- between the affixes of a sign

-- a scientific number that has this sign, and is written so without it
record IsValueOf (s : ScientificSettings) (sign : Sign) (text : List ℕ) (v : ScientificValue) : Type 0 where
  pub number : IsScientific v
  pub signed : v.significand.sign ≡ sign
  pub written : exponential_text s v.significand.absolute v.exponent ≡ text

value_means : (s : ScientificSettings) (sign : Sign) (sides : Sides) (v : ScientificValue) → AreScientificTexts s → value_at s sign sides ≡ Some v → IsValueOf s sign (sides.front ++ (s.separator ++ sides.back)) v
value_means s sign sides v are is = at (unsigned_in (plain_reading s.tables sides.front)) (integer_in (plain_reading s.exponents sides.back)) refl refl is
  where
    at : (n : Option Number) (exponent : Option (SignedValue Number)) → unsigned_in (plain_reading s.tables sides.front) ≡ n → integer_in (plain_reading s.exponents sides.back) ≡ exponent
        → value_of sign n exponent ≡ Some v → IsValueOf s sign (sides.front ++ (s.separator ++ sides.back)) v
    at (Some n) (Some exponent) first second is =
        let front = unsigned_means s.tables sides.front n are.tables first in
        let back = integer_means s.exponents sides.back exponent are.exponents second in
        subst (IsValueOf s sign (sides.front ++ (s.separator ++ sides.back))) (same_Some (record { significand = record { sign = sign; absolute = n }; exponent = exponent }) v is) (record {
          number = record { significand = front.number; exponent = back.decimal; whole = back.whole };
          signed = refl;
          written = ap (λ f. f ++ (s.separator ++ decimal_text s.exponents exponent)) front.written ∙ ap (λ b. sides.front ++ (s.separator ++ b)) back.written;
        })
    at (Some n) None first second is = absurd (none-some v is)
    at None (Some exponent) first second is = absurd (none-some v is)
    at None None first second is = absurd (none-some v is)

signed_means : (s : ScientificSettings) (sign : Sign) (text : List ℕ) (v : ScientificValue) → AreScientificTexts s → signed_value s sign text ≡ Some v → IsScientificText s text v
signed_means s sign text v are is =
    option_and_then_some (value_at s sign) (option_and_then (sides_of s.separator) (inner_of s sign text)) v is (λ sides found value.
    option_and_then_some (sides_of s.separator) (inner_of s sign text) sides found (λ inner between cut. written sides inner value between cut))
  where
    written : (sides : Sides) (inner : List ℕ) → value_at s sign sides ≡ Some v → inner_of s sign text ≡ Some inner → sides_of s.separator inner ≡ Some sides → IsScientificText s text v
    written sides inner value between cut =
        let is : IsValueOf s sign (sides.front ++ (s.separator ++ sides.back)) v = value_means s sign sides v are value in
        record {
          number = is.number;
          written =
              ap (λ g. text_with s g (exponential_text s v.significand.absolute v.exponent)) is.signed
              ∙ ap (text_with s sign) (is.written ∙ sym (sides_whole s.separator inner sides cut)) ∙ sym (inner_is s sign text inner between);
        }

signed_there : (s : ScientificSettings) (v : ScientificValue) → AreScientificTexts s → is_scientific_readable_by s ≡ true → IsScientific v → signed_value s v.significand.sign (scientific_text s v) ≡ Some v
signed_there s v are readable is =
    let tests = tests_of s readable in
    let sign : Sign = v.significand.sign in
    let n : Number = v.significand.absolute in
    let front : List ℕ = unsigned_text s.tables n in
    let back : List ℕ = decimal_text s.exponents v.exponent in
    let front_utf8 : IsUtf8 front = subst IsUtf8 (plain_unsigned s.tables n) (decimal_utf8 s.tables (record { sign = NoSign; absolute = n }) are.tables is.significand) in
    let same : chars_of s.tables n ≡ chars front = chars_from_encodes (chars_of s.tables n) front front_utf8 (sym (unsigned_encoded s.tables n are.tables is.significand)) in
    let lacks : lacks_first (chars s.separator) (chars front) ≡ true = ap (lacks_first (chars s.separator)) (sym same) ∙ lacks_number s.tables n (chars s.separator) are.tables tests.tables tests.apart in
    ap (λ inner. option_and_then (value_at s sign) (option_and_then (sides_of s.separator) inner)) (inner_there s sign (exponential_text s n v.exponent))
    ∙ ap (option_and_then (value_at s sign)) (sides_there s.separator front back are.separator front_utf8 (decimal_utf8 s.exponents v.exponent are.exponents is.exponent) lacks)
    ∙ ap (λ m. value_of sign m (integer_in (plain_reading s.exponents back))) (unsigned_there s.tables n are.tables tests.tables is.significand)
    ∙ ap (value_of sign (Some n)) (integer_there s.exponents v.exponent are.exponents tests.exponents is.exponent is.whole)

-- ---- between those of some sign

any_means : (s : ScientificSettings) (text : List ℕ) (v : ScientificValue) → AreScientificTexts s → scientific_value s text ≡ Some v → IsScientificText s text v
any_means s text v are is = at (signed_value s NoSign text) (signed_value s Negative text) refl refl is
  where
    at : (none minus : Option ScientificValue) → signed_value s NoSign text ≡ none → signed_value s Negative text ≡ minus → option_or none (option_or minus (signed_value s Positive text)) ≡ Some v → IsScientificText s text v
    at (Some w) minus first second is = signed_means s NoSign text v are (first ∙ is)
    at None (Some w) first second is = signed_means s Negative text v are (second ∙ is)
    at None None first second is = signed_means s Positive text v are is

none_of : (s : ScientificSettings) (text : List ℕ) (sign : Sign) → scientific_value s text ≡ None → signed_value s sign text ≡ None
none_of s text sign is = at (signed_value s NoSign text) (signed_value s Negative text) refl refl is sign
  where
    at : (none minus : Option ScientificValue) → signed_value s NoSign text ≡ none → signed_value s Negative text ≡ minus → option_or none (option_or minus (signed_value s Positive text)) ≡ None
        → (sign : Sign) → signed_value s sign text ≡ None
    at (Some w) minus first second is sign = absurd (none-some w (sym is))
    at None (Some w) first second is sign = absurd (none-some w (sym is))
    at None None first second is NoSign = first
    at None None first second is Negative = second
    at None None first second is Positive = is

any_there : (s : ScientificSettings) (text : List ℕ) (v : ScientificValue) → AreScientificTexts s → is_scientific_readable_by s ≡ true → IsScientificText s text v → scientific_value s text ≡ Some v
any_there s text v are readable is = at (scientific_value s text) refl
  where
    there : signed_value s v.significand.sign text ≡ Some v
    there = subst (λ text. signed_value s v.significand.sign text ≡ Some v) is.written (signed_there s v are readable is.number)

    at : (found : Option ScientificValue) → scientific_value s text ≡ found → scientific_value s text ≡ Some v
    at None none = absurd (none-some v (sym (none_of s text v.significand.sign none) ∙ there))
    at (Some w) found =
        let other : IsScientificText s text w = any_means s text w are found in
        found ∙ ap Some (one_value s w v are readable other.number is.number (other.written ∙ sym is.written))

-- ---- in a notation

module _ (s : ScientificSettings) (notation : ScientificNotation) (o : ExponentOptions) (text : List ℕ) (are : AreScientificTexts s) where
  reading_shown : (v : ScientificValue) → is_scientific_readable_by s ≡ true → IsScientificText s text v → IsDecimalReading s notation o text (reading_of notation o (Some v))
  reading_shown v readable written = at (is_form_shown notation o v.exponent (form_in v)) refl
    where
      at : (b : Bool) → is_form_shown notation o v.exponent (form_in v) ≡ b → IsDecimalReading s notation o text (cond b (decimal (decimal_of (form_in v))) not_written)
      at true test =
          let shown : IsShownForm notation o (form_in v) v = shown_means notation o v written.number.significand test in (
            readable,
            record {
              form = form_in v;
              written = record { value = v; written = written; shown = shown };
              product = record { sign = refl; absolute = product_shifted (form_in v).exponent v.significand.absolute shown.product };
            },
          )
      at false test = (
        readable,
        no_form_shown s notation o text v are readable written (λ form f.
            false≢true (sym test ∙ shown_tested notation o v written.number.significand (subst (λ (x : ScientificParts). IsShownForm notation o x v) (form_is notation o form v f) f))),
      )

  reading_is : IsDecimalReading s notation o text (scientific_reading s notation o text)
  reading_is = at (is_scientific_readable_by s) refl
    where
      inside : is_scientific_readable_by s ≡ true → (found : Option ScientificValue) → scientific_value s text ≡ found → IsDecimalReading s notation o text (reading_of notation o found)
      inside readable None none = (readable, λ form f. none-some f.value (sym none ∙ any_there s text f.value are readable f.written))
      inside readable (Some v) found = reading_shown v readable (any_means s text v are found)

      at : (b : Bool) → is_scientific_readable_by s ≡ b → IsDecimalReading s notation o text (cond b (reading_of notation o (scientific_value s text)) unreadable)
      at true readable = inside readable (scientific_value s text) refl
      at false broken = broken

  -- a decimal that a text is, is that of its form
  decimal_is : (d : SignedValue Number) (is : IsDecimalText s notation o text d) → decimal_of is.form ≡ d
  decimal_is d is =
      let n : Number = is.form.significand.absolute in
      let absolute : product_of is.form.exponent n ≡ d.absolute = one_product is.form.exponent n (product_of is.form.exponent n) d.absolute (product_shifted is.form.exponent n is.written.shown.product) is.product.absolute in
      let sign : is.form.significand.sign ≡ d.sign = sym is.product.sign in
      λ i. record { sign = sign i; absolute = absolute i }

  one_decimal_reading : (one other : PlainReading) → IsDecimalReading s notation o text one → IsDecimalReading s notation o text other → one ≡ other
  one_decimal_reading unreadable unreadable p q = refl
  one_decimal_reading unreadable not_written p q = absurd (both_ways (is_scientific_readable_by s) p q.0)
  one_decimal_reading unreadable (decimal e) p q = absurd (both_ways (is_scientific_readable_by s) p q.0)
  one_decimal_reading not_written unreadable p q = absurd (both_ways (is_scientific_readable_by s) q p.0)
  one_decimal_reading not_written not_written p q = refl
  one_decimal_reading not_written (decimal e) p q = absurd (p.1 q.1.form q.1.written)
  one_decimal_reading (decimal d) unreadable p q = absurd (both_ways (is_scientific_readable_by s) q p.0)
  one_decimal_reading (decimal d) not_written p q = absurd (q.1 p.1.form p.1.written)
  one_decimal_reading (decimal d) (decimal e) p q =
      ap decimal (sym (decimal_is d p.1) ∙ ap decimal_of (text_has_one_form s notation o text p.1.form q.1.form are p.0 p.1.written q.1.written) ∙ decimal_is e q.1)

pub one_reading : HasOneDecimalReading
one_reading s notation o text reading are = (
  (λ is. one_decimal_reading s notation o text are reading (scientific_reading s notation o text) is (reading_is s notation o text are)),
  (λ same. subst (IsDecimalReading s notation o text) (sym same) (reading_is s notation o text are)),
)

-- ---- both ways

pub form_reads_back : FormReadsBack
form_reads_back s notation o form v are readable number f =
    sym ((one_reading s notation o (scientific_text s v) (decimal (decimal_of form)) are).0 (
      readable,
      record {
        form = form;
        written = record { value = v; written = record { number = number; written = refl }; shown = f };
        product = record { sign = refl; absolute = product_shifted form.exponent form.significand.absolute f.product };
      },
    ))

pub shown_so : (o : ExponentOptions) (form : ScientificParts) → IsShownAs o form (shown_as o form)
shown_so o form = record { significand = refl; exponent = (shown_exponent_is_function o form.exponent (shown_exponent o form.exponent)).1 refl }

-- an exponent with so few digits is a number
pub shown_number : (o : ExponentOptions) (e : ℤ) (v : SignedValue Number) → IsShownExponent o e v → o.least_digits < 256 → size_of e < 100000 → IsNumber v.absolute
shown_number o e v shown few small = record {
  low = let low = shown.low in omega (arith, low);
  ones = shown.high.keeps;
  high = let high = shown.high.lowest 40000 (lit≤ tt) (omega (arith, few)) (lt_through v.absolute.count (10 ^ 32773) (10 ^ 40001) below (tens_apart 32773 40001 (lit≤ tt))) in omega (arith, high);
  whole = ap (λ k. v.absolute.count % 10 ^ k) shown.low ∙ ap (λ n. n % 10 ^ 32768) shown.count ∙ mul-mod_left (size_of e) (10 ^ 32768);
  below = shown.high.holds;
}
  where
    scaled : (m n t : ℕ) → m < n → 0 < t → m * t < n * t
    scaled m n t less some = mul-lt-mul_of_pos_right {m = m} {n = n} less some

    below : v.absolute.count < 10 ^ 32773
    below = subst (λ n. n < 10 ^ 32773) (sym shown.count) (subst (λ t. size_of e * 10 ^ 32768 < t) (sym (tens_split 5 32768 32773 refl)) (scaled (size_of e) 100000 (10 ^ 32768) small (tens_positive 32768)))

pub decimal_reads_back : DecimalReadsBack
decimal_reads_back s notation o d are readable few is below =
    let form : ScientificParts = form_of notation d in
    let f : IsFormOf notation d form = function_is_form notation d is below in
    let n : Number = form.significand.absolute in
    let shown : IsShownAs o form (shown_as o form) = shown_so o form in
    let normal = form_is_normal notation d.absolute n form.exponent is f.absolute in
    let product : HasProduct form.exponent n = form_has_product notation d.absolute n form.exponent is f.absolute in
    let number : IsScientific (shown_as o form) = record {
      significand = is_significand notation d.absolute n form.exponent is f.absolute;
      exponent = shown_number o form.exponent (shown_exponent o form.exponent) shown.exponent few (few_exponents notation n form.exponent normal product);
      whole = refl;
    } in
    record {
      is = form_reads_back s notation o form (shown_as o form) are readable number (record { shown = shown; normal = normal; product = product });
      same = record { sign = f.sign; count = product_is_the_number notation d.absolute n (product_of form.exponent n) form.exponent f.absolute (product_shifted form.exponent n product) };
    }

pub read_is_decimal : ReadIsDecimal
read_is_decimal s notation o text d are reads =
    let is : IsDecimalText s notation o text d = ((one_reading s notation o text (decimal d) are).1 (sym reads)).1 in
    let product : HasProduct is.form.exponent is.form.significand.absolute = is.written.shown.product in
    subst IsNumber (one_product is.form.exponent is.form.significand.absolute product.product d.absolute product.is is.product.absolute) product.number

pub read_form_is_written_again : ReadFormIsWrittenAgain
read_form_is_written_again s notation o text d are reads =
    let is : IsDecimalText s notation o text d = ((one_reading s notation o text (decimal d) are).1 (sym reads)).1 in
    record {
      form = is.form;
      normal = is.written.shown.normal;
      written = form_is_written_again s notation o text is.form (shown_as o is.form) is.written (shown_so o is.form);
      is = decimal_is s notation o text are d is;
    }

-- ---- a call that reads

module _ (s : ScientificSettings) (notation : ScientificNotation) (o : ExponentOptions) (text : List ℕ) (are : AreScientificTexts s) (readable : is_scientific_readable_by s ≡ true) where
  pub answered : (form : ScientificParts) (d : SignedValue Number) → IsFormText s notation o text form → OnAbsolute (IsShifted form.exponent) form.significand d → scientific_reading s notation o text ≡ decimal d
  answered form d written product = sym ((one_reading s notation o text (decimal d) are).0 (readable, record { form = form; written = written; product = product }))

  pub refused : (error : ReadError) → ¬ (error ≡ Unreadable) → (error ≡ NotWritten → HasNoForm s notation o text) → IsAnswered (Err error) (scientific_reading s notation o text)
  refused Unreadable never missing = absurd (never refl)
  refused NotWritten never missing = sym ((one_reading s notation o text not_written are).0 (readable, missing refl))
  refused Memory never missing = tt

-- where they are not readable, no text is read
pub unread : (s : ScientificSettings) (notation : ScientificNotation) (o : ExponentOptions) (text : List ℕ) → is_scientific_readable_by s ≡ false → scientific_reading s notation o text ≡ unreadable
unread s notation o text broken = ap (λ b. cond b (reading_of notation o (scientific_value s text)) unreadable) broken
