-- The sign under which a number has a text.
use Rattle.std.proofs.Common.{◌≡◌, ℕ, true, false, cond, List, sym, ap, ◌∙◌}
use Rattle.std.proofs.lemmas.Bool.{and_parts}
use Rattle.std.specs.Str.{chars}
use Rattle.fixed_decimal.specs.Number.{Number}
use Rattle.fixed_decimal.specs.declared.Sign.TheVariants.{None as NoSign, Negative, Positive}
use Rattle.icu_decimal_plain.specs.PlainText.{Tables}
use Rattle.icu_decimal_reading.specs.DecimalOfText.{PlainReading, decimal, not_written, unreadable}
use Rattle.icu_decimal_reading.specs.PlainReading.{fraction_in, is_text_of, is_within, number_with, plain_reading, signed_reading, whole_in, with_sign, written_reading}
use Rattle.icu_decimal_reading.specs.Readable.{all_differ, is_readable_by}

module _ (t : Tables) (text : List ℕ) (n : Number) where
  after_none : PlainReading
  after_none = cond (is_text_of t text (with_sign Negative n)) (decimal (with_sign Negative n))
      (cond (is_text_of t text (with_sign Positive n)) (decimal (with_sign Positive n)) not_written)

  after_minus : PlainReading
  after_minus = cond (is_text_of t text (with_sign Positive n)) (decimal (with_sign Positive n)) not_written

  pub first_sign : true ≡ is_text_of t text (with_sign NoSign n) → signed_reading t text n ≡ decimal (with_sign NoSign n)
  unfolding after_none
  first_sign holds = ap (λ b. cond b (decimal (with_sign NoSign n)) after_none) (sym holds)

  pub second_sign : false ≡ is_text_of t text (with_sign NoSign n) → true ≡ is_text_of t text (with_sign Negative n) → signed_reading t text n ≡ decimal (with_sign Negative n)
  unfolding after_none after_minus
  second_sign lacks holds = ap (λ b. cond b (decimal (with_sign NoSign n)) after_none) (sym lacks) ∙ ap (λ b. cond b (decimal (with_sign Negative n)) after_minus) (sym holds)

  pub third_sign : false ≡ is_text_of t text (with_sign NoSign n) → false ≡ is_text_of t text (with_sign Negative n) → true ≡ is_text_of t text (with_sign Positive n) → signed_reading t text n ≡ decimal (with_sign Positive n)
  unfolding after_none after_minus
  third_sign lacks nor holds =
      ap (λ b. cond b (decimal (with_sign NoSign n)) after_none) (sym lacks) ∙ ap (λ b. cond b (decimal (with_sign Negative n)) after_minus) (sym nor)
      ∙ ap (λ b. cond b (decimal (with_sign Positive n)) not_written) (sym holds)

  pub no_sign_fits : false ≡ is_text_of t text (with_sign NoSign n) → false ≡ is_text_of t text (with_sign Negative n) → false ≡ is_text_of t text (with_sign Positive n) → signed_reading t text n ≡ not_written
  unfolding after_none after_minus
  no_sign_fits lacks nor neither =
      ap (λ b. cond b (decimal (with_sign NoSign n)) after_none) (sym lacks) ∙ ap (λ b. cond b (decimal (with_sign Negative n)) after_minus) (sym nor)
      ∙ ap (λ b. cond b (decimal (with_sign Positive n)) not_written) (sym neither)

-- ---- the reading by its steps

module _ (t : Tables) (text : List ℕ) where
  -- the digits before and after the point
  abbrev pub whole_of : List ℕ
  whole_of = whole_in t.digits (chars t.symbols.strings.decimal_separator) (chars text)

  abbrev pub fraction_of : List ℕ
  fraction_of = fraction_in t.digits (chars t.symbols.strings.decimal_separator) (chars text)

  pub reading_unreadable : is_readable_by t ≡ false → plain_reading t text ≡ unreadable
  reading_unreadable lacks = ap (λ b. cond b (written_reading t text) unreadable) lacks

  pub reading_past : is_readable_by t ≡ true → is_within whole_of fraction_of ≡ false → plain_reading t text ≡ not_written
  reading_past holds past =
      ap (λ b. cond b (written_reading t text) unreadable) holds ∙ ap (λ b. cond b (signed_reading t text (number_with whole_of fraction_of)) not_written) past

  pub reading_signed : is_readable_by t ≡ true → is_within whole_of fraction_of ≡ true → plain_reading t text ≡ signed_reading t text (number_with whole_of fraction_of)
  reading_signed holds within =
      ap (λ b. cond b (written_reading t text) unreadable) holds ∙ ap (λ b. cond b (signed_reading t text (number_with whole_of fraction_of)) not_written) within

-- no digit is twice in readable tables
pub digits_differ : (t : Tables) → is_readable_by t ≡ true → all_differ t.digits ≡ true
digits_differ t readable = (and_parts (all_differ t.digits) _ readable).0
