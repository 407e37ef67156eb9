-- Plain tables as pairs of affixes: their texts, that they are readable, and what is read.
use Rattle.std.proofs.Common.{◌≡◌, ℕ, Bool, true, false, not, ◌&&◌, List, [], ◌∷◌, refl, sym, ap, ◌∙◌}
use Rattle.std.specs.Str.{IsUtf8, bytes_eq}
use Rattle.std.proofs.lemmas.Bool.{and_parts}
use Rattle.fixed_decimal.specs.Number.{Number}
use Rattle.fixed_decimal.specs.declared.Sign.{Sign}
use Rattle.fixed_decimal.specs.declared.Sign.TheVariants.{None as NoSign, Negative, Positive}
use Rattle.icu_decimal.specs.DecimalOfText.{IsReading}
use Rattle.icu_decimal.specs.PlainReading.{PlainReading, decimal, not_written, plain_reading, unreadable}
use Rattle.icu_decimal.specs.PlainText.{Tables, decimal_text}
use Rattle.icu_decimal.specs.Readable.{has_no_digit, is_readable_by, is_same_pair}
use Rattle.icu_decimal.specs.ReadingLaws.{AreTables, HasOneReading}
use Rattle.icu_dimension.specs.UnitReading.{AreReaderTexts, IsUnitReading, ReaderTexts, are_clear_pairs, do_differ, do_pairs_differ, is_clear, is_unit_readable_by, pair_for, text_by}
use Rattle.icu_decimal_reading.proofs.PlainLemmas.{prefix_clear, prefix_utf8, suffix_clear, suffix_utf8, tests_of}
use Rattle.icu_dimension_lenient.specs.NativeUnitLaws.{HasOneExactReading}
use Rattle.locale_numbers_formatter.specs.FormatReading.{pairs_reader}
use Rattle.locale_numbers_formatter.specs.FormatText.{plain_tables, symbol_pair}
use Rattle.locale_numbers_formatter.specs.ReadingLaws.{PlainReadsByPairs}

abbrev plain_reader : Tables → ReaderTexts
plain_reader t = pairs_reader (plain_tables t)

both : (a b : Bool) → a ≡ true → b ≡ true → (a && b) ≡ true
both true b one other = other
both false b one other = one

-- the text between the pairs is the plain text
text_is : (t : Tables) (sign : Sign) (n : Number) → text_by (plain_reader t) (record { sign = sign; absolute = n }) ≡ decimal_text t (record { sign = sign; absolute = n })
text_is t NoSign n = refl
text_is t Negative n = refl
text_is t Positive n = refl

are_texts : (t : Tables) → AreTables t → AreReaderTexts (plain_reader t)
are_texts t are = record { tables = are; before = before; after = after }
  where
    before : (sign : Sign) → IsUtf8 (pair_for (plain_reader t).pairs sign).before
    before NoSign = prefix_utf8 t NoSign are
    before Negative = prefix_utf8 t Negative are
    before Positive = prefix_utf8 t Positive are

    after : (sign : Sign) → IsUtf8 (pair_for (plain_reader t).pairs sign).after
    after NoSign = suffix_utf8 t NoSign are
    after Negative = suffix_utf8 t Negative are
    after Positive = suffix_utf8 t Positive are

-- nothing compared with a text, and the text with nothing
turned : (a : List ℕ) → bytes_eq [] a ≡ bytes_eq a []
turned [] = refl
turned (x ∷ xs) = refl

turned_pair : (p s : List ℕ) → not (is_same_pair p s [] []) ≡ true → not (is_same_pair [] [] p s) ≡ true
turned_pair p s other = ap (λ b. not (b && bytes_eq [] s)) (turned p) ∙ ap (λ b. not (bytes_eq p [] && b)) (turned s) ∙ other

clear_pair : (t : Tables) (sign : Sign) → is_readable_by t ≡ true → is_clear t.digits (symbol_pair t sign) ≡ true
clear_pair t sign readable =
    both (has_no_digit t.digits (symbol_pair t sign).before) (has_no_digit t.digits (symbol_pair t sign).after)
    (prefix_clear t sign readable) (suffix_clear t sign readable)

readable_is : (t : Tables) → is_readable_by t ≡ true → is_unit_readable_by (plain_reader t) ≡ true
readable_is t readable =
    let s = t.symbols.strings in
    let signs = (tests_of t readable).signs in
    let first = and_parts (not (is_same_pair s.minus_sign_prefix s.minus_sign_suffix [] [])) _ signs in
    let second = and_parts (not (is_same_pair s.plus_sign_prefix s.plus_sign_suffix [] [])) _ first.1 in
    let pairs = (plain_reader t).pairs in
    both (is_readable_by t) (are_clear_pairs t.digits pairs && do_pairs_differ pairs) readable
    (both (are_clear_pairs t.digits pairs) (do_pairs_differ pairs)
    (both (is_clear t.digits pairs.none) (is_clear t.digits pairs.minus && is_clear t.digits pairs.plus) (clear_pair t NoSign readable)
    (both (is_clear t.digits pairs.minus) (is_clear t.digits pairs.plus) (clear_pair t Negative readable) (clear_pair t Positive readable)))
    (both (do_differ pairs.none pairs.minus) (do_differ pairs.none pairs.plus && do_differ pairs.minus pairs.plus) (turned_pair s.minus_sign_prefix s.minus_sign_suffix first.0)
    (both (do_differ pairs.none pairs.plus) (do_differ pairs.minus pairs.plus) (turned_pair s.plus_sign_prefix s.plus_sign_suffix second.0) second.1)))

unreadable_is : (a b : Bool) → a ≡ false → (a && b) ≡ false
unreadable_is true b fails = absurd (cc fails)
unreadable_is false b fails = refl

reading_is : (t : Tables) (text : List ℕ) (reading : PlainReading) → IsReading t text reading → IsUnitReading (plain_reader t) text reading
reading_is t text unreadable is = unreadable_is (is_readable_by t) (are_clear_pairs t.digits (plain_reader t).pairs && do_pairs_differ (plain_reader t).pairs) is
reading_is t text not_written is =
    (readable_is t is.0, λ v are. λ same. is.1 v are (sym (text_is t v.sign v.absolute) ∙ same))
reading_is t text (decimal v) is =
    (readable_is t is.0, record { decimal = is.1.decimal; written = text_is t v.sign v.absolute ∙ is.1.written })

pub by_pairs : HasOneReading → HasOneExactReading → PlainReadsByPairs
by_pairs one one_unit t text are =
    sym ((one_unit (plain_reader t) text (plain_reading t text) (are_texts t are)).0 (reading_is t text (plain_reading t text) ((one t text (plain_reading t text) are).1 refl)))
