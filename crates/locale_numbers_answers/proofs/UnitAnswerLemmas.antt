-- The answer that is a text with a unit, by the tables that it is put with.
use Rattle.std.proofs.Common.{◌≡◌, ℕ, List, [], ◌∷◌, ◌++◌, Some, None, Result, OnOk, sym, ap, ◌∙◌, refl}
use Rattle.fixed_decimal.specs.Number.{Number}
use Rattle.fixed_decimal.specs.SignedValue.{SignedValue}
use Rattle.fixed_decimal.specs.declared.Sign.{Sign}
use Rattle.fixed_decimal.specs.declared.Sign.TheVariants.{None as NoSign, Negative, Positive}
use Rattle.icu_decimal_direct.specs.UnitTexts.{UnitTexts, shown_down, text_between, unit_text}
use Rattle.icu_dimension.specs.UnitReading.{ReaderTexts, text_by}
use Rattle.locale_numbers_formatter.specs.FormatReading.{FormatReader, NotationTexts, notation_texts, reader_of, reads_between, reads_notation}
use Rattle.locale_numbers_formatter.specs.FormatText.{FormatTables, compact_tables, digits_tables, plain_tables, scientific_tables, unit_tables}
use Rattle.locale_numbers_formatter.specs.ReadingLaws.{ReadersReadFormats}
use Rattle.locale_numbers_answers.specs.AnswerLine.{written}
use Rattle.locale_numbers_answers.specs.NumberAnswer.{number_answer}
use Rattle.locale_numbers_answers.specs.UnitAnswer.{texts_read}
use Rattle.locale_numbers_answers.proofs.AnswerLineLemmas.{on_ok_by}

-- a reader of them writes the same
read_is : (u : UnitTexts) (sign : Sign) (n : Number) → text_by (texts_read u) (record { sign = sign; absolute = n }) ≡ text_between u (record { sign = sign; absolute = n })
read_is u NoSign n = refl
read_is u Negative n = refl
read_is u Positive n = refl

no_reader : (r : FormatReader) → None ≡ Some r → ⊥
no_reader r e = cc

no_texts : (n : NotationTexts) (r : ReaderTexts) → Some (reads_notation n) ≡ Some (reads_between r) → ⊥
no_texts n r e = cc

pub unit_answer : (law : ReadersReadFormats) (f : FormatTables) (u : UnitTexts) (v : SignedValue Number) → reader_of f ≡ Some (reads_between (texts_read u)) → written (text_between u v) ≡ number_answer f v
unit_answer law (plain_tables t) u v known = ap written (sym (read_is u v.sign v.absolute) ∙ law (plain_tables t) (texts_read u) v known)
unit_answer law (unit_tables x) u v known = ap written (sym (read_is u v.sign v.absolute) ∙ law (unit_tables x) (texts_read u) v known)
unit_answer law (compact_tables t) u v known = absurd (no_reader (reads_between (texts_read u)) known)
unit_answer law (digits_tables t o) u v known = absurd (no_reader (reads_between (texts_read u)) known)
unit_answer law (scientific_tables s) u v known = absurd (no_texts (notation_texts s) (texts_read u) known)

-- what is put after `ok` and a tab is the answer
pub answer_is : (law : ReadersReadFormats) (f : FormatTables) (u : UnitTexts) (d : SignedValue Number) (after : List ℕ) → reader_of f ≡ Some (reads_between (texts_read u)) → after ≡ (111 ∷ 107 ∷ 9 ∷ []) ++ unit_text u d
    → after ≡ number_answer f (shown_down u.least d)
answer_is law f u d after known put = put ∙ unit_answer law f u (shown_down u.least d) known

-- and it is written
pub piece_as : {T E : Type 0} (r : Result T E) (shown text old new : List ℕ) → shown ≡ text → OnOk r (new ≡ old ++ shown) → OnOk r (new ≡ old ++ text)
piece_as r shown text old new is put = on_ok_by r (λ p. p ∙ ap (λ t. old ++ t) is) put
