-- What a compact answer prints, read back, and sent back in the exact form: `specs/PrintedLaws.antt`.
use Rattle.std.proofs.Common.{◌≡◌, ℕ, ◌==◌, Bool, true, false, cond, List, ◌∷◌, ◌++◌, None, Some, Ok, refl, sym, ap, ◌∙◌, subst, ⊎_elim}
use Rattle.std.proofs.lemmas.Bool.{lt-ltb, ltb-true}
use Rattle.fixed_decimal.specs.CompactText.{CompactValue, ReadsCompact, compact_text_of}
use Rattle.fixed_decimal.specs.Number.{Number}
use Rattle.fixed_decimal.specs.Rounding.{count_limit}
use Rattle.fixed_decimal.specs.SignedValue.{SignedValue}
use Rattle.fixed_decimal.specs.TextLaws.{IsDecimal}
use Rattle.fixed_decimal.proofs.CompactReadOnceLemmas.{compact_printed}
use Rattle.icu_decimal.specs.CompactLaws.{ShownFormAnswers, ShownFormIsInRange, ShownFormIsShownValue, ShownFormWritesSame, ShownIsCompact}
use Rattle.icu_decimal.specs.CompactTables.{CompactTables}
use Rattle.icu_decimal.specs.CompactText.{value_shown}
use Rattle.icu_decimal.specs.ExactForms.{exact_place}
use Rattle.icu_decimal.specs.ExactLaws.{FlatTableUsesShownEntry, KeptMagnitudeUsesShownEntry, UsesShownEntry}
use Rattle.icu_decimal.specs.ExactText.{exact_text, written_text}
use Rattle.icu_decimal.specs.ShownChoice.{CanShow, entry_at, exponent_of, shown_under}
use Rattle.icu_decimal.specs.ShownValue.{magnitude}
use Rattle.locale_numbers_answers.specs.Answers.{answer_by, exact_found, written_found, written_to}
use Rattle.locale_numbers_answers.specs.CompactReading.{compact_number, compact_reading_of}
use Rattle.locale_numbers_answers.specs.NumberAnswer.{exact_written, number_answer, text_and_value}
use Rattle.locale_numbers_answers.specs.NumberReading.{reading_of}
use Rattle.locale_numbers_answers.proofs.CompactReadingLemmas.{reads_compact}
use Rattle.locale_numbers_answers.proofs.NumberBounds.{changed_is_decimal, reading_is_decimal}
use Rattle.locale_numbers_book.specs.Book.{BookTables}
use Rattle.locale_numbers_formats.specs.declared.CompactWidth.{CompactWidth}
use Rattle.locale_numbers_formats.specs.declared.SignAsked.TheVariants.{Keep}
use Rattle.locale_numbers_formatter.specs.ExactForms.{exact_format_text}
use Rattle.locale_numbers_formatter.specs.ShownOperands.{is_shown}
use Rattle.locale_numbers_formatter.specs.FormatText.{compact_tables, format_text}
use Rattle.locale_numbers_formatter.specs.Laws.{CompactIsLayered, ExactIsLayered}
use Rattle.locale_numbers_requests.specs.Request.{Asked, tab}
use Rattle.locale_numbers_requests.specs.declared.Refusal.TheVariants as refusal
use Rattle.locale_numbers.specs.Answer.{answer_asked, answer_tagged, found_for, plural_rules_for, refused, second_for, written}
use Rattle.locale_numbers.specs.AskedFormats.{compact_shape, grouping_in}
use Rattle.locale_numbers.specs.Laws.{HasNoTab}
use Rattle.locale_numbers.specs.Printed.{FindsCompact, Prints, PrintsSize, exact_request, number_shown, size_of}
use Rattle.locale_numbers.specs.PrintedLaws.{PrintedIsAnswered, PrintedIsWrittenAgain}
use Rattle.locale_numbers.proofs.LastTabLemmas.{printed_has_no_tab, split_last}
use Rattle.locale_numbers.proofs.ReadingTrips.{one_text, refused_no}

-- ---- what is printed

record IsPrinted (tables : CompactTables) (value : SignedValue Number) (text printed : List ℕ) : Type 0 where
  can : CanShow tables.patterns.entries value.absolute.count
  front : format_text (compact_tables tables) value ≡ text
  back : compact_text_of (value_shown tables value) ≡ printed

printed_by : (tables : CompactTables) (value : SignedValue Number) (text printed : List ℕ) → HasNoTab printed
    → number_answer (compact_tables tables) value ≡ written (text ++ tab ∷ printed) → IsPrinted tables value text printed
printed_by tables value text printed last same = go (is_shown (compact_tables tables) value) refl same
  where
    go : (b : Bool) → is_shown (compact_tables tables) value ≡ b → cond b (written (text_and_value (compact_tables tables) value)) (refused refusal.Range) ≡ written (text ++ tab ∷ printed) → IsPrinted tables value text printed
    go true can is =
        let s = split_last (format_text (compact_tables tables) value) (compact_text_of (value_shown tables value)) text printed (printed_has_no_tab (value_shown tables value)) last
        (one_text (text_and_value (compact_tables tables) value) (text ++ tab ∷ printed) is) in
        record {
          can = record { below = ltb-true (shown_under 32768 tables.patterns.entries value.absolute.count) count_limit can };
          front = s.front;
          back = s.back;
        }
    go false can is = absurd (refused_no refusal.Range (text ++ tab ∷ printed) is)

one_number : (a b : CompactValue) → compact_number a ≡ compact_number b → a ≡ b
one_number a b e = cc

written_or : (b : Bool) (text : List ℕ) → exact_written (cond b (Some text) None) ≡ cond b (written text) (refused refusal.Exponent)
written_or true text = refl
written_or false text = refl

module _ (book : BookTables) (asked : Asked) (width : CompactWidth) (tables : CompactTables) (read : SignedValue Number) (finds : FindsCompact book asked width tables read) where
  answered : answer_asked book (Some asked) ≡ number_answer (compact_tables tables) (number_shown asked read)
  answered =
      ap (λ p. answer_tagged book p asked) finds.tag
      ∙ ap (λ t. answer_by t asked.format (found_for asked.format.shape book finds.preferences) (second_for asked.format.shape book finds.preferences)
      (λ rule_type. plural_rules_for rule_type book finds.preferences) asked.text) finds.task
      ∙ ap (λ s. written_to (found_for s book finds.preferences) asked.format.options (reading_of asked.text)) finds.shape
      ∙ ap (written_to (found_for (compact_shape width (grouping_in asked)) book finds.preferences) asked.format.options) finds.reading
      ∙ ap (λ found. written_found found asked.format.options read) finds.found

  is_decimal : IsDecimal (number_shown asked read)
  is_decimal = changed_is_decimal asked.format.options None read finds.fits (reading_is_decimal asked.text read finds.reading)

  module _ (text printed : List ℕ) (prints : Prints book asked text printed) where
    is_printed : IsPrinted tables (number_shown asked read) text printed
    is_printed = printed_by tables (number_shown asked read) text printed prints.last (sym answered ∙ prints.whole)

    read_back : ShownIsCompact → compact_reading_of printed ≡ compact_number (value_shown tables (number_shown asked read))
    read_back compact =
        let shown = value_shown tables (number_shown asked read) in
        let is = is_printed in
        reads_compact printed shown
        (subst (λ t. ReadsCompact t shown) is.back (compact_printed shown (compact tables (number_shown asked read) finds.sound.small is_decimal is.can)))

    sent_back : ExactIsLayered → ShownIsCompact → ShownFormIsInRange
        → answer_asked book (Some (exact_request asked width printed))
        ≡ exact_written (exact_text tables (value_shown tables (number_shown asked read)).significand (value_shown tables (number_shown asked read)).exponent)
    sent_back layered compact in_range =
        let shown = value_shown tables (number_shown asked read) in
        ap (λ p. answer_tagged book p (exact_request asked width printed)) finds.tag
        ∙ ap (λ found. exact_found found Keep (compact_reading_of printed)) finds.found
        ∙ ap (exact_found (Ok (compact_tables tables)) Keep) (read_back compact)
        ∙ ap (λ b. cond b (exact_written (exact_format_text (compact_tables tables) shown)) (refused refusal.Range))
        (lt-ltb (exact_place shown.significand.absolute.count shown.exponent) 65536 (in_range tables (number_shown asked read) finds.sound.rises is_printed.can))
        ∙ ap exact_written (layered tables shown)

  pub size_is : ShownIsCompact → ShownFormIsShownValue → (v : ℕ) → PrintsSize book asked v → v ≡ shown_under 32768 tables.patterns.entries (number_shown asked read).absolute.count
  size_is compact value v p =
      let shown = value_shown tables (number_shown asked read) in
      p.is
      ∙ ap size_of (one_number p.value shown (sym p.reading ∙ read_back p.text p.printed p.prints compact))
      ∙ value tables (number_shown asked read) finds.sound.rises

-- ---- the value sent back

pub printed_is_answered : ExactIsLayered → ShownIsCompact → ShownFormIsInRange → ShownFormAnswers → PrintedIsAnswered
printed_is_answered layered compact in_range answers book asked width tables read text printed finds prints =
    let value = number_shown asked read in
    let shown = value_shown tables value in
    let entry = entry_at 32768 tables.patterns.entries (magnitude 32768 (shown_under 32768 tables.patterns.entries value.absolute.count)) in
    sent_back book asked width tables read finds text printed prints layered compact in_range
    ∙ ap exact_written (answers tables value finds.sound.rises)
    ∙ written_or (exponent_of entry == shown.exponent) (written_text tables shown.significand entry)

pub printed_is_written_again : CompactIsLayered → ExactIsLayered → ShownIsCompact → ShownFormIsInRange → ShownFormWritesSame → KeptMagnitudeUsesShownEntry → FlatTableUsesShownEntry → PrintedIsWrittenAgain
printed_is_written_again texts layered compact in_range same kept flat book asked width tables read text printed finds prints keeps =
    let value = number_shown asked read in
    let n : ℕ = value.absolute.count in
    let entries = tables.patterns.entries in
    let uses : UsesShownEntry 32768 entries n =
    ⊎_elim (λ u. u) (λ k. ⊎_elim (λ f. flat 32768 entries n finds.sound.rises f) (λ m. kept 32768 entries n m) k) keeps in
    sent_back book asked width tables read finds text printed prints layered compact in_range
    ∙ ap exact_written (same tables value finds.sound.rises uses)
    ∙ ap written (sym (texts tables value) ∙ (is_printed book asked width tables read finds text printed prints).front)
