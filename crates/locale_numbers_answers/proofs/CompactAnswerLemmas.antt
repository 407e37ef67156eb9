-- The text of what a compact formatter writes, and of exact forms.
use Rattle.std.proofs.Common.{◌≡◌, Bool, false, cond, List, ℕ, nat_lt, None, Some, option_map, true, refl, sym, ap, ◌∙◌}
use Rattle.writeable.specs.AnnotatedText.{Event, text_of}
use Rattle.fixed_decimal.specs.CompactText.{CompactValue}
use Rattle.fixed_decimal.specs.Number.{Number}
use Rattle.fixed_decimal.specs.Rounding.{count_limit}
use Rattle.fixed_decimal.specs.SignedValue.{SignedValue}
use Rattle.icu_decimal.specs.CompactTables.{CompactTables}
use Rattle.icu_decimal.specs.ExactForms.{IsInRange, exact_place}
use Rattle.icu_decimal.specs.ShownChoice.{CanShow, shown_under}
pub use Rattle.icu_decimal.proofs.CompactTextLemmas.{compact_is_text as compact_is}
use Rattle.locale_numbers_answers.specs.AnswerLine.{refused, written}
use Rattle.locale_numbers_answers.specs.NumberAnswer.{exact_answer, exact_written, is_form_in_range}
use Rattle.locale_numbers_formatter.specs.ExactForms.{IsFormInRange, exact_format_text, exact_shown}
use Rattle.locale_numbers_formatter.specs.FormatParts.{exact_format_events}
use Rattle.locale_numbers_formatter.specs.FormatText.{FormatTables, compact_tables, digits_tables, plain_tables, scientific_tables, text_of_shown, unit_tables}
use Rattle.locale_numbers_formatter.specs.Laws.{ExactFormatIsText}
use Rattle.locale_numbers_formatter.specs.ShownOperands.{is_shown}
use Rattle.locale_numbers_requests.specs.declared.Refusal.TheVariants as refusal
use Rattle.std.proofs.lemmas.Bool.{false≢true, lt-ltb, ltb-true}

pub can_test : (t : CompactTables) (d : SignedValue Number) → CanShow t.patterns.entries d.absolute.count → is_shown (compact_tables t) d ≡ true
can_test t d can = lt-ltb (shown_under 32768 t.patterns.entries d.absolute.count) count_limit can.below

pub by_test : (b : Bool) (text other : List ℕ) → b ≡ true → text ≡ cond b text other
by_test true text other is = refl
by_test false text other is = absurd (cc)

-- the tests of forms
form_test : (f : FormatTables) (form : CompactValue) → IsFormInRange f form → is_form_in_range f form ≡ true
form_test (plain_tables t) form within = refl
form_test (compact_tables t) form within = lt-ltb (exact_place form.significand.absolute.count form.exponent) 65536 within
form_test (digits_tables t o) form within = lt-ltb (exact_place form.significand.absolute.count form.exponent) 65536 within
form_test (unit_tables u) form within = refl
form_test (scientific_tables s) form within = refl

-- a form that is not beyond the limits is within them
form_within : (f : FormatTables) (form : CompactValue) → ((IsFormInRange f form → ⊥) → ⊥) → is_form_in_range f form ≡ true
form_within f form never = at (is_form_in_range f form) refl
  where
    at : (b : Bool) → is_form_in_range f form ≡ b → b ≡ true
    at true is = refl
    at false is = absurd (never (λ within. false≢true (sym is ∙ form_test f form within)))

-- and one that is beyond them
place_fails : (form : CompactValue) → (IsInRange form.significand.absolute.count form.exponent → ⊥) → nat_lt (exact_place form.significand.absolute.count form.exponent) 65536 ≡ false
place_fails form beyond = at (nat_lt (exact_place form.significand.absolute.count form.exponent) 65536) refl
  where
    at : (b : Bool) → nat_lt (exact_place form.significand.absolute.count form.exponent) 65536 ≡ b → b ≡ false
    at true is = absurd (beyond (ltb-true (exact_place form.significand.absolute.count form.exponent) 65536 is))
    at false is = refl

form_fails : (f : FormatTables) (form : CompactValue) → (IsFormInRange f form → ⊥) → is_form_in_range f form ≡ false
form_fails (plain_tables t) form beyond = absurd (beyond tt)
form_fails (compact_tables t) form beyond = place_fails form beyond
form_fails (digits_tables t o) form beyond = place_fails form beyond
form_fails (unit_tables u) form beyond = absurd (beyond tt)
form_fails (scientific_tables s) form beyond = absurd (beyond tt)

by_failed : (b : Bool) (text other : List ℕ) → b ≡ false → other ≡ cond b text other
by_failed true text other is = absurd (cc)
by_failed false text other is = refl

-- the text of an exact form is the answer
pub exact_put : ExactFormatIsText → (f : FormatTables) (form : CompactValue) (events : List Event) → ((IsFormInRange f form → ⊥) → ⊥) → exact_format_events f form ≡ Some events
    → written (text_of events) ≡ exact_answer f form
exact_put texts f form events never is =
    ap exact_written (sym (texts f form ∙ ap (option_map text_of) is))
    ∙ by_test (is_form_in_range f form) (exact_written (exact_format_text f form)) (refused refusal.Range) (form_within f form never)

-- a form beyond the limits, and one with another exponent
pub beyond_put : (f : FormatTables) (form : CompactValue) → (IsFormInRange f form → ⊥) → refused refusal.Range ≡ exact_answer f form
beyond_put f form beyond = by_failed (is_form_in_range f form) (exact_written (exact_format_text f form)) (refused refusal.Range) (form_fails f form beyond)

pub other_put : (f : FormatTables) (form : CompactValue) → IsFormInRange f form → exact_shown f form ≡ None → refused refusal.Exponent ≡ exact_answer f form
other_put f form within none =
    ap (λ shown. exact_written (option_map text_of_shown shown)) (sym none)
    ∙ by_test (is_form_in_range f form) (exact_written (exact_format_text f form)) (refused refusal.Range) (form_test f form within)
