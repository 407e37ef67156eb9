-- What a call answers that reads native digits, and when it asks for memory.
use Rattle.std.proofs.Common.{◌≡◌, ◌⊎◌, inl, inr, ℕ, Bool, true, false, cond, List, None, Some, Result, Ok, Err, IfOk, IsErrOf, refl, sym, subst, ◌∙◌}
use Rattle.std.proofs.lemmas.Bool.{false≢true}
use Rattle.std.specs.Str.{IsUtf8}
use Rattle.fixed_decimal.specs.Number.{Number}
use Rattle.fixed_decimal.specs.SignedValue.{SignedValue}
use Rattle.icu_decimal_plain.specs.PlainText.{Tables}
use Rattle.icu_decimal_reading.specs.DecimalOfText.{IsAnswered, PlainReading, decimal, not_written, unreadable}
use Rattle.icu_decimal_reading.specs.PlainReading.{plain_reading}
use Rattle.icu_decimal_reading.specs.ReadingLaws.{AreTables}
use Rattle.icu_decimal_reading.specs.declared.error.ReadError.{ReadError}
use Rattle.icu_decimal_reading.specs.declared.error.ReadError.TheVariants.{Unreadable, NotWritten}
use Rattle.icu_decimal_lenient.specs.Folding.{folded_symbols, folded_text}
use Rattle.icu_decimal_lenient.specs.LenientReading.{IsAmbiguous, IsUnreadable, MayAllocate, folded_reading, is_leniently_readable_by, is_own_text, lenient_reading, or_else, read_folded, reading_by_both}
use Rattle.icu_decimal_lenient.specs.Native.{arabic_text, has_arabic_digits, native_text}
use Rattle.icu_decimal_lenient.specs.TypedReading.{HasNoNumberByBoth, HasNoNumberTyped, IsTypedNumber, by_option, typed_by_both, typed_reading}
use Rattle.icu_decimal_reading.proofs.LawLemmas.{written_again}
use Rattle.icu_decimal_lenient.proofs.AgreementLemmas.{both_none, own_under}
use Rattle.icu_decimal_lenient.proofs.LenientLemmas.{apart_decimal}
use Rattle.icu_decimal_lenient.proofs.LenientStepLemmas.{answered_none, answered_unread}
use Rattle.icu_decimal_lenient.proofs.TypedLemmas.{both_are_numbers, both_never, none_readable, readable_never, typed_both_miss, typed_is_number, typed_is_unreadable, typed_misses, typed_never}

-- ---- in ASCII

-- a text with them, in ASCII
pub spelled_again : (r : Result (SignedValue Number) ReadError) (read arabic : List ℕ → PlainReading) (text native : List ℕ) → Some native ≡ native_text text
    → IsAnswered r (or_else (read native) (by_option arabic (cond (has_arabic_digits text) (Some native) None)))
    → IsAnswered r (or_else (by_option read (native_text text)) (by_option arabic (arabic_text text)))
spelled_again r read arabic text native is answered =
    subst (λ o. IsAnswered r (or_else (by_option read o) (by_option arabic (cond (has_arabic_digits text) o None)))) is answered

-- ---- memory

unread_allocates : (t : Tables) (text : List ℕ) → lenient_reading t text ≡ not_written → MayAllocate t text
unread_allocates t text e = inr (none_readable t text e)

pub one_allocates : (t : Tables) (text : List ℕ) → MayAllocate t text ⊎ (lenient_reading t text ≡ not_written) → MayAllocate t text
one_allocates t text (inl may) = may
one_allocates t text (inr none) = unread_allocates t text none

-- a text that the formatter does not write, and is a decimal once it is folded
typed_allocates : (t : Tables) (text : List ℕ) (v : SignedValue Number) → lenient_reading t text ≡ decimal v → is_own_text t text v ≡ false → MayAllocate t text
typed_allocates t text v e typed = by (plain_reading t text) refl e
  where
    readable : (b : Bool) → is_leniently_readable_by t ≡ b → cond b (read_folded (folded_symbols t) (folded_text t.digits text)) unreadable ≡ decimal v → is_leniently_readable_by t ≡ true
    readable true is e = is
    readable false is e = absurd (apart_decimal v (sym e))

    by : (r : PlainReading) → plain_reading t text ≡ r → or_else r (folded_reading t text) ≡ decimal v → MayAllocate t text
    by unreadable is e = absurd (apart_decimal v (sym e))
    by not_written is e = inr (readable (is_leniently_readable_by t) refl e, is)
    by (decimal w) is e = absurd (false≢true (sym typed ∙ own_under t t.strategy text v (written_again t text v (is ∙ e))))

pub both_allocate : (t other : Tables) (text : List ℕ) → (MayAllocate t text ⊎ MayAllocate other text) ⊎ (reading_by_both t other text ≡ not_written) → MayAllocate t text ⊎ MayAllocate other text
both_allocate t other text (inl may) = may
both_allocate t other text (inr none) = by (both_none t other text (lenient_reading t text) (lenient_reading other text) refl refl none)
  where
    by : ((lenient_reading t text ≡ not_written) × (lenient_reading other text ≡ not_written)) ⊎ IsAmbiguous t other text → MayAllocate t text ⊎ MayAllocate other text
    by (inl e) = inl (unread_allocates t text e.0)
    by (inr is) = inl (typed_allocates t text is.one is.first is.typed)

-- ---- what an answer means

pub answered_number : (t : Tables) (text : List ℕ) (r : Result (SignedValue Number) ReadError) → AreTables t → IsAnswered r (typed_reading t text) → IfOk r (λ v. IsTypedNumber t text v)
answered_number t text (Ok v) are answered = typed_is_number t text v are answered
answered_number t text (Err e) are answered = tt

pub answered_no_number : (t : Tables) (text : List ℕ) (r : Result (SignedValue Number) ReadError) → AreTables t → IsUtf8 text → IsAnswered r (typed_reading t text) → IsErrOf r NotWritten → HasNoNumberTyped t text
answered_no_number t text r are utf8 answered is = typed_misses t text are utf8 (answered_none r (typed_reading t text) answered is)

pub answered_no_typing : (t : Tables) (text : List ℕ) (r : Result (SignedValue Number) ReadError) → IsAnswered r (typed_reading t text) → IsErrOf r Unreadable → IsUnreadable t text
answered_no_typing t text r answered is = (typed_is_unreadable t text).0 (answered_unread r (typed_reading t text) answered is)

-- by tables that can be read leniently
pub answered_readable : (t : Tables) (text : List ℕ) (r : Result (SignedValue Number) ReadError) → is_leniently_readable_by t ≡ true → IsAnswered r (typed_reading t text) → IsErrOf r Unreadable → ⊥
answered_readable t text r readable answered is = typed_never (lenient_reading t) t text (λ some. readable_never t some readable) (answered_unread r (typed_reading t text) answered is)

pub answered_both_readable : (t other : Tables) (text : List ℕ) (r : Result (SignedValue Number) ReadError) → is_leniently_readable_by t ≡ true → is_leniently_readable_by other ≡ true
    → IsAnswered r (typed_by_both t other text) → IsErrOf r Unreadable → ⊥
answered_both_readable t other text r one two answered is = both_never t other text one two (answered_unread r (typed_by_both t other text) answered is)

pub answered_by_one : (t other : Tables) (text : List ℕ) (r : Result (SignedValue Number) ReadError) → AreTables t → AreTables other → IsAnswered r (typed_by_both t other text)
    → IfOk r (λ v. IsTypedNumber t text v ⊎ IsTypedNumber other text v)
answered_by_one t other text (Ok v) are others answered = both_are_numbers t other text v are others answered
answered_by_one t other text (Err e) are others answered = tt

pub answered_by_none : (t other : Tables) (text : List ℕ) (r : Result (SignedValue Number) ReadError) → AreTables t → AreTables other → IsUtf8 text → IsAnswered r (typed_by_both t other text)
    → IsErrOf r NotWritten → HasNoNumberByBoth t other text
answered_by_none t other text r are others utf8 answered is = typed_both_miss t other text are others utf8 (answered_none r (typed_by_both t other text) answered is)
