-- What a call answers that reads a text in several ways.
use Rattle.std.proofs.Common.{◌≡◌, inl, ℕ, Bool, true, false, cond, List, Option, None, Some, Result, Ok, Err, IfOk, IsErrOf, refl, sym, ap, ◌∙◌}
use Rattle.std.proofs.lemmas.Bool.{and_parts, false≢true}
use Rattle.std.specs.Str.{IsUtf8}
use Rattle.fixed_decimal.specs.Number.{Number}
use Rattle.fixed_decimal.specs.SignedValue.{SignedValue}
use Rattle.icu_decimal_symbols.specs.declared.options.GroupingStrategy.TheVariants.{Never}
use Rattle.icu_decimal_symbols.specs.Symbols.{Symbols}
use Rattle.icu_decimal_plain.specs.PlainText.{Tables}
use Rattle.icu_decimal_reading.specs.DecimalOfText.{IsAnswered, PlainReading, decimal, not_written, unreadable}
use Rattle.icu_decimal_lenient.specs.LenientReading.{AreKept, HasNoTyped, IsTypedText, folded_reading, is_leniently_readable_by, lenient_reading, or_else, read_folded, with_folded}
use Rattle.icu_decimal_lenient.specs.Folding.{folded_symbols, folded_text}
use Rattle.icu_decimal_lenient.specs.KeptFolds.{folds_of}
use Rattle.icu_decimal_reading.specs.Readable.{all_differ, is_readable_by}
use Rattle.icu_decimal_reading.specs.ReadingLaws.{AreTables}
use Rattle.icu_decimal_reading.specs.declared.error.ReadError.{ReadError}
use Rattle.icu_decimal_reading.specs.declared.error.ReadError.TheVariants.{Unreadable, NotWritten, Memory}
use Rattle.icu_decimal_reading.proofs.ReadingLemmas.{digits_differ as exact_digits}
use Rattle.icu_decimal_lenient.proofs.LenientLemmas.{lenient_is_typed, lenient_is_unreadable, lenient_misses}

-- the first one is a decimal
pub answered_first : (v : SignedValue Number) (first second : PlainReading) → first ≡ decimal v → or_else first second ≡ decimal v
answered_first v first second is = ap (λ r. or_else r second) is

-- the first one has none
pub answered_second : (r : Result (SignedValue Number) ReadError) (first second : PlainReading) → first ≡ not_written → IsAnswered r second → IsAnswered r (or_else first second)
answered_second (Ok v) first second none answered = ap (λ p. or_else p second) none ∙ answered
answered_second (Err Unreadable) first second none answered = ap (λ p. or_else p second) none ∙ answered
answered_second (Err NotWritten) first second none answered = ap (λ p. or_else p second) none ∙ answered
answered_second (Err Memory) first second none answered = tt

-- ---- what is kept

pub digits_differ : (t : Tables) → true ≡ is_leniently_readable_by t → all_differ t.digits ≡ true
digits_differ t readable = exact_digits t (and_parts (is_readable_by t) (is_readable_by (with_folded Never (folded_symbols t))) (sym readable)).0

pub are_kept : (t : Tables) (folded : Symbols) → true ≡ is_leniently_readable_by t → folded ≡ folded_symbols t → AreKept t folded
are_kept t folded readable is = record { readable = sym readable; folds = is }

pub kept_readable : (t : Tables) (folded : Symbols) → AreKept t folded → is_readable_by (with_folded Never folded) ≡ true
kept_readable t folded kept =
    ap (λ s. is_readable_by (with_folded Never s)) kept.folds ∙ (and_parts (is_readable_by t) (is_readable_by (with_folded Never (folded_symbols t))) kept.readable).1

pub unreadable_reading : (t : Tables) (text : List ℕ) → is_leniently_readable_by t ≡ false → folded_reading t text ≡ unreadable
unreadable_reading t text lacks = ap (λ b. cond b (read_folded (folded_symbols t) (folded_text t.digits text)) unreadable) lacks

-- the digits of tables whose fold is kept
pub kept_differ : (t : Tables) (folded : Symbols) → AreKept t folded → all_differ t.digits ≡ true
kept_differ t folded kept = digits_differ t (sym kept.readable)

-- what is kept where a test holds
abbrev symbols_or : Symbols → Option Symbols → Symbols
symbols_or other None = other
symbols_or other (Some folded) = folded

some_kept : (b : Bool) (folded fold : Symbols) → Some folded ≡ cond b (Some fold) None → (b ≡ true) × (folded ≡ fold)
some_kept true folded fold e = (refl, ap (symbols_or folded) e)
some_kept false folded fold e = absurd (none_some e)
  where
    none_some : Some folded ≡ None → ⊥
    none_some e = cc

pub folds_kept : (t : Tables) (folded : Symbols) → Some folded ≡ (folds_of t).symbols → AreKept t folded
folds_kept t folded e =
    let parts = some_kept (is_leniently_readable_by t) folded (folded_symbols t) e in
    record { readable = parts.0; folds = parts.1 }

none_kept : (b : Bool) (fold : Symbols) → None ≡ cond b (Some fold) None → b ≡ false
none_kept true fold e = absurd (none_some e)
  where
    none_some : None ≡ Some fold → ⊥
    none_some e = cc
none_kept false fold e = refl

pub no_folds_kept : (t : Tables) (text : List ℕ) → None ≡ (folds_of t).symbols → folded_reading t text ≡ unreadable
no_folds_kept t text e = unreadable_reading t text (none_kept (is_leniently_readable_by t) (folded_symbols t) e)

pub folds_readable : (t : Tables) (folded : Symbols) → Some folded ≡ (folds_of t).symbols → is_leniently_readable_by t ≡ true
folds_readable t folded e = (folds_kept t folded e).readable

-- symbols that are not readable
pub lacks_reading : (t : Tables) (text : List ℕ) → false ≡ is_readable_by t → lenient_reading t text ≡ unreadable
lacks_reading t text lacks = (lenient_is_unreadable t text).1 (inl (sym lacks))

-- ---- what an answer means

is_missing : Result (SignedValue Number) ReadError → Bool
is_missing (Ok v) = false
is_missing (Err Unreadable) = false
is_missing (Err NotWritten) = true
is_missing (Err Memory) = false

pub answered_none : (r : Result (SignedValue Number) ReadError) (reading : PlainReading) → IsAnswered r reading → IsErrOf r NotWritten → reading ≡ not_written
unfolding is_missing
answered_none (Ok v) reading answered is = absurd (false≢true (ap is_missing is))
answered_none (Err Unreadable) reading answered is = absurd (false≢true (ap is_missing is))
answered_none (Err Memory) reading answered is = absurd (false≢true (ap is_missing is))
answered_none (Err NotWritten) reading answered is = answered

is_refused : Result (SignedValue Number) ReadError → Bool
is_refused (Ok v) = false
is_refused (Err Unreadable) = true
is_refused (Err NotWritten) = false
is_refused (Err Memory) = false

pub answered_unread : (r : Result (SignedValue Number) ReadError) (reading : PlainReading) → IsAnswered r reading → IsErrOf r Unreadable → reading ≡ unreadable
unfolding is_refused
answered_unread (Ok v) reading answered is = absurd (false≢true (ap is_refused is))
answered_unread (Err NotWritten) reading answered is = absurd (false≢true (ap is_refused is))
answered_unread (Err Memory) reading answered is = absurd (false≢true (ap is_refused is))
answered_unread (Err Unreadable) reading answered is = answered

pub answered_typed : (t : Tables) (text : List ℕ) (r : Result (SignedValue Number) ReadError) → AreTables t → IsAnswered r (lenient_reading t text) → IfOk r (λ v. IsTypedText t text v)
answered_typed t text (Ok v) are answered = lenient_is_typed t text v are answered
answered_typed t text (Err e) are answered = tt

pub answered_no_typed : (t : Tables) (text : List ℕ) (r : Result (SignedValue Number) ReadError) → AreTables t → IsUtf8 text → IsAnswered r (lenient_reading t text) → IsErrOf r NotWritten → HasNoTyped t text
answered_no_typed t text r are utf8 answered is = lenient_misses t text are utf8 (answered_none r (lenient_reading t text) answered is)
