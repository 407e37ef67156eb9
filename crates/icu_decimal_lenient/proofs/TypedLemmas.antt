-- What is read with native digits is a text of the decimal, and what is not is one of none.
use Rattle.std.proofs.Common.{◌≡◌, ◌⊎◌, inl, inr, ℕ, Bool, true, false, not, cond, List, Option, None, Some, refl, sym, ap, ◌∙◌}
use Rattle.std.proofs.lemmas.Bool.{and_parts, false≢true}
use Rattle.std.specs.Str.{IsUtf8}
use Rattle.fixed_decimal.specs.Number.{Number}
use Rattle.fixed_decimal.specs.SignedEquality.{are_equal_decimals}
use Rattle.fixed_decimal.specs.SignedValue.{SignedValue}
use Rattle.icu_decimal_symbols.specs.declared.options.GroupingStrategy.TheVariants.{Never}
use Rattle.icu_decimal_plain.specs.PlainText.{Tables}
use Rattle.icu_decimal_reading.specs.DecimalOfText.{PlainReading, decimal, not_written, unreadable}
use Rattle.icu_decimal_reading.specs.PlainReading.{plain_reading}
use Rattle.icu_decimal_reading.specs.ReadingLaws.{AreTables}
use Rattle.icu_decimal_reading.specs.Readable.{is_readable_by}
use Rattle.icu_decimal_lenient.specs.Folding.{folded_symbols, folded_text}
use Rattle.icu_decimal_lenient.specs.LenientReading.{HasNoTyped, IsUnreadable, agreed, folded_reading, is_leniently_readable_by, is_own_text, lenient_reading, or_else, read_folded, reading_by_both, unless_other, with_folded}
use Rattle.icu_decimal_lenient.specs.Native.{arabic_text, has_arabic_digits, has_arabic_separator, native_text}
use Rattle.icu_decimal_lenient.specs.TypedLaws.{ArabicIsRead, BothAreNumbers, BothAreTypedSo, LenientIsTypedSo, NativeIsAscii, NativeIsAsciiByBoth, OnlyArabicDiffers, OthersStay, TypedBothMiss, TypedIsNumber, TypedIsUnreadable, TypedMisses}
use Rattle.icu_decimal_lenient.specs.TypedReading.{IsArabicText, IsTypedNumber, arabic_reading, arabic_tables, by_option, takes_arabic, typed_by, typed_by_both}
use Rattle.icu_decimal_lenient.proofs.AgreementLemmas.{both_miss, from_agreed}
use Rattle.icu_decimal_lenient.proofs.NativeLemmas.{are_arabic, arabic_native, native_utf8}
use Rattle.icu_decimal_lenient.proofs.LenientLemmas.{apart_decimal, apart_written, else_readable, from_else, lenient_is_typed, lenient_is_unreadable, lenient_misses, none_cond, none_else}

-- ---- the three tries

-- the first reading can't be told
pub unreadable_first : (first second : PlainReading) → first ≡ unreadable → or_else first second ≡ unreadable
unreadable_first first second is = ap (λ r. or_else r second) is

-- a text with no native digits
pub no_native : (read arabic : List ℕ → PlainReading) (text : List ℕ) → None ≡ native_text text → or_else (by_option read (native_text text)) (by_option arabic (arabic_text text)) ≡ not_written
no_native read arabic text none =
    ap (λ o. or_else (by_option read o) (by_option arabic (cond (has_arabic_digits text) o None))) (sym none) ∙ neither (has_arabic_digits text)
  where
    neither : (b : Bool) → by_option arabic (cond b None None) ≡ not_written
    neither true = refl
    neither false = refl

-- ---- what is read is a text of the decimal

no_decimal : (v : SignedValue Number) → not_written ≡ decimal v → ⊥
no_decimal v e = cc

from_option : (read : List ℕ → PlainReading) (o : Option (List ℕ)) (v : SignedValue Number) → by_option read o ≡ decimal v → (native : List ℕ) × (o ≡ Some native) × (read native ≡ decimal v)
from_option read None v e = absurd (no_decimal v e)
from_option read (Some native) v e = (native, refl, e)

pub from_takes : (b : Bool) (r : PlainReading) (v : SignedValue Number) → cond b r not_written ≡ decimal v → (b ≡ true) × (r ≡ decimal v)
from_takes true r v e = (refl, e)
from_takes false r v e = absurd (no_decimal v e)

-- by the three tries
pub from_tries : (read arabic : List ℕ → PlainReading) (text : List ℕ) (v : SignedValue Number) → typed_by read arabic text ≡ decimal v
    → (read text ≡ decimal v)
    ⊎ (((native : List ℕ) × (native_text text ≡ Some native) × (read native ≡ decimal v))
    ⊎ ((native : List ℕ) × (arabic_text text ≡ Some native) × (arabic native ≡ decimal v)))
from_tries read arabic text v e = by (from_else v (read text) (or_else (by_option read (native_text text)) (by_option arabic (arabic_text text))) e)
  where
    last : (by_option read (native_text text) ≡ decimal v) ⊎ (by_option arabic (arabic_text text) ≡ decimal v)
        → ((native : List ℕ) × (native_text text ≡ Some native) × (read native ≡ decimal v))
        ⊎ ((native : List ℕ) × (arabic_text text ≡ Some native) × (arabic native ≡ decimal v))
    last (inl is) = inl (from_option read (native_text text) v is)
    last (inr is) = inr (from_option arabic (arabic_text text) v is)

    by : (read text ≡ decimal v) ⊎ (or_else (by_option read (native_text text)) (by_option arabic (arabic_text text)) ≡ decimal v)
        → (read text ≡ decimal v)
        ⊎ (((native : List ℕ) × (native_text text ≡ Some native) × (read native ≡ decimal v))
        ⊎ ((native : List ℕ) × (arabic_text text ≡ Some native) × (arabic native ≡ decimal v)))
    by (inl is) = inl is
    by (inr is) = inr (last (from_else v (by_option read (native_text text)) (by_option arabic (arabic_text text)) is))

from_arabic : (t : Tables) (text : List ℕ) (v : SignedValue Number) → AreTables t
    → (native : List ℕ) × (arabic_text text ≡ Some native) × (arabic_reading t native ≡ decimal v) → IsArabicText t text v
from_arabic t text v are found =
    let parts = from_takes (takes_arabic t) (lenient_reading (arabic_tables t) found.0) v found.2 in
    record { native = found.0; spelled = found.1; takes = parts.0; typed = lenient_is_typed (arabic_tables t) found.0 v (are_arabic t are) parts.1 }

pub typed_is_number : TypedIsNumber
typed_is_number t text v are e = by (from_tries (lenient_reading t) (arabic_reading t) text v e)
  where
    by : (lenient_reading t text ≡ decimal v)
        ⊎ (((native : List ℕ) × (native_text text ≡ Some native) × (lenient_reading t native ≡ decimal v))
        ⊎ ((native : List ℕ) × (arabic_text text ≡ Some native) × (arabic_reading t native ≡ decimal v)))
        → IsTypedNumber t text v
    by (inl is) = inl (lenient_is_typed t text v are is)
    by (inr (inl found)) = inr (inl (record { native = found.0; spelled = found.1; typed = lenient_is_typed t found.0 v are found.2 }))
    by (inr (inr found)) = inr (inr (from_arabic t text v are found))

-- ---- and what is not read is not one

-- none of the three tries
none_tries : (read arabic : List ℕ → PlainReading) (text : List ℕ) → typed_by read arabic text ≡ not_written
    → (read text ≡ not_written) × (by_option read (native_text text) ≡ not_written) × (by_option arabic (arabic_text text) ≡ not_written)
none_tries read arabic text e =
    let first = none_else (read text) (or_else (by_option read (native_text text)) (by_option arabic (arabic_text text))) e in
    let rest = none_else (by_option read (native_text text)) (by_option arabic (arabic_text text)) first.1 in
    (first.0, rest.0, rest.1)

of_option : (read : List ℕ → PlainReading) (o : Option (List ℕ)) (native : List ℕ) → o ≡ Some native → by_option read o ≡ not_written → read native ≡ not_written
of_option read o native is e = sym (ap (by_option read) is) ∙ e

of_arabic : (t : Tables) (text native : List ℕ) → AreTables t → IsUtf8 text → arabic_text text ≡ Some native → takes_arabic t ≡ true
    → by_option (arabic_reading t) (arabic_text text) ≡ not_written → HasNoTyped (arabic_tables t) native
of_arabic t text native are utf8 spelled takes e =
    lenient_misses (arabic_tables t) native (are_arabic t are) (native_utf8 text native utf8 (arabic_native text native spelled))
    (sym (ap (λ b. cond b (lenient_reading (arabic_tables t) native) not_written) takes) ∙ of_option (arabic_reading t) (arabic_text text) native spelled e)

pub typed_misses : TypedMisses
typed_misses t text are utf8 e v = by
  where
    tries : (lenient_reading t text ≡ not_written) × (by_option (lenient_reading t) (native_text text) ≡ not_written) × (by_option (arabic_reading t) (arabic_text text) ≡ not_written)
    tries = none_tries (lenient_reading t) (arabic_reading t) text e

    by : IsTypedNumber t text v → ⊥
    by (inl typed) = lenient_misses t text are utf8 tries.0 v typed
    by (inr (inl is)) =
        lenient_misses t is.native are (native_utf8 text is.native utf8 is.spelled)
        (of_option (lenient_reading t) (native_text text) is.native is.spelled tries.1) v is.typed
    by (inr (inr is)) = of_arabic t text is.native are utf8 is.spelled is.takes tries.2 v is.typed

-- ---- unreadable

pub readable_never : (t : Tables) (text : List ℕ) → is_leniently_readable_by t ≡ true → lenient_reading t text ≡ unreadable → ⊥
readable_never t text readable e = by ((lenient_is_unreadable t text).0 e)
  where
    by : IsUnreadable t text → ⊥
    by (inl lacks) = false≢true (sym lacks ∙ (and_parts (is_readable_by t) (is_readable_by (with_folded Never (folded_symbols t))) readable).0)
    by (inr lacks) = false≢true (sym lacks.0 ∙ readable)

arabic_never : (t : Tables) (text : List ℕ) → arabic_reading t text ≡ unreadable → ⊥
arabic_never t text e = by (takes_arabic t) refl e
  where
    by : (b : Bool) → takes_arabic t ≡ b → cond b (lenient_reading (arabic_tables t) text) not_written ≡ unreadable → ⊥
    by true takes e = readable_never (arabic_tables t) text (and_parts (not (has_arabic_separator t.symbols.strings)) (is_leniently_readable_by (arabic_tables t)) takes).1 e
    by false takes e = absurd (apart_written e)

option_never : (read : List ℕ → PlainReading) (o : Option (List ℕ)) → ((text : List ℕ) → read text ≡ unreadable → ⊥) → by_option read o ≡ unreadable → ⊥
option_never read None never e = apart_written e
option_never read (Some text) never e = never text e

-- where the first try is never unreadable, none is
pub typed_never : (read : List ℕ → PlainReading) (t : Tables) (text : List ℕ) → ((text : List ℕ) → read text ≡ unreadable → ⊥) → typed_by read (arabic_reading t) text ≡ unreadable → ⊥
typed_never read t text never =
    else_readable (read text) (or_else (by_option read (native_text text)) (by_option (arabic_reading t) (arabic_text text))) (never text)
    (else_readable (by_option read (native_text text)) (by_option (arabic_reading t) (arabic_text text)) (option_never read (native_text text) never)
    (option_never (arabic_reading t) (arabic_text text) (arabic_never t)))

-- a text that is no number is one that the symbols tell
pub none_readable : (t : Tables) (text : List ℕ) → lenient_reading t text ≡ not_written → (is_leniently_readable_by t ≡ true) × (plain_reading t text ≡ not_written)
none_readable t text e =
    let parts = none_else (plain_reading t text) (folded_reading t text) e in
    ((none_cond (is_leniently_readable_by t) (read_folded (folded_symbols t) (folded_text t.digits text)) parts.1).0, parts.0)

pub typed_is_unreadable : TypedIsUnreadable
typed_is_unreadable t text = (λ e. by (lenient_reading t text) refl e, λ is. unreadable_first (lenient_reading t text) _ ((lenient_is_unreadable t text).1 is))
  where
    rest : PlainReading
    rest = or_else (by_option (lenient_reading t) (native_text text)) (by_option (arabic_reading t) (arabic_text text))

    by : (r : PlainReading) → lenient_reading t text ≡ r → or_else r rest ≡ unreadable → IsUnreadable t text
    by unreadable is e = (lenient_is_unreadable t text).0 is
    by not_written is e = absurd (typed_never (lenient_reading t) t text (λ other. readable_never t other (none_readable t text is).0) (ap (λ r. or_else r rest) is ∙ e))
    by (decimal v) is e = absurd (apart_decimal v e)

-- ---- with second tables

agreed_never : (is_own : SignedValue Number → Bool) (first other : PlainReading) → (first ≡ unreadable → ⊥) → (other ≡ unreadable → ⊥) → agreed is_own first other ≡ unreadable → ⊥
agreed_never is_own unreadable other one two e = one refl
agreed_never is_own not_written other one two e = two e
agreed_never is_own (decimal v) other one two e = own (is_own v) other e
  where
    differ : (w : SignedValue Number) (b : Bool) → cond b (decimal v) not_written ≡ unreadable → ⊥
    differ w true e = apart_decimal v e
    differ w false e = apart_written e

    own : (b : Bool) (r : PlainReading) → cond b (decimal v) (unless_other v r) ≡ unreadable → ⊥
    own true r e = apart_decimal v e
    own false unreadable e = apart_decimal v e
    own false not_written e = apart_decimal v e
    own false (decimal w) e = differ w (are_equal_decimals v w) e

pub both_never : (t other : Tables) (text : List ℕ) → is_leniently_readable_by t ≡ true → is_leniently_readable_by other ≡ true → typed_by_both t other text ≡ unreadable → ⊥
both_never t other text one two =
    typed_never (reading_by_both t other) t text
    (λ some. agreed_never (λ v. is_own_text t some v) (lenient_reading t some) (lenient_reading other some) (readable_never t some one) (readable_never other some two))

pub both_are_numbers : BothAreNumbers
both_are_numbers t other text v are others e = by (from_tries (reading_by_both t other) (arabic_reading t) text v e)
  where
    native : (found : (native : List ℕ) × (native_text text ≡ Some native) × (reading_by_both t other native ≡ decimal v))
        → (lenient_reading t found.0 ≡ decimal v) ⊎ (lenient_reading other found.0 ≡ decimal v) → IsTypedNumber t text v ⊎ IsTypedNumber other text v
    native found (inl is) = inl (inr (inl (record { native = found.0; spelled = found.1; typed = lenient_is_typed t found.0 v are is })))
    native found (inr is) = inr (inr (inl (record { native = found.0; spelled = found.1; typed = lenient_is_typed other found.0 v others is })))

    typed : (lenient_reading t text ≡ decimal v) ⊎ (lenient_reading other text ≡ decimal v) → IsTypedNumber t text v ⊎ IsTypedNumber other text v
    typed (inl is) = inl (inl (lenient_is_typed t text v are is))
    typed (inr is) = inr (inl (lenient_is_typed other text v others is))

    by : (reading_by_both t other text ≡ decimal v)
        ⊎ (((native : List ℕ) × (native_text text ≡ Some native) × (reading_by_both t other native ≡ decimal v))
        ⊎ ((native : List ℕ) × (arabic_text text ≡ Some native) × (arabic_reading t native ≡ decimal v)))
        → IsTypedNumber t text v ⊎ IsTypedNumber other text v
    by (inl is) = typed (from_agreed (λ w. is_own_text t text w) v (lenient_reading t text) (lenient_reading other text) is)
    by (inr (inl found)) = native found (from_agreed (λ w. is_own_text t found.0 w) v (lenient_reading t found.0) (lenient_reading other found.0) found.2)
    by (inr (inr found)) = inl (inr (inr (from_arabic t text v are found)))

pub typed_both_miss : TypedBothMiss
typed_both_miss t other text are others utf8 e =
    let tries = none_tries (reading_by_both t other) (arabic_reading t) text e in
    record {
      typed = both_miss t other text are others utf8 tries.0;
      native = λ ascii is. both_miss t other ascii are others (native_utf8 text ascii utf8 is) (of_option (reading_by_both t other) (native_text text) ascii is tries.1);
      arabic = λ ascii is takes. of_arabic t text ascii are utf8 is takes tries.2;
    }

-- ---- the laws

-- what is read as it is
pub typed_first : (read arabic : List ℕ → PlainReading) (text : List ℕ) (v : SignedValue Number) → read text ≡ decimal v → typed_by read arabic text ≡ decimal v
typed_first read arabic text v e = ap (λ r. or_else r (or_else (by_option read (native_text text)) (by_option arabic (arabic_text text)))) e

else_nothing : (r : PlainReading) → or_else r not_written ≡ r
else_nothing unreadable = refl
else_nothing not_written = refl
else_nothing (decimal v) = refl

-- a text without native digits
pub typed_others : (read arabic : List ℕ → PlainReading) (text : List ℕ) → native_text text ≡ None → typed_by read arabic text ≡ read text
typed_others read arabic text none = ap (or_else (read text)) (no_native read arabic text (sym none)) ∙ else_nothing (read text)

-- a text in ASCII, where it is no number as it is
in_ascii_is : (read arabic : List ℕ → PlainReading) (text native : List ℕ) → native_text text ≡ Some native → read text ≡ not_written → typed_by read arabic text ≡ or_else (read native) (by_option arabic (arabic_text text))
in_ascii_is read arabic text native is none =
    ap (λ r. or_else r (or_else (by_option read (native_text text)) (by_option arabic (arabic_text text)))) none
    ∙ ap (λ o. or_else (by_option read o) (by_option arabic (arabic_text text))) is

pub typed_in_ascii : (read arabic : List ℕ → PlainReading) (text native : List ℕ) (v : SignedValue Number) → native_text text ≡ Some native → read text ≡ not_written → read native ≡ decimal v
    → typed_by read arabic text ≡ decimal v
typed_in_ascii read arabic text native v is none e = in_ascii_is read arabic text native is none ∙ ap (λ r. or_else r (by_option arabic (arabic_text text))) e

-- one whose digits are not Arabic
pub typed_unless_arabic : (read arabic : List ℕ → PlainReading) (text native : List ℕ) → native_text text ≡ Some native → has_arabic_digits text ≡ false → read text ≡ not_written
    → typed_by read arabic text ≡ read native
typed_unless_arabic read arabic text native is others none =
    in_ascii_is read arabic text native is none
    ∙ ap (λ b. or_else (read native) (by_option arabic (cond b (native_text text) None))) others
    ∙ else_nothing (read native)

-- one whose digits are, where it is no number in ASCII
pub typed_arabic : (read arabic : List ℕ → PlainReading) (text native : List ℕ) (v : SignedValue Number) → arabic_text text ≡ Some native → read text ≡ not_written → read native ≡ not_written
    → arabic native ≡ decimal v → typed_by read arabic text ≡ decimal v
typed_arabic read arabic text native v is none plain e =
    in_ascii_is read arabic text native (arabic_native text native is) none
    ∙ ap (λ r. or_else r (by_option arabic (arabic_text text))) plain
    ∙ ap (by_option arabic) is
    ∙ e

pub lenient_is_typed_so : LenientIsTypedSo
lenient_is_typed_so t text v e = typed_first (lenient_reading t) (arabic_reading t) text v e

pub both_are_typed_so : BothAreTypedSo
both_are_typed_so t other text v e = typed_first (reading_by_both t other) (arabic_reading t) text v e

pub others_stay : OthersStay
others_stay t text none = typed_others (lenient_reading t) (arabic_reading t) text none

pub native_is_ascii : NativeIsAscii
native_is_ascii t text native v is none e = typed_in_ascii (lenient_reading t) (arabic_reading t) text native v is none e

pub native_is_ascii_by_both : NativeIsAsciiByBoth
native_is_ascii_by_both t other text native v is none e = typed_in_ascii (reading_by_both t other) (arabic_reading t) text native v is none e

pub only_arabic_differs : OnlyArabicDiffers
only_arabic_differs t text native is others none = typed_unless_arabic (lenient_reading t) (arabic_reading t) text native is others none

pub arabic_is_read : ArabicIsRead
arabic_is_read t text native v is none plain e = typed_arabic (lenient_reading t) (arabic_reading t) text native v is none plain e
