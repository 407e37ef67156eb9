-- What is read of texts with a unit that people type: `specs/TypedUnits.antt`.
use Rattle.std.proofs.Common.{◌≡◌, ◌⊎◌, inl, inr, ℕ, Bool, true, false, cond, List, [], ◌∷◌, Option, Some, None, Result, is_some, refl, sym, ap, subst, ◌∙◌}
use Rattle.std.proofs.lemmas.Bool.{false≢true}
use Rattle.fixed_decimal.specs.Number.{Number}
use Rattle.fixed_decimal.specs.SignedValue.{SignedValue}
use Rattle.icu_decimal.specs.LenientReading.{or_else}
use Rattle.icu_decimal.specs.PlainReading.{IsAnswered, PlainReading, decimal, not_written, unreadable}
use Rattle.icu_decimal.specs.Native.{arabic_text, native_text}
use Rattle.icu_decimal.specs.TypedReading.{by_option, typed_by}
use Rattle.icu_decimal.specs.declared.error.ReadError.{ReadError}
use Rattle.icu_decimal.specs.declared.options.GroupingStrategy.{GroupingStrategy}
use Rattle.icu_decimal_lenient.proofs.LenientLemmas.{none_else}
use Rattle.icu_decimal_lenient.proofs.LenientStepLemmas.{answered_second}
use Rattle.icu_decimal_lenient.proofs.TypedLemmas.{typed_first, typed_in_ascii, typed_others}
use Rattle.icu_dimension_affixes.specs.UnitReading.{HasManyBetween}
use Rattle.icu_dimension_lenient.specs.Agreement.{agreed_after, own_or_agreed, unless_others}
use Rattle.icu_dimension_lenient.specs.LenientUnits.{FoldedUnit}
use Rattle.icu_dimension_lenient.specs.OwnUnitTexts.{is_own_unit_text, reader_under}
use Rattle.icu_dimension_lenient.proofs.OwnUnitLemmas.{own_under}
use Rattle.icu_dimension_lenient.proofs.AgreementSteps.{answered_as, one_agrees, others_read, own_stays, typed_stays}
use Rattle.locale_numbers_formatter.specs.TypedUnits.{MayAllocateTyped, MayAllocateTypedBy, MayAllocateTypedInTurn, TypedInTurn, TypedTexts, arabic_unit_by, lenient_unit_reading, typed_unit_by, unit_reading_by, unit_reading_in_turn}
use Rattle.locale_numbers_formatter.specs.OwnUnitLaws.{OtherUnitsInTurnStay, OwnUnitTextIsFirsts, UnitInTurnIsAscii, UnitInTurnIsNativeSo}
use Rattle.icu_dimension_lenient.specs.UnitReadings.{unit_reading}
use Rattle.icu_dimension_lenient.proofs.UnitReadingsLemmas.{own_when_read, unit_written_again}

-- ---- one reader

-- what the formatter writes
pub exactly_read : (a : TypedTexts) (text : List ℕ) (v : SignedValue Number) → unit_reading a.reader text ≡ decimal v → lenient_unit_reading a text ≡ decimal v
unfolding lenient_unit_reading
exactly_read a text v is = ap (λ reading. or_else reading (typed_unit_by a.reader.tables a.folded text)) is

-- where the symbols do not tell
pub exactly_unread : (a : TypedTexts) (text : List ℕ) → unit_reading a.reader text ≡ unreadable → lenient_unit_reading a text ≡ unreadable
unfolding lenient_unit_reading
exactly_unread a text broken = ap (λ reading. or_else reading (typed_unit_by a.reader.tables a.folded text)) broken

-- any other text
typed_is : (a : TypedTexts) (text : List ℕ) (r : PlainReading) → unit_reading a.reader text ≡ not_written → typed_unit_by a.reader.tables a.folded text ≡ r → lenient_unit_reading a text ≡ r
unfolding lenient_unit_reading
typed_is a text r none is = ap (λ reading. or_else reading (typed_unit_by a.reader.tables a.folded text)) none ∙ is

pub typed_read : (a : TypedTexts) (text : List ℕ) (answer : Result (SignedValue Number) ReadError) → unit_reading a.reader text ≡ not_written → IsAnswered answer (typed_unit_by a.reader.tables a.folded text)
    → IsAnswered answer (lenient_unit_reading a text)
unfolding lenient_unit_reading
typed_read a text answer none answered = answered_second answer (unit_reading a.reader text) (typed_unit_by a.reader.tables a.folded text) none answered

-- ---- and another one

-- what the first one reads exactly, the second one leaves
pub read_exactly : (first : TypedTexts) (second : Option TypedTexts) (text : List ℕ) (value : SignedValue Number)
    → unit_reading first.reader text ≡ decimal value → unit_reading_by first second text ≡ decimal value
read_exactly first None text value is = exactly_read first text value is
read_exactly first (Some second) text value is =
    own_stays (λ v. is_own_unit_text first.reader text v) (lenient_unit_reading first text) (lenient_unit_reading second text ∷ []) value (exactly_read first text value is)
    (own_when_read first.reader text value is)

-- and so where the first one does not tell
unread_by : (first second : TypedTexts) (text : List ℕ) → lenient_unit_reading first text ≡ unreadable → unit_reading_by first (Some second) text ≡ unreadable
unread_by first second text broken = ap (λ reading. own_or_agreed (λ v. is_own_unit_text first.reader text v) reading (lenient_unit_reading second text ∷ [])) broken

pub unread_exactly : (first second : TypedTexts) (text : List ℕ) → unit_reading first.reader text ≡ unreadable → unit_reading_by first (Some second) text ≡ unreadable
unread_exactly first second text broken = unread_by first second text (exactly_unread first text broken)

pub unread_typed : (first second : TypedTexts) (text : List ℕ)
    → unit_reading first.reader text ≡ not_written → typed_unit_by first.reader.tables first.folded text ≡ unreadable → unit_reading_by first (Some second) text ≡ unreadable
unread_typed first second text none broken = unread_by first second text (typed_is first text unreadable none broken)

-- what it reads leniently, and writes so under another grouping
pub read_own : (value : SignedValue Number) (first second : TypedTexts) (text : List ℕ)
    → unit_reading first.reader text ≡ not_written → typed_unit_by first.reader.tables first.folded text ≡ decimal value → true ≡ is_own_unit_text first.reader text value
    → unit_reading_by first (Some second) text ≡ decimal value
read_own value first second text none is own =
    own_stays (λ v. is_own_unit_text first.reader text v) (lenient_unit_reading first text) (lenient_unit_reading second text ∷ []) value (typed_is first text (decimal value) none is) (sym own)

-- what it reads leniently, and does not write so, is what the second one does not read otherwise
pub read_unless : (value : SignedValue Number) (answer : Result (SignedValue Number) ReadError) (first second : TypedTexts) (text : List ℕ)
    → unit_reading first.reader text ≡ not_written → typed_unit_by first.reader.tables first.folded text ≡ decimal value → false ≡ is_own_unit_text first.reader text value
    → IsAnswered answer (agreed_after (Some value) (lenient_unit_reading second text ∷ []))
    → IsAnswered answer (unit_reading_by first (Some second) text)
read_unless value answer first second text none is own answered =
    answered_as answer (unit_reading_by first (Some second) text) (agreed_after (Some value) (lenient_unit_reading second text ∷ []))
    (typed_stays (λ v. is_own_unit_text first.reader text v) (lenient_unit_reading first text) (lenient_unit_reading second text ∷ []) value (typed_is first text (decimal value) none is) (sym own)) answered

-- a text that is no number by the first one is what it is by the second one
pub read_other : (answer : Result (SignedValue Number) ReadError) (first second : TypedTexts) (text : List ℕ)
    → unit_reading first.reader text ≡ not_written → typed_unit_by first.reader.tables first.folded text ≡ not_written → IsAnswered answer (lenient_unit_reading second text)
    → IsAnswered answer (unit_reading_by first (Some second) text)
read_other answer first second text none nothing answered =
    answered_as answer (unit_reading_by first (Some second) text) (lenient_unit_reading second text)
    (others_read (λ v. is_own_unit_text first.reader text v) (lenient_unit_reading first text) (lenient_unit_reading second text ∷ []) (typed_is first text not_written none nothing)
    ∙ one_agrees (lenient_unit_reading second text)) answered

-- ---- memory

pub exactly_allocates : (a : TypedTexts) (text : List ℕ) → HasManyBetween a.reader text → MayAllocateTyped a text
exactly_allocates a text many = inl many

pub typed_allocates : (a : TypedTexts) (text : List ℕ) → unit_reading a.reader text ≡ not_written → is_some a.folded ≡ true → MayAllocateTyped a text
typed_allocates a text none folded = inr (folded, none)

pub both_allocate : (first : TypedTexts) (found : Option TypedTexts) (second : TypedTexts) (text : List ℕ) → found ≡ Some second
    → MayAllocateTyped first text ⊎ MayAllocateTyped second text → MayAllocateTypedBy first found text
both_allocate first found second text is may = subst (λ t. MayAllocateTypedBy first t text) (sym is) may

-- a text that is no number is one that the formatter does not write
folded_there : (a : TypedTexts) (text : List ℕ) (r : PlainReading) → typed_unit_by a.reader.tables a.folded text ≡ r → (r ≡ unreadable → ⊥) → is_some a.folded ≡ true
folded_there a text r is can = by a.folded is
  where
    by : (folded : Option FoldedUnit) → typed_unit_by a.reader.tables folded text ≡ r → is_some folded ≡ true
    by None is = absurd (can (sym is))
    by (Some folded) is = refl

apart_read : (v : SignedValue Number) → decimal v ≡ unreadable → ⊥
apart_read v e = cc

apart_missing : not_written ≡ unreadable → ⊥
apart_missing e = cc

apart_none : (v : SignedValue Number) → decimal v ≡ not_written → ⊥
apart_none v e = cc

none_allocates : (a : TypedTexts) (text : List ℕ) → lenient_unit_reading a text ≡ not_written → MayAllocateTyped a text
unfolding lenient_unit_reading
none_allocates a text e =
    let parts = none_else (unit_reading a.reader text) (typed_unit_by a.reader.tables a.folded text) e in
    typed_allocates a text parts.0 (folded_there a text not_written parts.1 apart_missing)

-- and so is one that is a number, and not its own
other_allocates : (a : TypedTexts) (text : List ℕ) (v : SignedValue Number) → lenient_unit_reading a text ≡ decimal v → is_own_unit_text a.reader text v ≡ false → MayAllocateTyped a text
unfolding lenient_unit_reading
other_allocates a text v e other = by (unit_reading a.reader text) refl e
  where
    by : (r : PlainReading) → unit_reading a.reader text ≡ r → or_else r (typed_unit_by a.reader.tables a.folded text) ≡ decimal v → MayAllocateTyped a text
    by unreadable is e = absurd (apart_read v (sym e))
    by not_written is e = typed_allocates a text is (folded_there a text (decimal v) e (apart_read v))
    by (decimal w) is e = absurd (false≢true (sym other ∙ own_when_read a.reader text v (is ∙ e)))

pub unread_allocates : (first : TypedTexts) (second : Option TypedTexts) (text : List ℕ) → unit_reading_by first second text ≡ not_written → MayAllocateTypedBy first second text
unread_allocates first None text none = none_allocates first text none
unread_allocates first (Some second) text none = inl (by (lenient_unit_reading first text) refl none)
  where
    others : List PlainReading
    others = lenient_unit_reading second text ∷ []

    own : SignedValue Number → Bool
    own v = is_own_unit_text first.reader text v

    by : (r : PlainReading) → lenient_unit_reading first text ≡ r → own_or_agreed own r others ≡ not_written → MayAllocateTyped first text
    by unreadable is e = absurd (apart_missing (sym e))
    by not_written is e = none_allocates first text is
    by (decimal v) is e = at (own v) refl e
      where
        at : (b : Bool) → own v ≡ b → cond b (decimal v) (unless_others v others) ≡ not_written → MayAllocateTyped first text
        at true mine e = absurd (apart_none v e)
        at false other e = other_allocates first text v is other

-- ---- native digits

abbrev as_it_is : TypedInTurn → List ℕ → PlainReading
as_it_is readers text = unit_reading_by readers.first readers.second text

abbrev with_arabic : TypedInTurn → List ℕ → PlainReading
with_arabic readers text = arabic_unit_by readers.first.reader.tables readers.first.folded text

pub in_turn_answers : (readers : TypedInTurn) (text : List ℕ) (r : Result (SignedValue Number) ReadError) → IsAnswered r (typed_by (as_it_is readers) (with_arabic readers) text)
    → IsAnswered r (unit_reading_in_turn readers text)
unfolding unit_reading_in_turn
in_turn_answers readers text r answered = answered

pub in_turn_allocates : (readers : TypedInTurn) (text : List ℕ) → MayAllocateTypedInTurn readers text ⊎ (as_it_is readers text ≡ not_written) → MayAllocateTypedInTurn readers text
in_turn_allocates readers text (inl may) = may
in_turn_allocates readers text (inr none) = unread_allocates readers.first readers.second text none

pub in_turn_first : UnitInTurnIsNativeSo
unfolding unit_reading_in_turn
in_turn_first readers text v is = typed_first (as_it_is readers) (with_arabic readers) text v is

pub in_turn_others : OtherUnitsInTurnStay
unfolding unit_reading_in_turn
in_turn_others readers text none = typed_others (as_it_is readers) (with_arabic readers) text none

pub in_turn_in_ascii : UnitInTurnIsAscii
unfolding unit_reading_in_turn
in_turn_in_ascii readers text native v is none e = typed_in_ascii (as_it_is readers) (with_arabic readers) text native v is none e

-- readers that read alike as it is, and with the separators of Arabic digits
option_same : (one two : List ℕ → PlainReading) → ((text : List ℕ) → one text ≡ two text) → (o : Option (List ℕ)) → by_option one o ≡ by_option two o
option_same one two same None = refl
option_same one two same (Some text) = same text

pub in_turn_same : (one two : TypedInTurn) → ((text : List ℕ) → unit_reading_by one.first one.second text ≡ unit_reading_by two.first two.second text)
    → ((text : List ℕ) → arabic_unit_by one.first.reader.tables one.first.folded text ≡ arabic_unit_by two.first.reader.tables two.first.folded text)
    → (text : List ℕ) → unit_reading_in_turn one text ≡ unit_reading_in_turn two text
unfolding unit_reading_in_turn
in_turn_same one two same arabic text =
    ap (λ r. or_else r (or_else (by_option (as_it_is one) (native_text text)) (by_option (with_arabic one) (arabic_text text)))) (same text)
    ∙ ap (λ r. or_else (as_it_is two text) (or_else r (by_option (with_arabic one) (arabic_text text)))) (option_same (as_it_is one) (as_it_is two) same (native_text text))
    ∙ ap (λ r. or_else (as_it_is two text) (or_else (by_option (as_it_is two) (native_text text)) r)) (option_same (with_arabic one) (with_arabic two) arabic (arabic_text text))

-- what the first one's formatter writes under any grouping, and reads so, is its own
own_by : (first : TypedTexts) (second : Option TypedTexts) (grouping : GroupingStrategy) (text : List ℕ) (v : SignedValue Number) → unit_reading (reader_under grouping first.reader) text ≡ decimal v
    → lenient_unit_reading first text ≡ decimal v → unit_reading_by first second text ≡ decimal v
own_by first None grouping text v own is = is
own_by first (Some second) grouping text v own is =
    own_stays (λ w. is_own_unit_text first.reader text w) (lenient_unit_reading first text) (lenient_unit_reading second text ∷ []) v is
    (own_under first.reader grouping text v (unit_written_again (reader_under grouping first.reader) text v own))

pub own_unit_text_is_firsts : OwnUnitTextIsFirsts
own_unit_text_is_firsts readers grouping text v own is = in_turn_first readers text v (own_by readers.first readers.second grouping text v own is)
