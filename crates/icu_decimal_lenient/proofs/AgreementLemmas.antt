-- What is read with second tables: what the first formatter writes, and else what both agree on.
use Rattle.std.proofs.Common.{◌≡◌, ◌⊎◌, inl, inr, ℕ, Bool, true, false, cond, ◌||◌, List, Result, Ok, Err, refl, sym, ap, ◌∙◌}
use Rattle.std.proofs.lemmas.Bool.{or_left, or_right}
use Rattle.std.specs.Cmp.Lexicographic.{bytes_decides}
use Rattle.fixed_decimal.specs.Number.{Number}
use Rattle.fixed_decimal.specs.SignedEquality.{are_equal_decimals}
use Rattle.fixed_decimal.specs.SignedValue.{SignedValue}
use Rattle.icu_decimal_symbols.specs.declared.options.GroupingStrategy.{GroupingStrategy}
use Rattle.icu_decimal_symbols.specs.declared.options.GroupingStrategy.TheVariants.{Auto, Never, Always, Min2, OnAligned}
use Rattle.icu_decimal_plain.specs.PlainText.{Tables, decimal_text}
use Rattle.icu_decimal_reading.specs.DecimalOfText.{IsAnswered, PlainReading, decimal, not_written, unreadable}
use Rattle.icu_decimal_reading.specs.PlainReading.{is_text_of, plain_reading}
use Rattle.icu_decimal_reading.specs.declared.error.ReadError.{ReadError}
use Rattle.icu_decimal_reading.specs.declared.error.ReadError.TheVariants.{Unreadable, NotWritten, Memory}
use Rattle.icu_decimal_lenient.specs.LenientLaws.{AmbiguousIsNotWritten, BothMiss, EachGroupingIsReadByBoth, ExactIsReadByBoth, SecondLeavesFirst, SecondReadsRest}
use Rattle.icu_decimal_lenient.specs.LenientReading.{HasNeither, IsAmbiguous, agreed, is_own_text, lenient_reading, reading_by_both, under, unless_other}
use Rattle.icu_decimal_reading.proofs.LawLemmas.{written_again}
use Rattle.icu_decimal_lenient.proofs.LenientLemmas.{each_grouping_is_lenient, exact_is_lenient, lenient_misses}

-- ---- what the formatter writes is its own

is_text : (t : Tables) (text : List ℕ) (v : SignedValue Number) → decimal_text t v ≡ text → is_text_of t text v ≡ true
is_text t text v written = (bytes_decides (decimal_text t v) text).1 written

-- a text of two groupings, and of three
abbrev by_two : Tables → List ℕ → SignedValue Number → Bool
by_two t text v = is_text_of (under Min2 t) text v || is_text_of (under OnAligned t) text v

abbrev by_three : Tables → List ℕ → SignedValue Number → Bool
by_three t text v = is_text_of (under Always t) text v || by_two t text v

of_three : (t : Tables) (text : List ℕ) (v : SignedValue Number) → by_three t text v ≡ true → is_own_text t text v ≡ true
of_three t text v is = or_right (is_text_of (under Never t) text v) (by_three t text v) is

of_two : (t : Tables) (text : List ℕ) (v : SignedValue Number) → by_two t text v ≡ true → is_own_text t text v ≡ true
of_two t text v is = of_three t text v (or_right (is_text_of (under Always t) text v) (by_two t text v) is)

as_always : (t : Tables) (text : List ℕ) (v : SignedValue Number) → decimal_text (under Always t) v ≡ text → is_own_text t text v ≡ true
as_always t text v written =
    of_three t text v (or_left (is_text_of (under Always t) text v) (by_two t text v) (is_text (under Always t) text v written))

pub own_under : (t : Tables) (strategy : GroupingStrategy) (text : List ℕ) (v : SignedValue Number) → decimal_text (under strategy t) v ≡ text → is_own_text t text v ≡ true
own_under t Auto text v written = as_always t text v written
own_under t Never text v written = or_left (is_text_of (under Never t) text v) (by_three t text v) (is_text (under Never t) text v written)
own_under t Always text v written = as_always t text v written
own_under t Min2 text v written =
    of_two t text v (or_left (is_text_of (under Min2 t) text v) (is_text_of (under OnAligned t) text v) (is_text (under Min2 t) text v written))
own_under t OnAligned text v written =
    of_two t text v (or_right (is_text_of (under Min2 t) text v) (is_text_of (under OnAligned t) text v) (is_text (under OnAligned t) text v written))

-- ---- two readings

-- a decimal whose own the text is
pub own_agrees : (is_own : SignedValue Number → Bool) (first other : PlainReading) (v : SignedValue Number) → first ≡ decimal v → is_own v ≡ true → agreed is_own first other ≡ decimal v
own_agrees is_own first other v is own = ap (λ r. agreed is_own r other) is ∙ ap (λ b. cond b (decimal v) (unless_other v other)) own

-- any other one
pub typed_agrees : (is_own : SignedValue Number → Bool) (first other : PlainReading) (v : SignedValue Number) → first ≡ decimal v → is_own v ≡ false → agreed is_own first other ≡ unless_other v other
typed_agrees is_own first other v is own = ap (λ r. agreed is_own r other) is ∙ ap (λ b. cond b (decimal v) (unless_other v other)) own

-- the first one has none
pub none_agrees : (is_own : SignedValue Number → Bool) (first other : PlainReading) → first ≡ not_written → agreed is_own first other ≡ other
none_agrees is_own first other none = ap (λ r. agreed is_own r other) none

same_stays : (v : SignedValue Number) (r : PlainReading) → ((w : SignedValue Number) → r ≡ decimal w → are_equal_decimals v w ≡ true) → unless_other v r ≡ decimal v
same_stays v unreadable same = refl
same_stays v not_written same = refl
same_stays v (decimal w) same = ap (λ b. cond b (decimal v) not_written) (same w refl)

either_way : (own : Bool) (v : SignedValue Number) (r : PlainReading) → r ≡ decimal v → cond own (decimal v) r ≡ decimal v
either_way true v r is = refl
either_way false v r is = is

-- ---- the laws

owns_text : (t other : Tables) (strategy : GroupingStrategy) (text : List ℕ) (v : SignedValue Number) → lenient_reading t text ≡ decimal v → plain_reading (under strategy t) text ≡ decimal v → reading_by_both t other text ≡ decimal v
owns_text t other strategy text v is exact =
    own_agrees (λ w. is_own_text t text w) (lenient_reading t text) (lenient_reading other text) v is (own_under t strategy text v (written_again (under strategy t) text v exact))

pub exact_by_both : ExactIsReadByBoth
exact_by_both t other text v exact = owns_text t other t.strategy text v (exact_is_lenient t text v exact) exact

pub each_grouping_by_both : EachGroupingIsReadByBoth
each_grouping_by_both t other strategy text v are utf8 readable exact =
    owns_text t other strategy text v (each_grouping_is_lenient t strategy text v are utf8 readable exact) exact

pub second_leaves_first : SecondLeavesFirst
second_leaves_first t other text v is same =
    ap (λ r. agreed (λ w. is_own_text t text w) r (lenient_reading other text)) is
    ∙ either_way (is_own_text t text v) v (unless_other v (lenient_reading other text)) (same_stays v (lenient_reading other text) same)

pub second_reads_rest : SecondReadsRest
second_reads_rest t other text none = none_agrees (λ w. is_own_text t text w) (lenient_reading t text) (lenient_reading other text) none

pub ambiguous_is_not_written : AmbiguousIsNotWritten
ambiguous_is_not_written t other text is =
    typed_agrees (λ w. is_own_text t text w) (lenient_reading t text) (lenient_reading other text) is.one is.first is.typed
    ∙ ap (unless_other is.one) is.second
    ∙ ap (λ b. cond b (decimal is.one) not_written) is.differ

-- ---- and what an answer of both means

no_decimal : (v : SignedValue Number) → decimal v ≡ not_written → ⊥
no_decimal v e = cc

unreadable_apart : unreadable ≡ not_written → ⊥
unreadable_apart e = cc

pub both_none : (t other : Tables) (text : List ℕ) (one two : PlainReading) → lenient_reading t text ≡ one → lenient_reading other text ≡ two → agreed (λ v. is_own_text t text v) one two ≡ not_written
    → ((lenient_reading t text ≡ not_written) × (lenient_reading other text ≡ not_written)) ⊎ IsAmbiguous t other text
both_none t other text unreadable two first second e = absurd (unreadable_apart e)
both_none t other text not_written two first second e = inl (first, second ∙ e)
both_none t other text (decimal v) two first second e = by (is_own_text t text v) two refl second e
  where
    differs : (w : SignedValue Number) (same : Bool) → is_own_text t text v ≡ false → lenient_reading other text ≡ decimal w → are_equal_decimals v w ≡ same → cond same (decimal v) not_written ≡ not_written
        → IsAmbiguous t other text
    differs w true typed is equal e = absurd (no_decimal v e)
    differs w false typed is equal e = record { one = v; two = w; first = first; second = is; typed = typed; differ = equal }

    by : (own : Bool) (r : PlainReading) → is_own_text t text v ≡ own → lenient_reading other text ≡ r → cond own (decimal v) (unless_other v r) ≡ not_written
        → ((lenient_reading t text ≡ not_written) × (lenient_reading other text ≡ not_written)) ⊎ IsAmbiguous t other text
    by true r own is e = absurd (no_decimal v e)
    by false unreadable own is e = absurd (no_decimal v e)
    by false not_written own is e = absurd (no_decimal v e)
    by false (decimal w) own is e = inr (differs w (are_equal_decimals v w) own is refl e)

pub both_miss : BothMiss
both_miss t other text are others utf8 e = by (both_none t other text (lenient_reading t text) (lenient_reading other text) refl refl e)
  where
    by : ((lenient_reading t text ≡ not_written) × (lenient_reading other text ≡ not_written)) ⊎ IsAmbiguous t other text → HasNeither t other text ⊎ IsAmbiguous t other text
    by (inl none) = inl (lenient_misses t text are utf8 none.0, lenient_misses other text others utf8 none.1)
    by (inr is) = inr is

from_unless : (v w : SignedValue Number) (r : PlainReading) → unless_other v r ≡ decimal w → decimal v ≡ decimal w
from_unless v w unreadable e = e
from_unless v w not_written e = e
from_unless v w (decimal u) e = by (are_equal_decimals v u) e
  where
    by : (same : Bool) → cond same (decimal v) not_written ≡ decimal w → decimal v ≡ decimal w
    by true e = e
    by false e = absurd (no_decimal w (sym e))

from_own : (own : Bool) (v w : SignedValue Number) (r : PlainReading) → cond own (decimal v) (unless_other v r) ≡ decimal w → decimal v ≡ decimal w
from_own true v w r e = e
from_own false v w r e = from_unless v w r e

-- a decimal that is answered is one that the first or the second one reads
pub from_agreed : (is_own : SignedValue Number → Bool) (w : SignedValue Number) (first other : PlainReading) → agreed is_own first other ≡ decimal w → (first ≡ decimal w) ⊎ (other ≡ decimal w)
from_agreed is_own w unreadable other e = inl e
from_agreed is_own w not_written other e = inr e
from_agreed is_own w (decimal v) other e = inl (from_own (is_own v) v w other e)

-- ---- what a call answers

-- what is answered where the second readings do not differ
pub answered_unless : (v : SignedValue Number) (r : Result (SignedValue Number) ReadError) (first other : PlainReading) (is_own : SignedValue Number → Bool) → first ≡ decimal v → is_own v ≡ false
    → IsAnswered r (unless_other v other) → IsAnswered r (agreed is_own first other)
answered_unless v (Ok w) first other is_own is own answered = typed_agrees is_own first other v is own ∙ answered
answered_unless v (Err Unreadable) first other is_own is own answered = typed_agrees is_own first other v is own ∙ answered
answered_unless v (Err NotWritten) first other is_own is own answered = typed_agrees is_own first other v is own ∙ answered
answered_unless v (Err Memory) first other is_own is own answered = tt

-- the first one has none
pub answered_other : (r : Result (SignedValue Number) ReadError) (first other : PlainReading) (is_own : SignedValue Number → Bool) → first ≡ not_written → IsAnswered r other
    → IsAnswered r (agreed is_own first other)
answered_other (Ok w) first other is_own none answered = none_agrees is_own first other none ∙ answered
answered_other (Err Unreadable) first other is_own none answered = none_agrees is_own first other none ∙ answered
answered_other (Err NotWritten) first other is_own none answered = none_agrees is_own first other none ∙ answered
answered_other (Err Memory) first other is_own none answered = tt
