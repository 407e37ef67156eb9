-- Readings of one text, one after another.
use Rattle.std.proofs.Common.{◌≡◌, Bool, true, false, cond, ◌&&◌, List, [], ◌∷◌, Option, None, Some, Result, Ok, Err, refl, ap, ◌∙◌}
use Rattle.std.specs.List.{list_all}
use Rattle.fixed_decimal.specs.Number.{Number}
use Rattle.fixed_decimal.specs.SignedValue.{SignedValue}
use Rattle.icu_decimal_reading.specs.DecimalOfText.{IsAnswered, PlainReading, decimal, not_written, unreadable}
use Rattle.icu_decimal_reading.specs.declared.error.ReadError.{ReadError}
use Rattle.icu_decimal_reading.specs.declared.error.ReadError.TheVariants.{Unreadable, NotWritten, Memory}
use Rattle.icu_dimension_lenient.specs.Agreement.{IsAdded, agreed_after, agreed_reading, is_no_other, own_or_agreed, unless_others}

-- a reading that is no other decimal
pub same_added : (v : SignedValue Number) (one : PlainReading) (rest : List PlainReading) → is_no_other v one ≡ true → agreed_after (Some v) (one ∷ rest) ≡ agreed_after (Some v) rest
same_added v one rest same = ap (λ b. cond (b && list_all (is_no_other v) rest) (decimal v) not_written) same

-- one that is
pub other_added : (v : SignedValue Number) (one : PlainReading) (rest : List PlainReading) → is_no_other v one ≡ false → agreed_after (Some v) (one ∷ rest) ≡ not_written
other_added v one rest other = ap (λ b. cond (b && list_all (is_no_other v) rest) (decimal v) not_written) other

-- the first decimal
pub first_added : (v : SignedValue Number) (one : PlainReading) (rest : List PlainReading) → one ≡ decimal v → agreed_after None (one ∷ rest) ≡ agreed_after (Some v) rest
first_added v one rest is = ap (λ r. agreed_reading (r ∷ rest)) is

pub none_added : (one : PlainReading) (rest : List PlainReading) → one ≡ not_written → agreed_after None (one ∷ rest) ≡ agreed_after None rest
none_added one rest none = ap (λ r. agreed_reading (r ∷ rest)) none

pub unread_added : (one : PlainReading) (rest : List PlainReading) → one ≡ unreadable → agreed_after None (one ∷ rest) ≡ unreadable
unread_added one rest broken = ap (λ r. agreed_reading (r ∷ rest)) broken

-- ---- what a call answers

-- what the rest answers
pub answered_after : (r : Result (SignedValue Number) ReadError) (found next : Option (SignedValue Number)) (one : PlainReading) (rest : List PlainReading)
    → IsAdded (Ok next) found one rest → IsAnswered r (agreed_after next rest) → IsAnswered r (agreed_after found (one ∷ rest))
answered_after (Ok v) found next one rest added answered = added ∙ answered
answered_after (Err Unreadable) found next one rest added answered = added ∙ answered
answered_after (Err NotWritten) found next one rest added answered = added ∙ answered
answered_after (Err Memory) found next one rest added answered = tt

-- and what none does
pub refused_after : (e : ReadError) (found : Option (SignedValue Number)) (one : PlainReading) (rest : List PlainReading) → IsAdded (Err e) found one rest → IsAnswered (Err e) (agreed_after found (one ∷ rest))
refused_after Unreadable found one rest added = added
refused_after NotWritten found one rest added = added
refused_after Memory found one rest added = tt

-- ---- with a reading that comes first

-- a decimal whose own the text is
pub own_stays : (is_own : SignedValue Number → Bool) (first : PlainReading) (others : List PlainReading) (v : SignedValue Number) → first ≡ decimal v → is_own v ≡ true → own_or_agreed is_own first others ≡ decimal v
own_stays is_own first others v is own = ap (λ r. own_or_agreed is_own r others) is ∙ ap (λ b. cond b (decimal v) (unless_others v others)) own

-- any other one
pub typed_stays : (is_own : SignedValue Number → Bool) (first : PlainReading) (others : List PlainReading) (v : SignedValue Number) → first ≡ decimal v → is_own v ≡ false
    → own_or_agreed is_own first others ≡ agreed_after (Some v) others
typed_stays is_own first others v is own = ap (λ r. own_or_agreed is_own r others) is ∙ ap (λ b. cond b (decimal v) (unless_others v others)) own

-- the first one has none
pub others_read : (is_own : SignedValue Number → Bool) (first : PlainReading) (others : List PlainReading) → first ≡ not_written → own_or_agreed is_own first others ≡ agreed_after None others
others_read is_own first others none = ap (λ r. own_or_agreed is_own r others) none

-- a call that answers so
pub answered_as : (r : Result (SignedValue Number) ReadError) (one other : PlainReading) → one ≡ other → IsAnswered r other → IsAnswered r one
answered_as (Ok v) one other same answered = same ∙ answered
answered_as (Err Unreadable) one other same answered = same ∙ answered
answered_as (Err NotWritten) one other same answered = same ∙ answered
answered_as (Err Memory) one other same answered = tt

-- one reading agrees with itself
pub one_agrees : (r : PlainReading) → agreed_reading (r ∷ []) ≡ r
one_agrees unreadable = refl
one_agrees not_written = refl
one_agrees (decimal v) = refl
