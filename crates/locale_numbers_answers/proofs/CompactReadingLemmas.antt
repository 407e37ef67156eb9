-- What the relations say of a compact text is what the function answers, and each text has one reading.
use Rattle.std.proofs.Common.{◌≡◌, ◌==◌, ◌||◌, ◌&&◌, ◌<◌, nat_lt, Bool, true, false, cond, not, List, [], ◌∷◌, ◌++◌, ℕ, Option, Some, None, refl, sym, ap, ◌∙◌, subst, arith, inl, inr, ◌⊎◌, Result, Ok, Err, IfOk}
use Rattle.std.specs.List.{list_all}
use Rattle.std.proofs.lemmas.Bool.{le-ltb, lt-ltb, ltb-false, ltb-true}
use Rattle.std.proofs.lemmas.Bool.Decides.{nat_tests}
use Rattle.fixed_decimal.specs.CompactText.{CompactValue, IsBeyondCompact, IsNoCompactText, PassesExponent, ReadsCompact, SpellsCompact, StartsNoZero, after_compact_mark}
use Rattle.fixed_decimal.specs.NumberText.{AreDigits, capital_mark, digit_zero, small_mark, spelled}
use Rattle.fixed_decimal.specs.PlainParts.{StartsWithMark}
use Rattle.fixed_decimal.specs.PlainText.{HasNoMark, MarksExponent, compact_mark}
use Rattle.fixed_decimal.specs.SignedText.{IsBeyondSigned, IsNoSignedText}
use Rattle.fixed_decimal.proofs.CompactTextLemmas.{found_compact}
use Rattle.locale_numbers_answers.specs.CompactReading.{CompactReading, before_mark, compact_beyond, compact_nothing, compact_number, compact_reading_by, compact_reading_of, exponent_in, from_mark, marks_exponent, with_exponent}
use Rattle.locale_numbers_answers.specs.Laws.{HasOneCompactReading, IsCompactReading, IsReading}
use Rattle.locale_numbers_answers.specs.NumberReading.{Reading, beyond, is_digit, nothing, number, reading_of}
use Rattle.locale_numbers_requests.specs.RoundingField.{is_size}
use Rattle.locale_numbers_answers.proofs.LawsLemmas.{reading_is}
use Rattle.locale_numbers_answers.proofs.NumberReadingLemmas.{signed_beyond, signed_nothing, signed_number}
use Rattle.locale_numbers_answers.proofs.PartsLemmas.{all_digits, digits_all}

-- ---- the front and the rest

marked : (c : ℕ) → marks_exponent c ≡ true → MarksExponent c
marked c is = at (c == compact_mark) (c == small_mark) (c == capital_mark) refl refl refl is
  where
    at : (a b d : Bool) → (c == compact_mark) ≡ a → (c == small_mark) ≡ b → (c == capital_mark) ≡ d → (a || (b || d)) ≡ true → MarksExponent c
    at true b d first second third is = inl (grind (arith, nat_tests))
    at false true d first second third is = inr (inl (grind (arith, nat_tests)))
    at false false true first second third is = inr (inr (grind (arith, nat_tests)))
    at false false false first second third is = absurd (cc)

unmarked : (c : ℕ) → marks_exponent c ≡ false → ¬ (MarksExponent c)
unmarked c is (inl compact) = grind (arith, nat_tests)
unmarked c is (inr (inl small)) = grind (arith, nat_tests)
unmarked c is (inr (inr capital)) = grind (arith, nat_tests)

mark_whole : (text : List ℕ) → text ≡ before_mark text ++ from_mark text
mark_whole [] = refl
mark_whole (c ∷ cs) = at (marks_exponent c) (mark_whole cs)
  where
    at : (b : Bool) → cs ≡ before_mark cs ++ from_mark cs → c ∷ cs ≡ cond b [] (c ∷ before_mark cs) ++ cond b (c ∷ cs) (from_mark cs)
    at true rest = refl
    at false rest = ap (λ x. c ∷ x) rest

mark_plain : (text : List ℕ) → HasNoMark (before_mark text)
mark_plain [] = tt
mark_plain (c ∷ cs) = at (marks_exponent c) refl (mark_plain cs)
  where
    at : (b : Bool) → marks_exponent c ≡ b → HasNoMark (before_mark cs) → HasNoMark (cond b [] (c ∷ before_mark cs))
    at true is rest = tt
    at false is rest = (unmarked c is, rest)

mark_rest : (text : List ℕ) → StartsWithMark (from_mark text)
mark_rest [] = tt
mark_rest (c ∷ cs) = at (marks_exponent c) refl (mark_rest cs)
  where
    at : (b : Bool) → marks_exponent c ≡ b → StartsWithMark (from_mark cs) → StartsWithMark (cond b (c ∷ cs) (from_mark cs))
    at true is rest = marked c is
    at false is rest = rest

-- the front and the digits that spell a text are those that the function finds
agree : (text front digits : List ℕ) → SpellsCompact text front digits → (before_mark text ≡ front) × (from_mark text ≡ after_compact_mark digits)
agree text front digits spells =
    found_compact text (before_mark text) (from_mark text) (mark_whole text) (mark_plain text) (mark_rest text) front digits spells

-- ---- the exponent

size_is : (d : ℕ) (ds : List ℕ) → AreDigits (d ∷ ds) → ¬ (d ≡ digit_zero) → is_size (d ∷ ds) ≡ true
size_is d ds digits first =
    let other : (d == digit_zero) ≡ false = grind (arith, nat_tests) in
    rw (other, digits_all (d ∷ ds) digits) refl

exponent_is : (digits : List ℕ) → AreDigits digits → StartsNoZero digits → exponent_in (after_compact_mark digits) ≡ Some digits
exponent_is [] digits first = refl
exponent_is (d ∷ ds) digits first = rw (size_is d ds digits first) refl

-- digits that are a size
record AreSize (digits : List ℕ) : Type 0 where
  some : (d : ℕ) × (ds : List ℕ) × (digits ≡ d ∷ ds)
  all : AreDigits digits
  first : StartsNoZero digits

size_shown : (digits : List ℕ) → is_size digits ≡ true → AreSize digits
size_shown [] is = absurd (cc)
size_shown (d ∷ ds) is = at (d == digit_zero) (list_all is_digit (d ∷ ds)) refl refl is
  where
    at : (a b : Bool) → (d == digit_zero) ≡ a → list_all is_digit (d ∷ ds) ≡ b → (not a && b) ≡ true → AreSize (d ∷ ds)
    at true b first all is = absurd (cc)
    at false true first all is = record { some = (d, ds, refl); all = all_digits (d ∷ ds) all; first = λ zero. absurd (grind (arith, nat_tests)) }
    at false false first all is = absurd (cc)

-- where an exponent is found, the text is a front and these digits
spells_of : (text rest digits : List ℕ) → from_mark text ≡ rest → exponent_in rest ≡ Some digits → SpellsCompact text (before_mark text) digits
spells_of text [] digits rest found =
    let none : [] ≡ digits = cc in
    subst (λ ds. SpellsCompact text (before_mark text) ds) none
    (record { whole = mark_whole text ∙ ap (λ r. before_mark text ++ r) rest; plain = mark_plain text; are_digits = tt; first = tt })
spells_of text (mark ∷ tail) digits rest found = at (mark == compact_mark) (is_size tail) refl refl found
  where
    at : (a b : Bool) → (mark == compact_mark) ≡ a → is_size tail ≡ b → cond (a && b) (Some tail) None ≡ Some digits → SpellsCompact text (before_mark text) digits
    at true true first size found =
        let same : tail ≡ digits = cc in
        let is : mark ≡ compact_mark = grind (arith, nat_tests) in
        let sized = size_shown tail size in
        subst (λ ds. SpellsCompact text (before_mark text) ds) same
        (record {
          whole = mark_whole text ∙ ap (λ r. before_mark text ++ r) (rest ∙ ap (λ m. m ∷ tail) is ∙ ap (λ t. compact_mark ∷ t) (sized.some.2) ∙ sym (ap after_compact_mark sized.some.2));
          plain = mark_plain text;
          are_digits = sized.all;
          first = sized.first;
        })
    at true false first size found = absurd (cc)
    at false b first size found = absurd (cc)

-- ---- the function answers what the relations say

reading_by_parts : (text front digits : List ℕ) → SpellsCompact text front digits → compact_reading_of text ≡ with_exponent (reading_of front) digits
reading_by_parts text front digits spells =
    let same = agree text front digits spells in
    ap (λ f. compact_reading_by f (exponent_in (from_mark text))) same.0
    ∙ ap (λ r. compact_reading_by front (exponent_in r)) same.1
    ∙ ap (compact_reading_by front) (exponent_is digits spells.are_digits spells.first)

pub reads_compact : (text : List ℕ) (v : CompactValue) → ReadsCompact text v → compact_reading_of text ≡ compact_number v
reads_compact text v read =
    let within : nat_lt (spelled read.digits) 256 ≡ true = lt-ltb (spelled read.digits) 256 (subst (λ x. x < 256) read.exponent read.fits) in
    reading_by_parts text read.front read.digits read.spells
    ∙ ap (λ r. with_exponent r read.digits) (signed_number read.front v.significand read.significand)
    ∙ ap (λ b. cond b (compact_number (record { significand = v.significand; exponent = spelled read.digits })) compact_beyond) within
    ∙ ap (λ x. compact_number (record { significand = v.significand; exponent = x })) (sym read.exponent)

pub reads_compact_beyond : (text : List ℕ) → IsBeyondCompact text → compact_reading_of text ≡ compact_beyond
reads_compact_beyond text read = reading_by_parts text read.front read.digits read.spells ∙ at read.beyond
  where
    at : IsBeyondSigned read.front ⊎ PassesExponent read.front read.digits → with_exponent (reading_of read.front) read.digits ≡ compact_beyond
    at (inl past) = ap (λ r. with_exponent r read.digits) (signed_beyond read.front past)
    at (inr passes) =
        ap (λ r. with_exponent r read.digits) (signed_number read.front passes.number passes.reads)
        ∙ ap (λ b. cond b (compact_number (record { significand = passes.number; exponent = spelled read.digits })) compact_beyond) (le-ltb (spelled read.digits) 256 passes.above)

pub reads_compact_nothing : (text : List ℕ) → IsNoCompactText text → compact_reading_of text ≡ compact_nothing
reads_compact_nothing text lacks = at (exponent_in (from_mark text)) refl
  where
    at : (found : Option (List ℕ)) → exponent_in (from_mark text) ≡ found → compact_reading_by (before_mark text) found ≡ compact_nothing
    at None is = refl
    at (Some digits) is =
        ap (λ r. with_exponent r digits) (signed_nothing (before_mark text) (lacks (before_mark text) digits (spells_of text (from_mark text) digits refl is)))

-- the same of what a call answers
pub compact_value : {E : Type 0} (text : List ℕ) (r : Result CompactValue E) → IfOk r (λ value. ReadsCompact text value) → IfOk r (λ value. compact_reading_of text ≡ compact_number value)
compact_value text (Ok value) read = reads_compact text value read
compact_value text (Err cause) read = tt

-- ---- each text has one reading

exponent_read : (text front digits : List ℕ) → SpellsCompact text front digits → (reading : Reading) → IsReading front reading → IsCompactReading text (with_exponent reading digits)
exponent_read text front digits spells nothing lacks =
    λ other more h.
    let same = agree text front digits spells in
    let with = agree text other more h in
    subst IsNoSignedText (sym same.0 ∙ with.0) lacks
exponent_read text front digits spells beyond past = record { front = front; digits = digits; spells = spells; beyond = inl past }
exponent_read text front digits spells (number value) reads = at (nat_lt (spelled digits) 256) refl
  where
    at : (b : Bool) → nat_lt (spelled digits) 256 ≡ b
        → IsCompactReading text (cond b (compact_number (record { significand = value; exponent = spelled digits })) compact_beyond)
    at true within = record { front = front; digits = digits; spells = spells; significand = reads; exponent = refl; fits = ltb-true (spelled digits) 256 within }
    at false past = record { front = front; digits = digits; spells = spells; beyond = inr (record { number = value; reads = reads; above = ltb-false (spelled digits) 256 past }) }

no_exponent : (text : List ℕ) → exponent_in (from_mark text) ≡ None → IsNoCompactText text
no_exponent text none front digits spells =
    let same = agree text front digits spells in
    let some : None ≡ Some digits = sym none ∙ ap exponent_in same.1 ∙ exponent_is digits spells.are_digits spells.first in
    absurd (cc)

compact_reading_is : (text : List ℕ) → IsCompactReading text (compact_reading_of text)
compact_reading_is text = at (exponent_in (from_mark text)) refl
  where
    at : (found : Option (List ℕ)) → exponent_in (from_mark text) ≡ found → IsCompactReading text (compact_reading_by (before_mark text) found)
    at None none = no_exponent text none
    at (Some digits) is = exponent_read text (before_mark text) digits (spells_of text (from_mark text) digits refl is) (reading_of (before_mark text)) (reading_is (before_mark text))

compact_reading_is_one : (text : List ℕ) (reading : CompactReading) → IsCompactReading text reading → reading ≡ compact_reading_of text
compact_reading_is_one text (compact_number value) reads = sym (reads_compact text value reads)
compact_reading_is_one text compact_beyond past = sym (reads_compact_beyond text past)
compact_reading_is_one text compact_nothing lacks = sym (reads_compact_nothing text lacks)

pub one_compact_reading : HasOneCompactReading
one_compact_reading text reading = (compact_reading_is_one text reading, λ is. subst (IsCompactReading text) (sym is) (compact_reading_is text))
