-- A compact text has one front and one list of digits.
use Rattle.std.proofs.Common.{◌≡◌, ℕ, List, [], ◌∷◌, ◌++◌, refl, sym, ◌∙◌, subst, arith, inl}
use Rattle.fixed_decimal_signed.specs.NumberText.{AreDigits}
pub use Rattle.fixed_decimal_signed.proofs.SpelledLemmas.{digits_at}
use Rattle.fixed_decimal_signed.proofs.TextPartsLemmas.{cons_head, cons_tail}
use Rattle.fixed_decimal.specs.PlainText.{compact_mark, MarksExponent, HasNoMark}
use Rattle.fixed_decimal.specs.PlainParts.{StartsWithMark, IsCompactExponent, IsNotCompact}
use Rattle.fixed_decimal.specs.CompactText.{after_compact_mark, StartsNoZero, SpellsCompact, IsNoCompactText}
use Rattle.fixed_decimal_signed.specs.SignedText.{IsNoSignedText}
use Rattle.fixed_decimal.proofs.PlainTextLemmas.{plain_fronts}

pub after_marked : (digits : List ℕ) → StartsWithMark (after_compact_mark digits)
after_marked [] = tt
after_marked (d ∷ ds) = inl refl

-- the parts of a compact text are those that the steps of reading found
pub found_compact : (text front rest : List ℕ) → text ≡ front ++ rest → HasNoMark front → StartsWithMark rest → (other digits : List ℕ) → SpellsCompact text other digits → (front ≡ other) × (rest ≡ after_compact_mark digits)
found_compact text front rest e p m other digits h =
    plain_fronts front rest other (after_compact_mark digits) p h.plain m (after_marked digits) (sym e ∙ h.whole)

not_marked : (mark : ℕ) (tail digits : List ℕ) → ¬ (mark ≡ compact_mark) → mark ∷ tail ≡ after_compact_mark digits → ⊥
not_marked mark tail [] ne e = cc
not_marked mark tail (d ∷ ds) ne e = ne (cons_head mark compact_mark tail (d ∷ ds) e)

-- another mark than that of a compact text
pub other_mark : (text front tail : List ℕ) (mark : ℕ) → text ≡ front ++ (mark ∷ tail) → HasNoMark front → MarksExponent mark → ¬ (mark ≡ compact_mark) → IsNotCompact text
other_mark text front tail mark e p m ne other digits h = not_marked mark tail digits ne (found_compact text front (mark ∷ tail) e p m other digits h).1

after_is : (mark : ℕ) (tail digits : List ℕ) → mark ∷ tail ≡ after_compact_mark digits → AreDigits digits → StartsNoZero digits → IsCompactExponent tail
after_is mark tail [] e are first = absurd (cc)
after_is mark tail (d ∷ ds) e are first =
    subst IsCompactExponent (sym (cons_tail mark compact_mark tail (d ∷ ds) e)) (record { some = omega arith; are_digits = are; first = first })

-- what is after the mark is no exponent
pub no_compact_exponent : (text front tail : List ℕ) (mark : ℕ) → text ≡ front ++ (mark ∷ tail) → HasNoMark front → MarksExponent mark → ¬ (IsCompactExponent tail) → IsNotCompact text
no_compact_exponent text front tail mark e p m lacks other digits h =
    lacks (after_is mark tail digits (found_compact text front (mark ∷ tail) e p m other digits h).1 h.are_digits h.first)

-- a front that is no number's text
pub no_compact_text : (text front digits : List ℕ) → SpellsCompact text front digits → IsNoSignedText front → IsNoCompactText text
no_compact_text text front digits s lacks other more h =
    subst IsNoSignedText (found_compact text front (after_compact_mark digits) s.whole s.plain (after_marked digits) other more h).0 lacks

pub not_compact_text : (text : List ℕ) → IsNotCompact text → IsNoCompactText text
not_compact_text text lacks front digits h = absurd (lacks front digits h)
