-- The ends of a range, by the first place of two dots.
use Rattle.std.proofs.Common.{◌≡◌, ◌+◌, ◌-◌, ◌<◌, ◌&&◌, ◌==◌, ℕ, zero, suc, Bool, true, false, List, [], ◌∷◌, length, take, drop, get_or, Option, None, Some, MatchOption, refl, arith, length-drop, suc-add, take_all}
use Rattle.std.proofs.lemmas.Bool.{eqb-true, false_from_ne_true}
use Rattle.memchr.specs.Find.{FindsNeedle, Nowhere, OccursAt}
use Rattle.locale_numbers_requests.specs.RangeEnds.{begins_with_dots, dot, range_ends}

abbrev dots : List ℕ
dots = dot ∷ dot ∷ []

-- the rest of a text from a place on
pub rest_from : (place : ℕ) (text : List ℕ) → take (length text - place) (drop place text) ≡ drop place text
rest_from place text = take_all (length text - place) (drop place text) (omega (arith, length-drop place text))

-- ---- two dots at the front

front_occurs : (text : List ℕ) → begins_with_dots text ≡ true → OccursAt text dots 0
front_occurs [] is = absurd (cc)
front_occurs (c ∷ []) is = absurd (cc)
front_occurs (c ∷ d ∷ cs) is = both (c == dot) (d == dot) (eqb-true c dot) (eqb-true d dot) is
  where
    both : (a b : Bool) → (a ≡ true → c ≡ dot) → (b ≡ true → d ≡ dot) → (a && b) ≡ true → OccursAt (c ∷ d ∷ cs) dots 0
    both true true first second test = record { fits = omega arith; reads = reads }
      where
        reads : (j : ℕ) → j < 2 → get_or (c ∷ d ∷ cs) (0 + j) 0 ≡ get_or dots j 0
        reads zero below = first refl
        reads (suc zero) below = second refl
        reads (suc (suc j)) below = absurd (omega arith)
    both true false first second test = absurd (cc)
    both false b first second test = absurd (cc)

front_tells : (text : List ℕ) → OccursAt text dots 0 → begins_with_dots text ≡ true
front_tells [] occurs = absurd (omega (arith, occurs.fits))
front_tells (c ∷ []) occurs = absurd (omega (arith, occurs.fits))
front_tells (c ∷ d ∷ cs) occurs =
    let first : c ≡ dot = occurs.reads 0 (omega arith) in
    let second : d ≡ dot = occurs.reads 1 (omega arith) in
    rw (first, second) refl

no_front : (text : List ℕ) → ¬ (OccursAt text dots 0) → begins_with_dots text ≡ false
no_front text none = false_from_ne_true (begins_with_dots text) (λ is. none (front_occurs text is))

-- ---- a place later

occurs_later : (c : ℕ) (cs : List ℕ) (k : ℕ) → OccursAt cs dots k → OccursAt (c ∷ cs) dots (suc k)
occurs_later c cs k occurs = record { fits = omega (arith, occurs.fits); reads = λ j below. rw (suc-add k j) (occurs.reads j below) }

occurs_earlier : (c : ℕ) (cs : List ℕ) (k : ℕ) → OccursAt (c ∷ cs) dots (suc k) → OccursAt cs dots k
occurs_earlier c cs k occurs = record { fits = omega (arith, occurs.fits); reads = λ j below. rw (suc-add k j) at (occurs.reads j below) }

-- ---- the ends

none_found : (text : List ℕ) → ((k : ℕ) → ¬ (OccursAt text dots k)) → range_ends text ≡ None
none_found [] nowhere = refl
none_found (c ∷ cs) nowhere = rw (no_front (c ∷ cs) (nowhere 0), none_found cs (λ k occurs. nowhere (suc k) (occurs_later c cs k occurs))) refl

place_found : (text : List ℕ) (k : ℕ) → Nowhere (OccursAt text dots) 0 k → OccursAt text dots k → range_ends text ≡ Some (take k text, drop (k + 2) text)
place_found [] k before occurs = absurd (omega (arith, occurs.fits))
place_found (c ∷ cs) zero before occurs = rw (front_tells (c ∷ cs) occurs) refl
place_found (c ∷ cs) (suc k) before occurs =
    rw (
      no_front (c ∷ cs) (before 0 (omega arith) (omega arith)),
      place_found cs k (λ m low below found. before (suc m) (omega arith) (omega (arith, below)) (occurs_later c cs m found)) (occurs_earlier c cs k occurs),
      suc-add k 2,
    ) refl

pub ends_found : (text : List ℕ) (found : Option ℕ) → FindsNeedle text dots 0 found
    → MatchOption found (range_ends text ≡ None) (λ k. range_ends text ≡ Some (take k text, drop (k + 2) text))
ends_found text None nowhere = none_found text (λ k occurs. nowhere k (omega arith) (omega (arith, occurs.fits)) occurs)
ends_found text (Some k) found = place_found text k found.0.before found.1
