-- A text has one list of parts: digits end where no digit follows, a point begins a fraction, a mark an exponent.
use Rattle.std.proofs.Common.{◌≡◌, ℕ, ◌+◌, ◌<◌, ◌⊎◌, ◌==◌, Bool, true, false, List, [], ◌∷◌, ◌++◌, length, refl, sym, ap, ◌∙◌, subst, arith, inl, inr}
use Rattle.std.proofs.lemmas.List.{append-nil}
use Rattle.std.proofs.lemmas.Bool.Decides.{nat_tests}
use Rattle.std.specs.Char.{digit_value}
use Rattle.fixed_decimal_unsigned.specs.NumberText.{AreDigits, after_point, minus_if, minus, point, small_mark, capital_mark, Parts, SpellsExponent, Spells, IsNoText}
use Rattle.fixed_decimal_unsigned.specs.TextParts.{StartsNoDigit, StartsNoPoint, StartsNoMinus, IsNoFraction, IsNoExponent}

pub cons_head : (c d : ℕ) (cs ds : List ℕ) → c ∷ cs ≡ d ∷ ds → c ≡ d
cons_head c d cs ds e = cc

pub cons_tail : (c d : ℕ) (cs ds : List ℕ) → c ∷ cs ≡ d ∷ ds → cs ≡ ds
cons_tail c d cs ds e = cc

pub cons_both : (c d : ℕ) (cs ds : List ℕ) → c ≡ d → cs ≡ ds → c ∷ cs ≡ d ∷ ds
cons_both c d cs ds e f = cc

mark_no_digit : (m : ℕ) → (m ≡ small_mark) ⊎ (m ≡ capital_mark) → ¬ (digit_value m < 10)
mark_no_digit m (inl e) lt = let h : digit_value 101 < 10 = subst (λ n. digit_value n < 10) e lt in absurd (omega arith)
mark_no_digit m (inr e) lt = let h : digit_value 69 < 10 = subst (λ n. digit_value n < 10) e lt in absurd (omega arith)

mark_no_point : (m : ℕ) → (m ≡ small_mark) ⊎ (m ≡ capital_mark) → ¬ (m ≡ point)
mark_no_point m (inl e) f = omega arith
mark_no_point m (inr e) f = omega arith

-- digits end where no digit follows
pub fronts : (a x b y : List ℕ) → AreDigits a → AreDigits b → StartsNoDigit x → StartsNoDigit y → a ++ x ≡ b ++ y → (a ≡ b) × (x ≡ y)
fronts [] x [] y da db nx ny e = (refl, e)
fronts [] [] (d ∷ ds) y da db nx ny e = absurd (cc)
fronts [] (c ∷ cs) (d ∷ ds) y da db nx ny e = absurd (nx (subst (λ n. digit_value n < 10) (sym (cons_head c d cs (ds ++ y) e)) db.0))
fronts (c ∷ cs) x [] [] da db nx ny e = absurd (cc)
fronts (c ∷ cs) x [] (d ∷ ds) da db nx ny e = absurd (ny (subst (λ n. digit_value n < 10) (cons_head c d (cs ++ x) ds e) da.0))
fronts (c ∷ cs) x (d ∷ ds) y da db nx ny e =
    let h = fronts cs x ds y da.1 db.1 nx ny (cons_tail c d (cs ++ x) (ds ++ y) e) in
    (cons_both c d cs ds (cons_head c d (cs ++ x) (ds ++ y) e) h.0, h.1)

-- a fraction is what is after a point that comes first
pub fractions : (a x b y : List ℕ) → AreDigits a → AreDigits b → StartsNoDigit x → StartsNoDigit y → (a ≡ [] → StartsNoPoint x) → StartsNoPoint y → after_point a ++ x ≡ after_point b ++ y → (a ≡ b) × (x ≡ y)
fractions [] x [] y da db nx ny px py e = (refl, e)
fractions [] [] (d ∷ ds) y da db nx ny px py e = absurd (cc)
fractions [] (c ∷ cs) (d ∷ ds) y da db nx ny px py e = absurd (px refl (cons_head c point cs (d ∷ (ds ++ y)) e))
fractions (c ∷ cs) x [] [] da db nx ny px py e = absurd (cc)
fractions (c ∷ cs) x [] (d ∷ ds) da db nx ny px py e = absurd (py (sym (cons_head point d (c ∷ (cs ++ x)) ds e)))
fractions (c ∷ cs) x (d ∷ ds) y da db nx ny px py e = fronts (c ∷ cs) x (d ∷ ds) y da db nx ny (cons_tail point point (c ∷ (cs ++ x)) (d ∷ (ds ++ y)) e)

-- what follows a mantissa begins with no digit and with no point
pub exponent_no_digit : (text : List ℕ) (negative : Bool) (exponent : List ℕ) → SpellsExponent text negative exponent → StartsNoDigit text
exponent_no_digit text negative [] h = subst StartsNoDigit (sym h.whole) tt
exponent_no_digit text negative (c ∷ cs) h = subst StartsNoDigit (sym h.whole) (mark_no_digit h.mark h.is_mark)

pub exponent_no_point : (text : List ℕ) (negative : Bool) (exponent : List ℕ) → SpellsExponent text negative exponent → StartsNoPoint text
exponent_no_point text negative [] h = subst StartsNoPoint (sym h.whole) tt
exponent_no_point text negative (c ∷ cs) h = subst StartsNoPoint (sym h.whole) (mark_no_point h.mark h.is_mark)

pub rest_no_digit : (fraction last : List ℕ) → StartsNoDigit last → StartsNoDigit (after_point fraction ++ last)
rest_no_digit [] last h = h
rest_no_digit (c ∷ cs) last h = λ lt. absurd (omega arith)

-- the parts of a text are those that the steps of reading found
pub found_parts : (text integer fraction last : List ℕ) → text ≡ integer ++ (after_point fraction ++ last) → AreDigits integer → AreDigits fraction → StartsNoDigit last → (fraction ≡ [] → StartsNoPoint last)
    → (parts : Parts) (h : Spells text parts) → (integer ≡ parts.integer) × (fraction ≡ parts.fraction) × (last ≡ h.last)
found_parts text integer fraction last e di df nd np parts h =
    let no_digit = exponent_no_digit h.last parts.negative parts.exponent h.power in
    let front = fronts integer (after_point fraction ++ last) parts.integer (after_point parts.fraction ++ h.last) di h.integer_digits (rest_no_digit fraction last nd) (rest_no_digit parts.fraction h.last no_digit) (sym e ∙ h.whole) in
    let behind = fractions fraction last parts.fraction h.last df h.fraction_digits nd no_digit np (exponent_no_point h.last parts.negative parts.exponent h.power) front.1 in
    (front.0, behind.0, behind.1)

no_point_fraction : (tail fraction last : List ℕ) → StartsNoDigit tail → AreDigits fraction → StartsNoPoint last → point ∷ tail ≡ after_point fraction ++ last → ⊥
no_point_fraction tail [] [] nd df np e = cc
no_point_fraction tail [] (c ∷ cs) nd df np e = np (sym (cons_head point c tail cs e))
no_point_fraction [] (c ∷ cs) last nd df np e = let bad : [] ≡ c ∷ (cs ++ last) = cons_tail point point [] (c ∷ (cs ++ last)) e in cc
no_point_fraction (t ∷ ts) (c ∷ cs) last nd df np e =
    nd (subst (λ n. digit_value n < 10) (sym (cons_head t c ts (cs ++ last) (cons_tail point point (t ∷ ts) (c ∷ (cs ++ last)) e))) df.0)

-- a point with no digit after it is in no text
pub no_fraction : (text integer rest : List ℕ) → text ≡ integer ++ rest → AreDigits integer → IsNoFraction rest → IsNoText text
no_fraction text integer rest e di lacks parts h =
    let no_digit = exponent_no_digit h.last parts.negative parts.exponent h.power in
    let starts : StartsNoDigit rest = subst StartsNoDigit (sym lacks.whole) (λ lt. absurd (omega arith)) in
    let front = fronts integer rest parts.integer (after_point parts.fraction ++ h.last) di h.integer_digits starts (rest_no_digit parts.fraction h.last no_digit) (sym e ∙ h.whole) in
    no_point_fraction lacks.tail parts.fraction h.last lacks.rest h.fraction_digits (exponent_no_point h.last parts.negative parts.exponent h.power) (sym lacks.whole ∙ front.1)

signs_agree : (sign negative : Bool) (behind : List ℕ) (c : ℕ) (cs : List ℕ) → (sign ≡ false → StartsNoMinus behind) → digit_value c < 10 → minus_if sign ++ behind ≡ minus_if negative ++ (c ∷ cs) → behind ≡ c ∷ cs
signs_agree true true behind c cs nm d e = cons_tail minus minus behind (c ∷ cs) e
signs_agree true false behind c cs nm d e = let h : digit_value 45 < 10 = subst (λ n. digit_value n < 10) (sym (cons_head minus c behind cs e)) d in absurd (omega arith)
signs_agree false true [] c cs nm d e = absurd (cc)
signs_agree false true (b ∷ bs) c cs nm d e = absurd (nm refl (cons_head b minus bs (c ∷ cs) e))
signs_agree false false behind c cs nm d e = e

-- the steps of an exponent: a mark, a minus, digits
pub found_exponent : (text tail behind digits rest : List ℕ) (mark : ℕ) (sign : Bool) → text ≡ mark ∷ tail → tail ≡ minus_if sign ++ behind → (sign ≡ false → StartsNoMinus behind) → behind ≡ digits ++ rest → AreDigits digits → StartsNoDigit rest
    → (negative : Bool) (exponent : List ℕ) → SpellsExponent text negative exponent → (digits ≡ exponent) × (rest ≡ []) × (0 < length exponent) × ((mark ≡ small_mark) ⊎ (mark ≡ capital_mark))
found_exponent text tail behind digits rest mark sign e et nm eb dd nr negative [] h = let bad : mark ∷ tail ≡ [] = sym e ∙ h.whole in absurd (cc)
found_exponent text tail behind digits rest mark sign e et nm eb dd nr negative (c ∷ cs) h =
    let both : mark ∷ tail ≡ h.mark ∷ (minus_if negative ++ (c ∷ cs)) = sym e ∙ h.whole in
    let same : behind ≡ c ∷ cs = signs_agree sign negative behind c cs nm h.digits.0 (sym et ∙ cons_tail mark h.mark tail (minus_if negative ++ (c ∷ cs)) both) in
    let front = fronts digits rest (c ∷ cs) [] dd h.digits nr tt (sym eb ∙ same ∙ sym (append-nil (c ∷ cs))) in
    (front.0, front.1, omega arith, subst (λ m. (m ≡ small_mark) ⊎ (m ≡ capital_mark)) (sym (cons_head mark h.mark tail (minus_if negative ++ (c ∷ cs)) both)) h.is_mark)

pub empty_of : (xs : List ℕ) → length xs ≡ 0 → xs ≡ []
empty_of [] e = refl
empty_of (x ∷ xs) e = absurd (omega arith)

pub empty_length : (xs : List ℕ) → xs ≡ [] → length xs ≡ 0
empty_length xs e = ap length e

pub no_exponent : (text : List ℕ) → length text ≡ 0 → SpellsExponent text false []
no_exponent text e = record { mark = small_mark; is_mark = inl refl; digits = tt; whole = empty_of text e }

-- where the exponent is none
pub no_power : (text integer fraction last : List ℕ) → text ≡ integer ++ (after_point fraction ++ last) → AreDigits integer → AreDigits fraction → StartsNoDigit last → (fraction ≡ [] → StartsNoPoint last)
    → IsNoExponent last → IsNoText text
no_power text integer fraction last e di df nd np lacks parts h =
    let found = found_parts text integer fraction last e di df nd np parts h in
    lacks parts.negative parts.exponent (subst (λ t. SpellsExponent t parts.negative parts.exponent) (sym found.2) h.power)

pub no_digits : (text integer fraction last : List ℕ) → text ≡ integer ++ (after_point fraction ++ last) → AreDigits integer → AreDigits fraction → StartsNoDigit last → (fraction ≡ [] → StartsNoPoint last)
    → length integer ≡ 0 → length fraction ≡ 0 → IsNoText text
no_digits text integer fraction last e di df nd np no_integer no_fractions parts h =
    let found = found_parts text integer fraction last e di df nd np parts h in
    let s = h.some in
    omega (arith, ap length found.0, ap length found.1)

pub not_none : (n : ℕ) → false ≡ (n == 0) → n ≡ 0 → ⊥
not_none n f e = grind (arith, nat_tests)

sign_no_digit : (c : ℕ) → (c ≡ 43) ⊎ (c ≡ minus) → ¬ (digit_value c < 10)
sign_no_digit c (inl e) lt = let h : digit_value 43 < 10 = subst (λ n. digit_value n < 10) e lt in absurd (omega arith)
sign_no_digit c (inr e) lt = let h : digit_value 45 < 10 = subst (λ n. digit_value n < 10) e lt in absurd (omega arith)

sign_no_point : (c : ℕ) → (c ≡ 43) ⊎ (c ≡ minus) → ¬ (c ≡ point)
sign_no_point c (inl e) f = omega arith
sign_no_point c (inr e) f = omega arith

no_sign_in : (c : ℕ) (cs integer fraction last : List ℕ) → AreDigits integer → 0 < length integer + length fraction → c ∷ cs ≡ integer ++ (after_point fraction ++ last) → (c ≡ 43) ⊎ (c ≡ minus) → ⊥
no_sign_in c cs (i ∷ is) fraction last d some e s = sign_no_digit c s (subst (λ n. digit_value n < 10) (sym (cons_head c i cs (is ++ (after_point fraction ++ last)) e)) d.0)
no_sign_in c cs [] (f ∷ fs) last d some e s = sign_no_point c s (cons_head c point cs (f ∷ (fs ++ last)) e)
no_sign_in c cs [] [] last d some e s = absurd (omega arith)

-- no number's text begins with a sign
pub no_sign : (c : ℕ) (cs : List ℕ) (parts : Parts) → Spells (c ∷ cs) parts → (c ≡ 43) ⊎ (c ≡ minus) → ⊥
no_sign c cs parts h s = no_sign_in c cs parts.integer parts.fraction h.last h.integer_digits h.some h.whole s
