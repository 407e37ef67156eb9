-- A text has one first mark: what is before it, and the rest.
use Rattle.std.proofs.Common.{◌≡◌, ℕ, zero, suc, ◌+◌, ◌-◌, ◌<◌, List, [], ◌∷◌, ◌++◌, length, get_or, map, take, refl, sym, subst, arith, add-one, inl, inr}
use Rattle.std.specs.Char.{digit_value}
use Rattle.fixed_decimal_signed.specs.Number.{Number, whole_digits, fraction_digits}
use Rattle.fixed_decimal_signed.specs.NumberText.{AreDigits, minus, point, after_point, character, text_of}
use Rattle.fixed_decimal_signed.proofs.PrintedLemmas.{printed_digits}
use Rattle.fixed_decimal_signed.proofs.TextPartsLemmas.{cons_both, cons_head, cons_tail}
use Rattle.fixed_decimal.specs.PlainText.{MarksExponent, HasNoMark}
use Rattle.fixed_decimal_signed.specs.SignedText.{plus, sign_text, signed_text_of}
use Rattle.fixed_decimal_signed.specs.SignedValue.{SignedValue}
use Rattle.fixed_decimal_signed.specs.declared.Sign.{Sign}
use Rattle.fixed_decimal_signed.specs.declared.Sign.TheVariants.{None, Negative, Positive}
use Rattle.fixed_decimal.specs.PlainParts.{StartsWithMark}

plain_next : (text : List ℕ) (i : ℕ) → i < length text → HasNoMark (take i text) → ¬ (MarksExponent (get_or text i 0)) → HasNoMark (take (suc i) text)
plain_next [] i l h lacks = absurd (omega arith)
plain_next (c ∷ cs) zero l h lacks = (lacks, tt)
plain_next (c ∷ cs) (suc i) l h lacks = (h.0, plain_next cs i (omega arith) h.1 lacks)

pub plain_more : (text : List ℕ) (i : ℕ) → i < length text → HasNoMark (take i text) → ¬ (MarksExponent (get_or text i 0)) → HasNoMark (take (i + 1) text)
plain_more text i l h lacks = subst (λ n. HasNoMark (take n text)) (sym (add-one i)) (plain_next text i l h lacks)

-- a front ends where a mark follows
pub plain_fronts : (a x b y : List ℕ) → HasNoMark a → HasNoMark b → StartsWithMark x → StartsWithMark y → a ++ x ≡ b ++ y → (a ≡ b) × (x ≡ y)
plain_fronts [] x [] y pa pb mx my e = (refl, e)
plain_fronts [] [] (d ∷ ds) y pa pb mx my e = absurd (cc)
plain_fronts [] (c ∷ cs) (d ∷ ds) y pa pb mx my e = absurd (pb.0 (subst MarksExponent (cons_head c d cs (ds ++ y) e) mx))
plain_fronts (c ∷ cs) x [] [] pa pb mx my e = absurd (cc)
plain_fronts (c ∷ cs) x [] (d ∷ ds) pa pb mx my e = absurd (pa.0 (subst MarksExponent (sym (cons_head c d (cs ++ x) ds e)) my))
plain_fronts (c ∷ cs) x (d ∷ ds) y pa pb mx my e =
    let h = plain_fronts cs x ds y pa.1 pb.1 mx my (cons_tail c d (cs ++ x) (ds ++ y) e) in
    (cons_both c d cs ds (cons_head c d (cs ++ x) (ds ++ y) e) h.0, h.1)

-- no character below the letters marks an exponent
not_mark : (c : ℕ) → c < 69 → ¬ (MarksExponent c)
not_mark c l (inl e) = omega arith
not_mark c l (inr (inl e)) = omega arith
not_mark c l (inr (inr e)) = omega arith

digit_no_mark : (c : ℕ) → digit_value c < 10 → ¬ (MarksExponent c)
digit_no_mark c l (inl e) = let h : digit_value 99 < 10 = subst (λ n. digit_value n < 10) e l in absurd (omega arith)
digit_no_mark c l (inr (inl e)) = let h : digit_value 101 < 10 = subst (λ n. digit_value n < 10) e l in absurd (omega arith)
digit_no_mark c l (inr (inr e)) = let h : digit_value 69 < 10 = subst (λ n. digit_value n < 10) e l in absurd (omega arith)

plain_digits : (text : List ℕ) → AreDigits text → HasNoMark text
plain_digits [] h = tt
plain_digits (c ∷ cs) h = (digit_no_mark c h.0, plain_digits cs h.1)

plain_append : (a b : List ℕ) → HasNoMark a → HasNoMark b → HasNoMark (a ++ b)
plain_append [] b h k = k
plain_append (c ∷ cs) b h k = (h.0, plain_append cs b h.1 k)

plain_fraction : (text : List ℕ) → HasNoMark text → HasNoMark (after_point text)
plain_fraction [] h = tt
plain_fraction (c ∷ cs) h = (not_mark point (omega arith), h)

plain_sign : (sign : Sign) → HasNoMark (sign_text sign)
plain_sign None = tt
plain_sign Negative = (not_mark minus (omega arith), tt)
plain_sign Positive = (not_mark plus (omega arith), tt)

-- a printed decimal has no mark
pub plain_printed : (v : SignedValue Number) → HasNoMark (signed_text_of v)
plain_printed v =
    let whole = map character (whole_digits v.absolute) in
    let part = map character (fraction_digits v.absolute) in
    plain_append (sign_text v.sign) (text_of v.absolute) (plain_sign v.sign)
    (plain_append whole (after_point part) (plain_digits whole (printed_digits v.absolute.count 32768 (v.absolute.high - 32767)))
    (plain_fraction part (plain_digits part (printed_digits v.absolute.count v.absolute.low (32768 - v.absolute.low)))))
