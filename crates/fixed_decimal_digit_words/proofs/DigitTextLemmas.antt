-- Texts of digits: each character, what is left of them, and the digits that a text begins with.
use Rattle.std.proofs.Common.{◌≡◌, ℕ, zero, suc, ◌+◌, ◌-◌, ◌<◌, ◌≤◌, Bool, true, false, IsTrue, true≢false, ◌&&◌, List, [], ◌∷◌, length, get_or, take, drop, refl, sym, subst, arith}
use Rattle.std.proofs.lemmas.Int.Digits.{digits_more}
use Rattle.std.specs.Bool.{OnTrue}
use Rattle.std.specs.Char.{digit_value}
use Rattle.std.specs.List.{slice_range}
use Rattle.fixed_decimal_digit_words.specs.DigitText.{AreDigits}

pub digits_at : (text : List ℕ) (i : ℕ) → AreDigits text → i < length text → digit_value (get_or text i 0) < 10
digits_at [] i h l = absurd (omega arith)
digits_at (c ∷ cs) zero h l = h.0
digits_at (c ∷ cs) (suc i) h l = digits_at cs i h.1 (omega arith)

-- a zero at the front counts nothing, and another digit there is positive
pub digits_after : (c : ℕ) (rest : List ℕ) → AreDigits (c ∷ rest) → AreDigits rest
digits_after c rest h = h.1

digits_after_front : (text : List ℕ) (i n : ℕ) → AreDigits (take i text) → AreDigits (take n (drop i text)) → AreDigits (take (i + n) text)
digits_after_front text zero n h k = let none : n ≡ 0 + n = omega arith in subst (λ j. AreDigits (take j text)) none k
digits_after_front [] (suc i) n h k = let more : suc (i + n) ≡ suc i + n = omega arith in subst (λ j. AreDigits (take {A = ℕ} j [])) more tt
digits_after_front (c ∷ cs) (suc i) n h k =
    let more : suc (i + n) ≡ suc i + n = omega arith in
    subst (λ j. AreDigits (take j (c ∷ cs))) more (h.0, digits_after_front cs i n h.1 k)

-- a block of digits after the digits that a text begins with
pub digits_reach : (text : List ℕ) (i j : ℕ) → i ≤ j → AreDigits (take i text) → AreDigits (slice_range text i j) → AreDigits (take j text)
digits_reach text i j l h k =
    let whole : i + (j - i) ≡ j = omega arith in
    subst (λ n. AreDigits (take n text)) whole (digits_after_front text i (j - i) h k)

-- one character more, tried whether or not another one failed
pub digits_told : (text : List ℕ) (i : ℕ) (all one : Bool) → i < length text → (IsTrue all → AreDigits (take i text)) → OnTrue one (digit_value (get_or text i 0) < 10)
    → IsTrue (all && one) → AreDigits (take (i + 1) text)
digits_told text i true true l before digit h = digits_more 10 text i l (before refl) digit
digits_told text i true false l before digit h = absurd (true≢false (sym h))
digits_told text i false one l before digit h = absurd (true≢false (sym h))
