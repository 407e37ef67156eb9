-- Two lists of digits that spell one count are one.
use Rattle.std.proofs.Common.{◌≡◌, ℕ, ◌+◌, ◌-◌, ◌*◌, ◌/◌, ◌%◌, ◌^◌, ◌<◌, ◌≤◌, Bool, false, true≢false, List, [], ◌∷◌, length, refl, sym, ap, ◌∙◌, subst, arith}
use Rattle.std.proofs.Math.Nat.{mul-div_cancel}
use Rattle.std.proofs.lemmas.List.{ext_get_or}
use Rattle.std.specs.Bool.{Decides}
use Rattle.std.specs.Int.Digits.{number_from_digits, AllBelowBase}
use Rattle.fixed_decimal_digits.specs.DigitList.{IsTrimmed, count_of}
use Rattle.fixed_decimal_digit_words.proofs.TenLemmas.{tens_positive, mod_below_power}
use Rattle.fixed_decimal_digit_words.proofs.DigitsLemmas.{number_digit}
use Rattle.fixed_decimal_digits.proofs.CountLemmas.{count_below, count_none, count_positive}
use Rattle.fixed_decimal_digits.proofs.RoundingStepLemmas.{top_below, whole_room}

digits_same : (ds es : List ℕ) → AllBelowBase 10 ds → AllBelowBase 10 es → length ds ≡ length es → number_from_digits 10 ds ≡ number_from_digits 10 es → ds ≡ es
digits_same ds es h k el en =
    ext_get_or 0 ds es el (λ i l.
    sym (number_digit ds i h l) ∙ ap (λ n. n / 10 ^ (length ds - (i + 1)) % 10) en ∙ ap (λ n. number_from_digits 10 es / 10 ^ (n - (i + 1)) % 10) el
    ∙ number_digit es i k (omega arith))

numbers_same : (m n a b : ℕ) → a ≡ b → m * 10 ^ a ≡ n * 10 ^ b → m ≡ n
numbers_same m n a b e h =
    sym (mul-div_cancel m (tens_positive a)) ∙ ap (λ x. x / 10 ^ a) h ∙ ap (λ k. n * 10 ^ b / 10 ^ k) e ∙ mul-div_cancel n (tens_positive b)

-- of two lists that spell one count the first digit of one is not above that of the other, nor its last below
not_above : (ds es : List ℕ) (top u : ℕ) → IsTrimmed ds top → IsTrimmed es u → 0 < length ds → count_of ds top ≡ count_of es u → top < u + 1
not_above ds es top u h k p e = top_below ds top (u + 1) h p (subst (λ x. x < 10 ^ (u + 1)) (sym e) (count_below es u k.tight.tens k.room))

not_below : (ds es : List ℕ) (top u : ℕ) → IsTrimmed ds top → 0 < length ds → count_of ds top ≡ count_of es u → u + 1 - length es + length ds ≤ top + 1
not_below ds es top u h p e =
    whole_room ds top (u + 1 - length es) h p
    (ap (λ x. x % 10 ^ (u + 1 - length es)) e ∙ mod_below_power (number_from_digits 10 es) (u + 1 - length es) (u + 1 - length es) (omega arith))

one_empty : (d : ℕ) (ds : List ℕ) (top u : ℕ) → IsTrimmed (d ∷ ds) top → count_of (d ∷ ds) top ≡ count_of [] u → ⊥
one_empty d ds top u h e =
    let p : 0 < count_of (d ∷ ds) top = count_positive (d ∷ ds) top (omega arith) (h.tight.first (omega arith)) in
    let z : count_of [] u ≡ 0 = count_none [] u refl in
    omega arith

pub kept_same : (ds es : List ℕ) (top u : ℕ) → IsTrimmed ds top → IsTrimmed es u → count_of ds top ≡ count_of es u → (ds ≡ es) × (top ≡ u)
kept_same [] [] top u h k e = (refl, h.zero_top refl ∙ sym (k.zero_top refl))
kept_same [] (c ∷ cs) top u h k e = absurd (one_empty c cs u top k (sym e))
kept_same (d ∷ ds) [] top u h k e = absurd (one_empty d ds top u h e)
kept_same (d ∷ ds) (c ∷ cs) top u h k e =
    let a = not_above (d ∷ ds) (c ∷ cs) top u h k (omega arith) e in
    let b = not_above (c ∷ cs) (d ∷ ds) u top k h (omega arith) (sym e) in
    let x = not_below (d ∷ ds) (c ∷ cs) top u h (omega arith) e in
    let y = not_below (c ∷ cs) (d ∷ ds) u top k (omega arith) (sym e) in
    let room = h.room in let other = k.room in
    let el : length (d ∷ ds) ≡ length (c ∷ cs) = omega arith in
    let et : top ≡ u = omega arith in (
      digits_same (d ∷ ds) (c ∷ cs) h.tight.tens k.tight.tens el
          (numbers_same (number_from_digits 10 (d ∷ ds)) (number_from_digits 10 (c ∷ cs)) (top + 1 - length (d ∷ ds)) (u + 1 - length (c ∷ cs)) (omega arith) e),
      et,
    )

pub tops_decide : (ds es : List ℕ) (top u : ℕ) → IsTrimmed ds top → IsTrimmed es u → ¬ (top ≡ u) → Decides false (count_of ds top ≡ count_of es u)
tops_decide ds es top u h k n = (λ e. absurd (true≢false (sym e)), λ e. absurd (n (kept_same ds es top u h k e).1))

pub digits_decide : (ds es : List ℕ) (top u : ℕ) (same : Bool) → IsTrimmed ds top → IsTrimmed es u → top ≡ u → Decides same (ds ≡ es) → Decides same (count_of ds top ≡ count_of es u)
digits_decide ds es top u same h k t d = (λ e. ap (λ xs. count_of xs top) (d.0 e) ∙ ap (count_of es) t, λ e. d.1 (kept_same ds es top u h k e).0)
