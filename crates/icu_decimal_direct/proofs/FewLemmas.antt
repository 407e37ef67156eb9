-- A text of few digits is found to be one: its first digits end where its integer does.
use Rattle.std.proofs.Common.{◌≡◌, ℕ, zero, suc, ◌+◌, ◌-◌, ◌<◌, ◌≤◌, List, [], ◌∷◌, ◌++◌, drop, get_or, length, length-append, length-drop, slice_index, take, subst, sym, ap, ◌∙◌, refl, arith, inl, inr}
use Rattle.std.proofs.lemmas.Bool.{cases_lt}
use Rattle.std.proofs.lemmas.List.{drop_more, take_all}
use Rattle.std.specs.Char.{digit_value}
use Rattle.fixed_decimal.proofs.TextPartsLemmas.{cons_head, cons_tail}
use Rattle.fixed_decimal.specs.NumberText.{AreDigits, after_point, minus, point}
use Rattle.fixed_decimal.specs.SignedText.{plus, sign_text}
use Rattle.fixed_decimal.specs.declared.Sign.{Sign}
use Rattle.fixed_decimal.specs.declared.Sign.TheVariants.{None as NoSign, Negative, Positive}
use Rattle.icu_decimal_direct.specs.FewDigits.{AreFewDigits, IsFewText}
use Rattle.icu_decimal_direct.proofs.ShownLemmas.{back_of, digits_told, each_digit, point_before}

-- digits end where something else follows
front_ends : (integer rest : List ℕ) (n : ℕ) → AreDigits integer → (0 < length rest → 10 ≤ digit_value (slice_index rest 0)) → AreDigits (take n (integer ++ rest)) → n ≤ length (integer ++ rest)
    → (n < length (integer ++ rest) → 10 ≤ digit_value (slice_index (integer ++ rest) n)) → n ≡ length integer
front_ends [] rest zero h other k within stops = refl
front_ends [] [] (suc n) h other k within stops = absurd (omega (arith, within))
front_ends [] (c ∷ cs) (suc n) h other k within stops = let small = k.0 in let large = other (omega arith) in absurd (omega (arith, small, large))
front_ends (c ∷ cs) rest zero h other k within stops = let small = h.0 in let large = stops (omega arith) in absurd (omega (arith, small, large))
front_ends (c ∷ cs) rest (suc n) h other k within stops = ap suc (front_ends cs rest n h.1 other k.1 (omega (arith, within)) (λ less. stops (omega (arith, less))))

-- and go no further
front_within : (integer rest : List ℕ) (n : ℕ) → (0 < length rest → 10 ≤ digit_value (slice_index rest 0)) → AreDigits (take n (integer ++ rest)) → n ≤ length (integer ++ rest) → n ≤ length integer
front_within integer rest zero other k within = omega arith
front_within [] [] (suc n) other k within = absurd (omega (arith, within))
front_within [] (c ∷ cs) (suc n) other k within = let small = k.0 in let large = other (omega arith) in absurd (omega (arith, small, large))
front_within (c ∷ cs) rest (suc n) other k within = let less = front_within cs rest n other k.1 (omega (arith, within)) in omega (arith, less)

point_is_none : (fraction : List ℕ) → 0 < length (after_point fraction) → 10 ≤ digit_value (slice_index (after_point fraction) 0)
point_is_none [] some = absurd (omega (arith, some))
point_is_none (c ∷ cs) some = omega arith

some_behind : (fraction : List ℕ) → 0 < length (after_point fraction) → 0 < length fraction
some_behind [] some = absurd (omega (arith, some))
some_behind (c ∷ cs) some = omega arith

some_point : (fraction : List ℕ) → 0 < length fraction → 0 < length (after_point fraction)
some_point [] some = absurd (omega (arith, some))
some_point (c ∷ cs) some = omega arith

-- no more than thirty-two are before the point
pub few_above : (text integer fraction : List ℕ) (above : ℕ) → text ≡ integer ++ after_point fraction → AreFewDigits integer fraction → AreDigits (take above text) → above ≤ length text → above ≤ 32
few_above text integer fraction above is h digits within =
    let few = h.few in
    let less = front_within integer (after_point fraction) above (point_is_none fraction) (subst (λ t. AreDigits (take above t)) is digits) (subst (λ t. above ≤ length t) is within) in
    omega (arith, few, less)

module _ (text integer fraction : List ℕ) (above : ℕ) (is : text ≡ integer ++ after_point fraction) (h : AreFewDigits integer fraction)
    (digits : AreDigits (take above text)) (within : above ≤ length text) (stops : above < length text → 10 ≤ digit_value (slice_index text above)) where
  -- so many are before the point
  pub above_is : above ≡ length integer
  above_is =
      front_ends integer (after_point fraction) above (digits_told integer h.whole) (point_is_none fraction)
      (subst (λ t. AreDigits (take above t)) is digits) (subst (λ t. above ≤ length t) is within) (subst (λ t. above < length t → 10 ≤ digit_value (slice_index t above)) is stops)

  pub some_above : above ≡ 0 → ⊥
  some_above none = let some = h.some in omega (arith, some, above_is, none)

  whole_length : length text ≡ length integer + length (after_point fraction)
  whole_length = ap length is ∙ length-append integer (after_point fraction)

  -- where they are not all, a point and the others follow
  pub behind_some : ¬ (above ≡ length text) → 0 < length fraction
  behind_some other = some_behind fraction (omega (arith, whole_length, above_is, within, other))

  split_at : 0 < length fraction → get_or text above 0 ∷ drop (above + 1) text ≡ point ∷ fraction
  split_at some =
      let long : 0 < length (after_point fraction) = some_point fraction some in
      sym (drop_more text above 0 (omega (arith, whole_length, above_is, long)))
      ∙ ap (drop above) is ∙ ap (λ n. drop n (integer ++ after_point fraction)) above_is ∙ back_of integer (after_point fraction) ∙ sym (point_before fraction some)

  pub mark_is : 0 < length fraction → get_or text above 0 ≡ 46
  mark_is some = cons_head (get_or text above 0) point (drop (above + 1) text) fraction (split_at some)

  pub behind_is : 0 < length fraction → take (length text - (above + 1)) (drop (above + 1) text) ≡ fraction
  behind_is some =
      let size = length-drop (above + 1) text in
      take_all (length text - (above + 1)) (drop (above + 1) text) (omega (arith, size)) ∙ cons_tail (get_or text above 0) point (drop (above + 1) text) fraction (split_at some)

-- digits are not ended by one of them
pub all_ahead : (fraction : List ℕ) (n : ℕ) → AreDigits fraction → (n < length fraction → 10 ≤ digit_value (slice_index fraction n)) → length fraction ≤ n
all_ahead fraction n h stops =
    elim (cases_lt n (length fraction)) [
      | inl less ↦ let small = each_digit fraction h n 0 less in let large = stops less in absurd (omega (arith, small, large))
      | inr all ↦ all
    ]

-- a sign before them, or none
sign_rest : (sign : Sign) (rest integer fraction : List ℕ) (first : ℕ) → first ∷ rest ≡ sign_text sign ++ (integer ++ after_point fraction) → AreFewDigits integer fraction → 10 ≤ digit_value first → rest ≡ integer ++ after_point fraction
sign_rest Negative rest integer fraction first is h other = cons_tail first minus rest (integer ++ after_point fraction) is
sign_rest Positive rest integer fraction first is h other = cons_tail first plus rest (integer ++ after_point fraction) is
sign_rest NoSign rest [] fraction first is h other = let some = h.some in absurd (omega (arith, some))
sign_rest NoSign rest (c ∷ cs) fraction first is h other =
    let small : digit_value first < 10 = subst (λ d. digit_value d < 10) (sym (cons_head first c rest (cs ++ after_point fraction) is)) (digits_told (c ∷ cs) h.whole).0 in
    absurd (omega (arith, small, other))

pub few_rest : (text rest : List ℕ) (first : ℕ) → text ≡ first ∷ rest → 10 ≤ digit_value first → (w : IsFewText text) → rest ≡ w.integer ++ after_point w.fraction
few_rest text rest first is other w = sign_rest w.sign rest w.integer w.fraction first (sym is ∙ w.whole) w.digits other

point_long : (fraction : List ℕ) → length (after_point fraction) ≤ length fraction + 1
point_long [] = omega arith
point_long (c ∷ cs) = omega arith

-- such a text is short
pub few_long : (text integer fraction : List ℕ) → text ≡ integer ++ after_point fraction → AreFewDigits integer fraction → length text ≤ 65
few_long text integer fraction is h =
    let few = h.few in let below = h.few_below in
    omega (arith, few, below, point_long fraction, ap length is ∙ length-append integer (after_point fraction))
