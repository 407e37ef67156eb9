-- Digits before a point and after it, one after the other: the zeros in front, and the zeros behind.
use Rattle.std.proofs.Common.{◌≡◌, ℕ, suc, ◌+◌, ◌-◌, ◌==◌, ◌&&◌, cond, Bool, true, false, List, [], ◌∷◌, ◌++◌, length, drop, take, Some, None, refl, sym, ap, ◌∙◌, append-nil, arith}
use Rattle.std.specs.Char.{is_ascii_digit}
use Rattle.std.specs.List.{list_all}
use Rattle.std.proofs.lemmas.Grind.{common_steps}
use Rattle.std.proofs.lemmas.List.{length-append}
use Rattle.std.proofs.lemmas.List.Folds.{list_all-append}
use Rattle.fixed_decimal.specs.declared.RoundingIncrement.{RoundingIncrement}
use Rattle.locale_numbers_formats.specs.IncrementWords.{digits_setting, from_first, is_zero, zeros_behind}
use Rattle.locale_numbers_formats.specs.Runs.{leading}
use Rattle.locale_numbers_formats.specs.declared.skeleton_error.WordFault.TheVariants.{Unknown}
use Rattle.locale_numbers_formats.specs.declared.stems.Setting.TheVariants.{Refused}
use Rattle.locale_numbers_formats.specs.declared.stems.WholeZeros.{WholeZeros}

-- zeros are behind in both
pub behind_is : (step : RoundingIncrement) (text rest : List ℕ)
    → zeros_behind step (text ++ rest) ≡ cond (list_all is_zero text && list_all is_zero rest) (Some (step, length text + length rest)) None
behind_is step text rest = λ i. cond (list_all-append is_zero text rest i) (Some (step, length-append text rest i)) None

-- with nothing behind
pub alone : (step : RoundingIncrement) (text : List ℕ) → zeros_behind step (text ++ []) ≡ zeros_behind step text
alone step text = ap (zeros_behind step) (append-nil text)

pub digits_in_both : (text rest : List ℕ) → list_all is_ascii_digit (text ++ rest) ≡ (list_all is_ascii_digit text && list_all is_ascii_digit rest)
digits_in_both text rest = list_all-append is_ascii_digit text rest

one_more : (n : ℕ) → suc n ≡ 1 + n
one_more n = omega arith

-- what follows the zeros in front
first_is : (text : List ℕ) → from_first text ≡ drop (leading 48 text) text
first_is [] = refl
first_is (c ∷ cs) = at (c == 48) (first_is cs)
  where
    at : (b : Bool) → from_first cs ≡ drop (leading 48 cs) cs → cond b (from_first cs) (c ∷ cs) ≡ drop (cond b (1 + leading 48 cs) 0) (c ∷ cs)
    at true next = next ∙ ap (λ (n : ℕ). drop n (c ∷ cs)) (one_more (leading 48 cs))
    at false next = refl

pub rest_is : (text : List ℕ) (zeros : ℕ) → zeros ≡ leading 48 text → take (length text - zeros) (drop zeros text) ≡ from_first text
rest_is text zeros is =
    let rest : take (length text - zeros) (drop zeros text) ≡ drop zeros text = grind (arith, common_steps) in
    rest ∙ ap (λ (n : ℕ). drop n text) is ∙ sym (first_is text)

abbrev after_zeros : List ℕ → List ℕ → List ℕ
after_zeros [] rest = from_first rest
after_zeros (c ∷ cs) rest = c ∷ (cs ++ rest)

-- what follows them where a rest is behind: it is in the rest where the text has zeros alone
first_of_both : (text rest : List ℕ) → from_first (text ++ rest) ≡ after_zeros (from_first text) rest
first_of_both [] rest = refl
first_of_both (c ∷ cs) rest = at (is_zero c) (first_of_both cs rest)
  where
    at : (b : Bool) → from_first (cs ++ rest) ≡ after_zeros (from_first cs) rest
        → cond b (from_first (cs ++ rest)) (c ∷ (cs ++ rest)) ≡ after_zeros (cond b (from_first cs) (c ∷ cs)) rest
    at true next = next
    at false next = refl

pub first_of_rest : (text rest left : List ℕ) → left ≡ from_first text → length left ≡ 0 → from_first rest ≡ from_first (text ++ rest)
first_of_rest text rest [] is none = sym (first_of_both text rest ∙ ap (λ (t : List ℕ). after_zeros t rest) (sym is))
first_of_rest text rest (c ∷ cs) is none = absurd (omega (arith, none))

pub first_of_text : (text rest left : List ℕ) (c : ℕ) (cs : List ℕ) → left ≡ from_first text → left ≡ c ∷ cs → c ∷ (cs ++ rest) ≡ from_first (text ++ rest)
first_of_text text rest left c cs is same = sym (first_of_both text rest ∙ ap (λ (t : List ℕ). after_zeros t rest) (sym is ∙ same))

pub first_alone : (text left : List ℕ) (c : ℕ) (cs : List ℕ) → left ≡ from_first text → left ≡ c ∷ cs → c ∷ (cs ++ []) ≡ from_first text
first_alone text left c cs is same = ap (λ (t : List ℕ). c ∷ t) (append-nil cs) ∙ sym same ∙ is

-- zeros alone are no increment
pub nothing_is : (whole : WholeZeros) (digits : ℕ) (text left : List ℕ) → left ≡ from_first text → length left ≡ 0 → Refused Unknown ≡ digits_setting whole digits (from_first text)
nothing_is whole digits text [] is none = ap (digits_setting whole digits) is
nothing_is whole digits text (c ∷ cs) is none = absurd (omega (arith, none))
