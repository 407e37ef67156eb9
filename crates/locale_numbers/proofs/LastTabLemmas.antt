-- A text is cut at its last tab in one way, and a printed value has no tab: `specs/Printed.antt`.
use Rattle.std.proofs.Common.{◌≡◌, ℕ, ◌<◌, List, [], ◌∷◌, ◌++◌, map, refl, subst, arith}
use Rattle.std.specs.Int.Digits.{digits_of}
use Rattle.fixed_decimal.specs.CompactText.{CompactValue, after_compact_mark, compact_text_of}
use Rattle.fixed_decimal.specs.Number.{fraction_digits, whole_digits}
use Rattle.fixed_decimal.specs.NumberText.{after_point, character}
use Rattle.fixed_decimal.specs.SignedText.{sign_text}
use Rattle.fixed_decimal.specs.declared.Sign.{Sign}
use Rattle.fixed_decimal.specs.declared.Sign.TheVariants.{None as Unsigned, Positive, Negative}
use Rattle.locale_numbers.specs.Laws.{HasNoTab}
use Rattle.locale_numbers_requests.specs.Request.{tab}

no_tab_in : (c d : List ℕ) → HasNoTab (c ++ tab ∷ d) → ⊥
no_tab_in [] d h = h.0 refl
no_tab_in (x ∷ c) d h = no_tab_in c d h.1

pub record AreSplitAlike (a b c d : List ℕ) : Type 0 where
  pub front : a ≡ c
  pub back : b ≡ d

pub split_last : (a b c d : List ℕ) → HasNoTab b → HasNoTab d → a ++ tab ∷ b ≡ c ++ tab ∷ d → AreSplitAlike a b c d
split_last [] b [] d f g e = record { front = refl; back = cc }
split_last [] b (y ∷ c) d f g e = let rest : b ≡ c ++ tab ∷ d = cc in absurd (no_tab_in c d (subst HasNoTab rest f))
split_last (x ∷ a) b [] d f g e = let rest : d ≡ a ++ tab ∷ b = cc in absurd (no_tab_in a b (subst HasNoTab rest g))
split_last (x ∷ a) b (y ∷ c) d f g e =
    let s = split_last a b c d f g cc in
    let front : a ≡ c = s.front in
    record { front = cc; back = s.back }

joined_has_no_tab : (a b : List ℕ) → HasNoTab a → HasNoTab b → HasNoTab (a ++ b)
joined_has_no_tab [] b f g = g
joined_has_no_tab (x ∷ a) b f g = (f.0, joined_has_no_tab a b f.1 g)

other_code : (c : ℕ) → 9 < c → ¬ (c ≡ tab)
other_code c l e = absurd (omega arith)

characters_have_no_tab : (ds : List ℕ) → HasNoTab (map character ds)
characters_have_no_tab [] = tt
characters_have_no_tab (d ∷ ds) = (other_code (character d) (omega arith), characters_have_no_tab ds)

fraction_has_no_tab : (ds : List ℕ) → HasNoTab (after_point (map character ds))
fraction_has_no_tab [] = tt
fraction_has_no_tab (d ∷ ds) = (other_code 46 (omega arith), characters_have_no_tab (d ∷ ds))

exponent_has_no_tab : (ds : List ℕ) → HasNoTab (after_compact_mark (map character ds))
exponent_has_no_tab [] = tt
exponent_has_no_tab (d ∷ ds) = (other_code 99 (omega arith), characters_have_no_tab (d ∷ ds))

sign_has_no_tab : (sign : Sign) → HasNoTab (sign_text sign)
sign_has_no_tab Unsigned = tt
sign_has_no_tab Positive = (other_code 43 (omega arith), tt)
sign_has_no_tab Negative = (other_code 45 (omega arith), tt)

pub printed_has_no_tab : (v : CompactValue) → HasNoTab (compact_text_of v)
printed_has_no_tab v =
    let whole : List ℕ = map character (whole_digits v.significand.absolute) in
    let fraction : List ℕ = after_point (map character (fraction_digits v.significand.absolute)) in
    let sign : List ℕ = sign_text v.significand.sign in
    joined_has_no_tab (sign ++ (whole ++ fraction)) (after_compact_mark (map character (digits_of 10 v.exponent)))
    (joined_has_no_tab sign (whole ++ fraction) (sign_has_no_tab v.significand.sign)
    (joined_has_no_tab whole fraction (characters_have_no_tab (whole_digits v.significand.absolute)) (fraction_has_no_tab (fraction_digits v.significand.absolute))))
    (exponent_has_no_tab (digits_of 10 v.exponent))
