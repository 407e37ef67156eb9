-- A text that says a number, or one beyond the limits, is ASCII, and so UTF-8.
use Rattle.std.proofs.Common.{◌≡◌, ◌==◌, ◌<◌, ℕ, Bool, true, false, List, [], ◌∷◌, Option, Some, None, refl, sym, ◌∙◌, arith}
use Rattle.std.specs.Prelude.{if◌then◌else◌, ◌&&◌, ◌||◌}
use Rattle.std.specs.List.{list_all}
use Rattle.std.specs.Str.{IsAscii, is_utf8}
use Rattle.std.proofs.lemmas.Bool.{eqb-true}
use Rattle.std.proofs.lemmas.Bool.Decides.{nat_tests}
use Rattle.std.proofs.lemmas.Str.{IsUtf8-from_ascii, is_utf8-from_IsUtf8}
use Rattle.std.proofs.lemmas.Str.Ascii.{IsAscii-nil, IsAscii-cons}
use Rattle.fixed_decimal.specs.declared.Sign.{Sign}
use Rattle.fixed_decimal.specs.declared.Sign.TheVariants.{None as Unsigned, Positive, Negative}
use Rattle.fixed_decimal.specs.Number.{Number}
use Rattle.fixed_decimal.specs.NumberText.{point, minus, small_mark, capital_mark, Parts}
use Rattle.fixed_decimal.specs.SignedText.{plus}
use Rattle.fixed_decimal.specs.SignedValue.{SignedValue}
use Rattle.locale_numbers_answers.specs.NumberReading.{number, beyond, nothing, is_digit, digits_front, after_digits, is_mark, digits_alone, after_mark_of, power_of, parts_with, after_point_of, parts_behind, parts_of, reading_by, reading_of}

digit_small : (c : ℕ) → is_digit c ≡ true → c < 128
digit_small c is = grind (arith, nat_tests)

mark_small : (c : ℕ) → is_mark c ≡ true → c < 128
mark_small c is = at (c == small_mark) (c == capital_mark) refl refl is
  where
    at : (a b : Bool) → (c == small_mark) ≡ a → (c == capital_mark) ≡ b → (a || b) ≡ true → c < 128
    at true b first second either = omega (arith, eqb-true c small_mark first)
    at false true first second either = omega (arith, eqb-true c capital_mark second)
    at false false first second either = cc

-- digits, and what is after them
digits_ascii : (cs : List ℕ) → list_all is_digit cs ≡ true → IsAscii cs
digits_ascii [] all = IsAscii-nil
digits_ascii (c ∷ cs) all = at (is_digit c) (list_all is_digit cs) refl refl (digits_ascii cs) all
  where
    at : (a b : Bool) → is_digit c ≡ a → list_all is_digit cs ≡ b → (list_all is_digit cs ≡ true → IsAscii cs) → (a && b) ≡ true → IsAscii (c ∷ cs)
    at true true one rest more both = IsAscii-cons c cs (digit_small c one) (more rest)
    at true false one rest more both = cc
    at false b one rest more both = cc

behind_ascii : (cs : List ℕ) → IsAscii (after_digits cs) → IsAscii cs
behind_ascii [] behind = IsAscii-nil
behind_ascii (c ∷ cs) behind = at (is_digit c) refl (behind_ascii cs) behind
  where
    at : (b : Bool) → is_digit c ≡ b → (IsAscii (after_digits cs) → IsAscii cs) → IsAscii (if b then after_digits cs else c ∷ cs) → IsAscii (c ∷ cs)
    at true one more rest = IsAscii-cons c cs (digit_small c one) (more rest)
    at false one more rest = rest

-- an exponent
alone_ascii : (negative : Bool) (cs : List ℕ) (power : Bool × List ℕ) → digits_alone negative cs ≡ Some power → IsAscii cs
alone_ascii negative [] power is = IsAscii-nil
alone_ascii negative (c ∷ cs) power is = at (list_all is_digit (c ∷ cs)) refl is
  where
    at : (b : Bool) → list_all is_digit (c ∷ cs) ≡ b → (if b then Some (negative, c ∷ cs) else None) ≡ Some power → IsAscii (c ∷ cs)
    at true all is = digits_ascii (c ∷ cs) all
    at false all is = cc

mark_ascii : (cs : List ℕ) (power : Bool × List ℕ) → after_mark_of cs ≡ Some power → IsAscii cs
mark_ascii [] power is = IsAscii-nil
mark_ascii (c ∷ cs) power is = at (c == minus) refl is
  where
    at : (b : Bool) → (c == minus) ≡ b → (if b then digits_alone true cs else digits_alone false (c ∷ cs)) ≡ Some power → IsAscii (c ∷ cs)
    at true sign is = IsAscii-cons c cs (omega (arith, eqb-true c minus sign)) (alone_ascii true cs power is)
    at false sign is = alone_ascii false (c ∷ cs) power is

power_ascii : (cs : List ℕ) (power : Bool × List ℕ) → power_of cs ≡ Some power → IsAscii cs
power_ascii [] power is = IsAscii-nil
power_ascii (c ∷ cs) power is = at (is_mark c) refl is
  where
    at : (b : Bool) → is_mark c ≡ b → (if b then after_mark_of cs else None) ≡ Some power → IsAscii (c ∷ cs)
    at true mark is = IsAscii-cons c cs (mark_small c mark) (mark_ascii cs power is)
    at false mark is = cc

-- the parts of a text
power_there : (integer fraction : List ℕ) (power : Option (Bool × List ℕ)) (parts : Parts) → parts_with integer fraction power ≡ Some parts → (there : Bool × List ℕ) × (power ≡ Some there)
power_there integer fraction None parts is = cc
power_there integer fraction (Some power) parts is = (power, refl)

last_ascii : (integer fraction cs : List ℕ) (parts : Parts) → parts_with integer fraction (power_of cs) ≡ Some parts → IsAscii cs
last_ascii integer fraction cs parts is = let power = power_there integer fraction (power_of cs) parts is in power_ascii cs power.0 power.1

point_ascii : (integer digits last : List ℕ) (parts : Parts) → after_point_of integer digits last ≡ Some parts → IsAscii last
point_ascii integer [] last parts is = cc
point_ascii integer (c ∷ cs) last parts is = last_ascii integer (c ∷ cs) last parts is

rest_ascii : (integer cs : List ℕ) (parts : Parts) → parts_behind integer cs ≡ Some parts → IsAscii cs
rest_ascii integer [] parts is = IsAscii-nil
rest_ascii integer (c ∷ cs) parts is = at (c == point) refl is
  where
    at : (b : Bool) → (c == point) ≡ b → (if b then after_point_of integer (digits_front cs) (after_digits cs) else parts_with integer [] (power_of (c ∷ cs))) ≡ Some parts → IsAscii (c ∷ cs)
    at true mark is = IsAscii-cons c cs (omega (arith, eqb-true c point mark)) (behind_ascii cs (point_ascii integer (digits_front cs) (after_digits cs) parts is))
    at false mark is = last_ascii integer [] (c ∷ cs) parts is

parts_ascii : (sign : Sign) (text : List ℕ) (found : Option Parts) → parts_of text ≡ found → (reading_by sign found ≡ nothing → ⊥) → IsAscii text
parts_ascii sign text None is some = absurd (some refl)
parts_ascii sign text (Some parts) is some = behind_ascii text (rest_ascii (digits_front text) (after_digits text) parts is)

reading_ascii : (text : List ℕ) → (reading_of text ≡ nothing → ⊥) → IsAscii text
reading_ascii [] some = IsAscii-nil
reading_ascii (c ∷ cs) some = at (c == plus) (c == minus) refl refl some
  where
    at : (a b : Bool) → (c == plus) ≡ a → (c == minus) ≡ b
        → ((if a then reading_by Positive (parts_of cs) else if b then reading_by Negative (parts_of cs) else reading_by Unsigned (parts_of (c ∷ cs))) ≡ nothing → ⊥) → IsAscii (c ∷ cs)
    at true b first second some = IsAscii-cons c cs (omega (arith, eqb-true c plus first)) (parts_ascii Positive cs (parts_of cs) refl some)
    at false true first second some = IsAscii-cons c cs (omega (arith, eqb-true c minus second)) (parts_ascii Negative cs (parts_of cs) refl some)
    at false false first second some = parts_ascii Unsigned (c ∷ cs) (parts_of (c ∷ cs)) refl some

is_text : (text : List ℕ) → (reading_of text ≡ nothing → ⊥) → is_utf8 text ≡ true
is_text text some = is_utf8-from_IsUtf8 text (IsUtf8-from_ascii text (reading_ascii text some))

number_apart : (value : SignedValue Number) → number value ≡ nothing → ⊥
number_apart value is = cc

beyond_apart : beyond ≡ nothing → ⊥
beyond_apart is = cc

pub number_is_text : (text : List ℕ) (value : SignedValue Number) → reading_of text ≡ number value → is_utf8 text ≡ true
number_is_text text value is = is_text text (λ none. number_apart value (sym is ∙ none))

pub beyond_is_text : (text : List ℕ) → reading_of text ≡ beyond → is_utf8 text ≡ true
beyond_is_text text is = is_text text (λ none. beyond_apart (sym is ∙ none))
