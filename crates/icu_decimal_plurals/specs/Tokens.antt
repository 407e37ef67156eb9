-- The tokens of a condition: words, numbers and signs, each as long as it can be, with blanks between them.
-- UTS 35, part 3 (numbers), section 5.1 (plural rules syntax); docs/plurals.md, "Tokens".
-- Cited by `PluralRules::new`, through Reading.antt, and by the private `tokens`.
use Rattle.std.specs.Prelude.{ℕ, Bool, false, cond, ◌&&◌, ◌||◌, ◌==◌, nat_le, nat_lt, if◌then◌else◌, List, [], ◌∷◌, length, Option, None, Some, codes, option_map, option_and_then}
use Rattle.std.specs.Char.{is_ascii_digit, is_ascii_lowercase}
use Rattle.std.specs.List.{list_all, onto_first}
use Rattle.std.specs.Option.{option_or}
use Rattle.std.specs.Str.{bytes_eq}
use Rattle.std.specs.Str.Parse.{digits_value}
use Rattle.icu_decimal_plurals.specs.declared.operand.Operand.{Operand}
use Rattle.icu_decimal_plurals.specs.declared.operand.Operand.TheVariants.{N, I, V, W, F, T, C}
use Rattle.icu_decimal_plurals.specs.declared.token.Token.{Token}
use Rattle.icu_decimal_plurals.specs.declared.token.Token.TheVariants.{And, Or, Name, Whole, Percent, Equals, NotEquals, Comma, Dots}

-- the characters that make no token alone, or are looked at one by one
abbrev pub blank : ℕ
blank = 32

abbrev pub bang : ℕ
bang = 33

abbrev pub dot : ℕ
dot = 46

abbrev pub equals_sign : ℕ
equals_sign = 61

-- two characters, the one right after the other, belong to one piece
abbrev pub is_joined : ℕ → ℕ → Bool
is_joined c d =
    (is_ascii_lowercase c && is_ascii_lowercase d)
    || ((is_ascii_digit c && is_ascii_digit d)
    || ((c == blank && d == blank)
    || ((c == bang && d == equals_sign)
    || (c == dot && d == dot))))

abbrev pub joins_next : ℕ → List ℕ → Bool
joins_next c [] = false
joins_next c (d ∷ rest) = is_joined c d

-- the longest pieces of joined characters
abbrev pub pieces : List ℕ → List (List ℕ)
pieces [] = []
pieces (c ∷ cs) = cond (joins_next c cs) (onto_first c (pieces cs)) ((c ∷ []) ∷ pieces cs)

-- the word or the sign that a piece is
abbrev pub sign_of : List ℕ → Option Token
sign_of piece =
    if bytes_eq piece (codes "and") then Some And
    else if bytes_eq piece (codes "or") then Some Or
    else if bytes_eq piece (codes "%") then Some Percent
    else if bytes_eq piece (codes "=") then Some Equals
    else if bytes_eq piece (codes "!=") then Some NotEquals
    else if bytes_eq piece (codes ",") then Some Comma
    else if bytes_eq piece (codes "..") then Some Dots
    else None

-- the operand that a piece names
abbrev pub operand_of : List ℕ → Option Operand
operand_of piece =
    if bytes_eq piece (codes "n") then Some N
    else if bytes_eq piece (codes "i") then Some I
    else if bytes_eq piece (codes "v") then Some V
    else if bytes_eq piece (codes "w") then Some W
    else if bytes_eq piece (codes "f") then Some F
    else if bytes_eq piece (codes "t") then Some T
    else if bytes_eq piece (codes "c") then Some C
    else if bytes_eq piece (codes "e") then Some C
    else None

-- one to eighteen digits
abbrev pub is_number : List ℕ → Bool
is_number piece = nat_lt 0 (length piece) && (nat_le (length piece) 18 && list_all is_ascii_digit piece)

-- the number that a piece writes
abbrev pub number_of : List ℕ → Option ℕ
number_of piece = cond (is_number piece) (Some (digits_value 10 piece)) None

-- the token that a piece is
abbrev pub token_of : List ℕ → Option Token
token_of piece = option_or (sign_of piece) (option_or (option_map (λ o. Name o) (operand_of piece)) (option_map (λ n. Whole n) (number_of piece)))

-- the piece holds blanks alone
abbrev pub is_blank : List ℕ → Bool
is_blank piece = list_all (λ c. c == blank) piece

-- the tokens that pieces are, where each but the blanks is one
abbrev pub tokens_in : List (List ℕ) → Option (List Token)
tokens_in [] = Some []
tokens_in (piece ∷ rest) = cond (is_blank piece) (tokens_in rest) (option_and_then (λ token. option_map (λ tokens. token ∷ tokens) (tokens_in rest)) (token_of piece))

abbrev pub tokens_of : List ℕ → Option (List Token)
tokens_of text = tokens_in (pieces text)
