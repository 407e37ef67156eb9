-- Rows of docs/small-text.md, so that a wrong definition does not pass.
use Rattle.std.proofs.Common.{◌≡◌, ℕ, ◌%◌, Bool, true, false, inl, inr, List, [], ◌∷◌, ◌++◌, map, take, get_or, codes, refl, ap, arith, lit≤}
use Rattle.std.specs.List.{list_all}
use Rattle.std.specs.Char.{is_ascii_alphabetic, is_ascii_alphanumeric, is_ascii_digit, is_ascii_uppercase, is_ascii_lowercase}
use Rattle.tinystr.specs.declared.error.ParseError.TheVariants.{TooLong, ContainsNull, NonAscii}
use Rattle.tinystr.specs.declared.error.UleError.TheVariants.{Length}
use Rattle.tinystr.specs.SmallText.{IsForm, padded, text_of}
use Rattle.tinystr.specs.Faults.{IsFault, IsClean}
use Rattle.tinystr.specs.Classes.{is_in_class, is_not_uppercase, is_not_lowercase}
use Rattle.tinystr.specs.Case.{lowercase, uppercase, titlecase}
use Rattle.tinystr.specs.Lossy.{kept_or_replacement}
use Rattle.tinystr.specs.Decimal.{IsDecimalText}
use Rattle.tinystr.specs.Forms.{AreForms, IsUleFault}

raised : uppercase (codes "tEsT") ≡ codes "TEST"
raised = refl

lowered : lowercase (codes "tEsT") ≡ codes "test"
lowered = refl

titled : titlecase (codes "tEsT") ≡ codes "Test"
titled = refl

digits_stay : titlecase (codes "1aB[`") ≡ codes "1ab[`"
digits_stay = refl

hello_is_too_long : IsFault true 4 (codes "hello") (TooLong 4 5)
hello_is_too_long = (lit≤ tt, refl, refl)

-- `a` and a NUL
a_nul : IsClean 1 (97 ∷ 0 ∷ [])
a_nul = record { text = codes "a"; ascii = refl; whole = refl }

after_a_nul : IsFault true 4 (97 ∷ 0 ∷ 98 ∷ []) ContainsNull
after_a_nul = (lit≤ tt, inl (record { front = 97 ∷ 0 ∷ []; nuls = 0; unit = 98; rest = []; clean = a_nul; whole = refl; behind = refl }))

above_after_a_nul : IsFault true 4 (97 ∷ 0 ∷ 200 ∷ []) NonAscii
above_after_a_nul = (lit≤ tt, record { front = 97 ∷ 0 ∷ []; nuls = 1; unit = 200; rest = []; clean = a_nul; whole = refl; above = lit≤ tt })

ends_in_a_nul : IsFault true 4 (97 ∷ 0 ∷ []) ContainsNull
ends_in_a_nul = (lit≤ tt, inr (refl, record { nuls = 0; clean = a_nul }))

-- N bytes may end in NULs
raw_a : text_of (97 ∷ 0 ∷ 0 ∷ 0 ∷ []) ≡ codes "a"
raw_a = refl

raw_a_is_form : IsForm 4 (97 ∷ 0 ∷ 0 ∷ 0 ∷ [])
unfolding padded
raw_a_is_form = record { small = record { short = lit≤ tt; ascii = refl }; rest = refl }

und_is_form : IsForm 3 (codes "und")
unfolding padded
und_is_form = record { small = record { short = lit≤ tt; ascii = refl }; rest = refl }

filled : padded 4 (codes "ab") ≡ 97 ∷ 98 ∷ 0 ∷ 0 ∷ []
unfolding padded
filled = refl

replaced : map (kept_or_replacement 63) (take 4 (97 ∷ 0 ∷ 255 ∷ 98 ∷ 99 ∷ [])) ≡ codes "a??b"
replaced = refl

joined : take 5 (codes "ab" ++ codes "cdef") ≡ codes "abcde"
joined = refl

decimal : IsDecimalText 12345 (codes "12345")
decimal = record { digits = refl; named = refl; some = lit≤ tt; shortest = λ rest e. let h : 49 ≡ 48 = ap (λ (l : List ℕ). get_or l 0 0) e in absurd (omega arith) }

zero_decimal : IsDecimalText 0 (codes "0")
zero_decimal = record { digits = refl; named = refl; some = lit≤ tt; shortest = λ rest e. let h : 48 ∷ [] ≡ 48 ∷ rest = e in cc }

-- every class holds of the empty text
empty_classes : List Bool
empty_classes = list_all is_ascii_alphabetic [] ∷ list_all is_ascii_alphanumeric [] ∷ list_all is_ascii_digit [] ∷ list_all is_not_uppercase [] ∷ list_all is_not_lowercase []
    ∷ is_in_class is_not_lowercase is_not_uppercase [] ∷ list_all is_ascii_lowercase [] ∷ list_all is_ascii_uppercase [] ∷ is_in_class is_ascii_uppercase is_ascii_lowercase [] ∷ []

empty_in_all : list_all (λ b. b) empty_classes ≡ true
unfolding empty_classes
empty_in_all = refl

-- the bytes at the edges of the classes
edges : List ℕ
edges = 1 ∷ 47 ∷ 48 ∷ 57 ∷ 58 ∷ 64 ∷ 65 ∷ 90 ∷ 91 ∷ 96 ∷ 97 ∷ 122 ∷ 123 ∷ 127 ∷ []

letters : map is_ascii_alphabetic edges ≡ false ∷ false ∷ false ∷ false ∷ false ∷ false ∷ true ∷ true ∷ false ∷ false ∷ true ∷ true ∷ false ∷ false ∷ []
unfolding edges
letters = refl

digits : map is_ascii_digit edges ≡ false ∷ false ∷ true ∷ true ∷ false ∷ false ∷ false ∷ false ∷ false ∷ false ∷ false ∷ false ∷ false ∷ false ∷ []
unfolding edges
digits = refl

no_uppers : map is_not_uppercase edges ≡ true ∷ true ∷ true ∷ true ∷ true ∷ true ∷ false ∷ false ∷ true ∷ true ∷ true ∷ true ∷ true ∷ true ∷ []
unfolding edges
no_uppers = refl

no_lowers : map is_not_lowercase edges ≡ true ∷ true ∷ true ∷ true ∷ true ∷ true ∷ true ∷ true ∷ true ∷ true ∷ false ∷ false ∷ true ∷ true ∷ []
unfolding edges
no_lowers = refl

-- two forms joined, and a count that 4 does not divide
two_forms : AreForms 2 (97 ∷ 0 ∷ 98 ∷ 0 ∷ [])
unfolding padded
two_forms = record {
  texts = codes "a" ∷ codes "b" ∷ [];
  small = (record { short = lit≤ tt; ascii = refl }, (record { short = lit≤ tt; ascii = refl }, tt));
  joined = refl;
}

five_at_4 : IsUleFault (5 % 4 ≡ 0) (AreForms 4 (1 ∷ 2 ∷ 3 ∷ 4 ∷ 5 ∷ [])) (1 ∷ 2 ∷ 3 ∷ 4 ∷ 5 ∷ []) (Length 5)
five_at_4 = (refl, λ e. let h : 1 ≡ 0 = e in cc)
