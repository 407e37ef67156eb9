-- The classes of subtags exclude each other, by length or by a character.
use Rattle.std.proofs.Common.{◌≡◌, ◌<◌, ◌≤◌, ℕ, Bool, true, false, ◌&&◌, ◌||◌, [], ◌∷◌, length, eqb, leb, refl, ap, ◌∙◌, inl, inr, ◌⊎◌, arith}
use Rattle.std.specs.List.{list_all}
use Rattle.std.specs.Char.{is_ascii_alphabetic, is_ascii_alphanumeric, is_ascii_digit}
use Rattle.std.specs.Int.{is_in_range}
use Rattle.std.proofs.lemmas.Bool.{and_parts, and_left, or_cases, or_from, leb-true, lt-leb, eqb-true, ne_eqb}
use Rattle.std.proofs.lemmas.Bool.Decides.{nat_tests}
use Rattle.icu_locale_core_grammar.specs.Subtags.{Text, has_characters, is_language, is_script, is_region, is_variant, begins_with_digit, is_singleton, is_single, is_value, is_key, is_field_key, is_other_piece}

-- ---- lengths

pub single_length : (p : Text) → is_single p ≡ true → length p ≡ 1
single_length p e = eqb-true (length p) 1 e

pub key_length : (p : Text) → is_key p ≡ true → length p ≡ 2
key_length [] e = cc
key_length (a ∷ []) e = cc
key_length (a ∷ b ∷ []) e = refl
key_length (a ∷ b ∷ c ∷ rest) e = cc

pub field_key_length : (p : Text) → is_field_key p ≡ true → length p ≡ 2
field_key_length [] e = cc
field_key_length (a ∷ []) e = cc
field_key_length (a ∷ b ∷ []) e = refl
field_key_length (a ∷ b ∷ c ∷ rest) e = cc

-- too short for a class
pub too_short : (least most : ℕ) (p : Text) → length p < least → has_characters least most p ≡ false
too_short least most p h =
    and_left (is_in_range least most (length p)) (list_all is_ascii_alphanumeric p) (and_left (leb least (length p)) (leb (length p) most) (lt-leb least (length p) h))

-- ---- what one character is not

pub singleton_single : (p : Text) → is_singleton p ≡ true → is_single p ≡ true
singleton_single p e =
    let range = (and_parts (is_in_range 1 1 (length p)) (list_all is_ascii_alphanumeric p) e).0 in
    let ends = and_parts (leb 1 (length p)) (leb (length p) 1) range in
    let low : 1 ≤ length p = leb-true 1 (length p) ends.0 in
    let high : length p ≤ 1 = leb-true (length p) 1 ends.1 in
    let one : length p ≡ 1 = omega arith in
    ap (λ n. eqb n 1) one

pub single_no_language : (p : Text) → is_single p ≡ true → is_language p ≡ false
single_no_language p e = ap (λ n. is_in_range 2 3 n && list_all is_ascii_alphabetic p) (single_length p e)

pub single_no_script : (p : Text) → is_single p ≡ true → is_script p ≡ false
single_no_script p e = ap (λ n. eqb n 4 && list_all is_ascii_alphabetic p) (single_length p e)

pub single_no_region : (p : Text) → is_single p ≡ true → is_region p ≡ false
single_no_region p e = ap (λ n. (eqb n 2 && list_all is_ascii_alphabetic p) || (eqb n 3 && list_all is_ascii_digit p)) (single_length p e)

pub single_no_variant : (p : Text) → is_single p ≡ true → is_variant p ≡ false
single_no_variant p e = ap (λ n. (is_in_range 5 8 n && list_all is_ascii_alphanumeric p) || ((is_in_range 4 4 n && list_all is_ascii_alphanumeric p) && begins_with_digit p)) (single_length p e)

pub single_no_value : (p : Text) → is_single p ≡ true → is_value p ≡ false
single_no_value p e = ap (λ n. is_in_range 3 8 n && list_all is_ascii_alphanumeric p) (single_length p e)

pub single_no_other_piece : (p : Text) → is_single p ≡ true → is_other_piece p ≡ false
single_no_other_piece p e = ap (λ n. is_in_range 2 8 n && list_all is_ascii_alphanumeric p) (single_length p e)

pub single_no_key : (p : Text) → is_single p ≡ true → is_key p ≡ false
single_no_key [] e = refl
single_no_key (a ∷ []) e = refl
single_no_key (a ∷ b ∷ rest) e = let f = single_length (a ∷ b ∷ rest) e in absurd (omega arith)

pub single_no_field_key : (p : Text) → is_single p ≡ true → is_field_key p ≡ false
single_no_field_key [] e = refl
single_no_field_key (a ∷ []) e = refl
single_no_field_key (a ∷ b ∷ rest) e = let f = single_length (a ∷ b ∷ rest) e in absurd (omega arith)

-- ---- what a key is not

pub key_no_value : (p : Text) → is_key p ≡ true → is_value p ≡ false
key_no_value p e = ap (λ n. is_in_range 3 8 n && list_all is_ascii_alphanumeric p) (key_length p e)

pub field_key_no_value : (p : Text) → is_field_key p ≡ true → is_value p ≡ false
field_key_no_value p e = ap (λ n. is_in_range 3 8 n && list_all is_ascii_alphanumeric p) (field_key_length p e)

pub field_key_no_variant : (p : Text) → is_field_key p ≡ true → is_variant p ≡ false
field_key_no_variant p e = ap (λ n. (is_in_range 5 8 n && list_all is_ascii_alphanumeric p) || ((is_in_range 4 4 n && list_all is_ascii_alphanumeric p) && begins_with_digit p)) (field_key_length p e)

pub field_key_no_script : (p : Text) → is_field_key p ≡ true → is_script p ≡ false
field_key_no_script p e = ap (λ n. eqb n 4 && list_all is_ascii_alphabetic p) (field_key_length p e)

pub digit_no_letter : (b : ℕ) → is_ascii_digit b ≡ true → is_ascii_alphabetic b ≡ false
digit_no_letter b e = grind (arith, nat_tests)

-- two characters of which the second is a digit are no word of letters
field_key_no_letters : (p : Text) → is_field_key p ≡ true → list_all is_ascii_alphabetic p ≡ false
field_key_no_letters [] e = cc
field_key_no_letters (a ∷ []) e = cc
field_key_no_letters (a ∷ b ∷ []) e =
    let f = digit_no_letter b (and_parts (is_ascii_alphabetic a) (is_ascii_digit b) e).1 in
    ap (λ x. is_ascii_alphabetic a && (x && true)) f ∙ second (is_ascii_alphabetic a)
  where
    second : (x : Bool) → (x && false) ≡ false
    second true = refl
    second false = refl
field_key_no_letters (a ∷ b ∷ c ∷ rest) e = cc

pub field_key_no_language : (p : Text) → is_field_key p ≡ true → is_language p ≡ false
field_key_no_language p e = ap (λ n. is_in_range 2 3 n && list_all is_ascii_alphabetic p) (field_key_length p e) ∙ field_key_no_letters p e

pub field_key_no_region : (p : Text) → is_field_key p ≡ true → is_region p ≡ false
field_key_no_region p e =
    ap (λ n. (eqb n 2 && list_all is_ascii_alphabetic p) || (eqb n 3 && list_all is_ascii_digit p)) (field_key_length p e)
    ∙ ap (λ b. b || false) (field_key_no_letters p e)

-- ---- what a region or a variant is not

region_length : (p : Text) → is_region p ≡ true → length p ≤ 3
region_length p e = by_case (or_cases (eqb (length p) 2 && list_all is_ascii_alphabetic p) (eqb (length p) 3 && list_all is_ascii_digit p) e)
  where
    by_case : ((eqb (length p) 2 && list_all is_ascii_alphabetic p) ≡ true) ⊎ ((eqb (length p) 3 && list_all is_ascii_digit p) ≡ true) → length p ≤ 3
    by_case (inl f) = let g = eqb-true (length p) 2 (and_parts (eqb (length p) 2) (list_all is_ascii_alphabetic p) f).0 in omega arith
    by_case (inr f) = let g = eqb-true (length p) 3 (and_parts (eqb (length p) 3) (list_all is_ascii_digit p) f).0 in omega arith

pub region_no_script : (p : Text) → is_region p ≡ true → is_script p ≡ false
region_no_script p e =
    let f = region_length p e in
    let g : eqb (length p) 4 ≡ false = ne_eqb (length p) 4 (λ h. omega arith) in
    ap (λ b. b && list_all is_ascii_alphabetic p) g

-- a word of 5 to 8, or one of 4 that begins with a digit
variant_cases : (p : Text) → is_variant p ≡ true → (5 ≤ length p) ⊎ ((length p ≡ 4) × (begins_with_digit p ≡ true))
variant_cases p e = by_case (or_cases (has_characters 5 8 p) (has_characters 4 4 p && begins_with_digit p) e)
  where
    by_case : (has_characters 5 8 p ≡ true) ⊎ ((has_characters 4 4 p && begins_with_digit p) ≡ true) → (5 ≤ length p) ⊎ ((length p ≡ 4) × (begins_with_digit p ≡ true))
    by_case (inl f) = inl (leb-true 5 (length p) (and_parts (leb 5 (length p)) (leb (length p) 8) (and_parts (is_in_range 5 8 (length p)) (list_all is_ascii_alphanumeric p) f).0).0)
    by_case (inr f) =
        let g = and_parts (has_characters 4 4 p) (begins_with_digit p) f in
        let r = and_parts (leb 4 (length p)) (leb (length p) 4) (and_parts (is_in_range 4 4 (length p)) (list_all is_ascii_alphanumeric p) g.0).0 in
        let low = leb-true 4 (length p) r.0 in
        let high = leb-true (length p) 4 r.1 in
        let four : length p ≡ 4 = omega arith in
        inr (four, g.1)

digit_first_no_letters : (p : Text) → begins_with_digit p ≡ true → list_all is_ascii_alphabetic p ≡ false
digit_first_no_letters [] e = cc
digit_first_no_letters (a ∷ rest) e = ap (λ x. x && list_all is_ascii_alphabetic rest) (digit_no_letter a e)

pub variant_no_script : (p : Text) → is_variant p ≡ true → is_script p ≡ false
variant_no_script p e = by_case (variant_cases p e)
  where
    by_case : (5 ≤ length p) ⊎ ((length p ≡ 4) × (begins_with_digit p ≡ true)) → is_script p ≡ false
    by_case (inl f) = ap (λ b. b && list_all is_ascii_alphabetic p) (ne_eqb (length p) 4 (λ h. omega arith))
    by_case (inr f) = ap (λ n. eqb n 4 && list_all is_ascii_alphabetic p) f.0 ∙ digit_first_no_letters p f.1

pub variant_no_region : (p : Text) → is_variant p ≡ true → is_region p ≡ false
variant_no_region p e = by_case (variant_cases p e)
  where
    long : 4 ≤ length p → is_region p ≡ false
    long h = or_from (eqb (length p) 2 && list_all is_ascii_alphabetic p) (eqb (length p) 3 && list_all is_ascii_digit p)
        (ap (λ b. b && list_all is_ascii_alphabetic p) (ne_eqb (length p) 2 (λ g. omega arith)))
        (ap (λ b. b && list_all is_ascii_digit p) (ne_eqb (length p) 3 (λ g. omega arith)))

    by_case : (5 ≤ length p) ⊎ ((length p ≡ 4) × (begins_with_digit p ≡ true)) → is_region p ≡ false
    by_case (inl f) = long (omega arith)
    by_case (inr f) = let g = f.0 in long (omega arith)
