-- The word of a scientific notation, as normal texts have it, is read as that notation.
use Rattle.std.proofs.Common.{◌≡◌, ◌≢◌, ℕ, zero, suc, ◌+◌, ◌≤◌, nat_lt, Bool, false, List, [], ◌∷◌, ◌++◌, length, Option, Some, None, codes, cond, refl, ap, ◌∙◌, arith}
use Rattle.std.specs.List.{onto_first}
use Rattle.std.proofs.lemmas.Bool.{eq-eqb, le-ltb, lt-ltb, ne_eqb}
use Rattle.std.proofs.lemmas.List.{length-append}
use Rattle.std.proofs.lemmas.List.Splits.{slice_split-cons_no}
use Rattle.icu_decimal_scientific.specs.declared.notation.ScientificNotation.{ScientificNotation}
use Rattle.icu_decimal_scientific.specs.declared.notation.ScientificNotation.TheVariants.{Scientific, Engineering}
use Rattle.icu_decimal_scientific.specs.declared.shown.ExponentOptions.{ExponentOptions}
use Rattle.icu_decimal_scientific.specs.declared.shown.ExponentSign.{ExponentSign}
use Rattle.icu_decimal_scientific.specs.declared.shown.ExponentSign.TheVariants.{Auto, Always}
use Rattle.locale_numbers_formats.specs.Cutting.{cut_at, is_separator}
use Rattle.locale_numbers_formats.specs.ExponentWords.{exponent_options, least_shown, option_by, or_refused, read_options, shown_by, slash}
use Rattle.locale_numbers_formats.specs.NormalText.{exponent_mark, exponent_sign_mark, marks, scientific_stem}
use Rattle.locale_numbers_formats.specs.Runs.{leading, marks_alone}
use Rattle.locale_numbers_formats.specs.StemTable.{usual_exponents}
use Rattle.locale_numbers_formats.specs.Stems.{setting_named, slashed_at}
use Rattle.locale_numbers_formats.proofs.IncrementReads.{length_marks}

-- ---- marks of one kind

pub leading_run : (mark count : ℕ) (rest : List ℕ) → leading mark rest ≡ 0 → leading mark (marks count (mark ∷ []) ++ rest) ≡ count
leading_run mark zero rest none = none
leading_run mark (suc count) rest none =
    ap (λ (b : Bool). cond b (1 + leading mark (marks count (mark ∷ []) ++ rest)) 0) (eq-eqb mark mark refl) ∙ omega (arith, leading_run mark count rest none)

pub alone_are : (mark digits : ℕ) → suc digits ≤ 100 → marks_alone mark (marks (suc digits) (mark ∷ []) ++ []) ≡ Some (suc digits)
alone_are mark digits few =
    ap (λ (b : Bool). cond b None (cond (nat_lt (leading mark run) (length run)) None (Some (length run)))) short
    ∙ ap (λ (b : Bool). cond b None (Some (length run))) all
    ∙ ap Some many
  where
    run : List ℕ
    run = marks (suc digits) (mark ∷ []) ++ []

    many : length run ≡ suc digits
    many = let long = length_marks (suc digits) mark [] in omega (arith, long)

    short : nat_lt 100 (length run) ≡ false
    short = le-ltb 100 (length run) (omega (arith, many, few))

    all : nat_lt (leading mark run) (length run) ≡ false
    all = le-ltb (leading mark run) (length run) (let same = leading_run mark (suc digits) [] refl in omega (arith, many, same))

-- ---- options between slashes

cut_last : (count : ℕ) → cut_at slash (marks count (101 ∷ []) ++ []) ≡ (marks count (101 ∷ []) ++ []) ∷ []
cut_last zero = refl
cut_last (suc count) = slice_split-cons_no (is_separator slash) 101 (marks count (101 ∷ []) ++ []) refl ∙ ap (onto_first 101) (cut_last count)

cut_next : (count : ℕ) (rest : List ℕ) → cut_at slash (marks count (101 ∷ []) ++ slash ∷ rest) ≡ (marks count (101 ∷ []) ++ []) ∷ cut_at slash rest
cut_next zero rest = refl
cut_next (suc count) rest = slice_split-cons_no (is_separator slash) 101 (marks count (101 ∷ []) ++ slash ∷ rest) refl ∙ ap (onto_first 101) (cut_next count rest)

abbrev stars : ℕ → List ℕ
stars count = 42 ∷ (marks count (101 ∷ []) ++ [])

star_last : (count : ℕ) → cut_at slash (42 ∷ (marks count (101 ∷ []) ++ [])) ≡ stars count ∷ []
star_last count = slice_split-cons_no (is_separator slash) 42 (marks count (101 ∷ []) ++ []) refl ∙ ap (onto_first 42) (cut_last count)

star_next : (count : ℕ) (rest : List ℕ) → cut_at slash (42 ∷ (marks count (101 ∷ []) ++ slash ∷ rest)) ≡ stars count ∷ cut_at slash rest
star_next count rest = slice_split-cons_no (is_separator slash) 42 (marks count (101 ∷ []) ++ slash ∷ rest) refl ∙ ap (onto_first 42) (cut_next count rest)

-- digits that are not one are those asked for
asked : (digits : ℕ) → suc digits ≢ 1 → least_shown (suc digits) ≡ suc digits
asked digits other = ap (λ (b : Bool). cond b 0 (suc digits)) (ne_eqb (suc digits) 1 other)

abbrev options_with : ExponentSign → ℕ → ExponentOptions
options_with sign digits = record { sign = sign; least_digits = digits }

module _ (x : ScientificNotation) (digits : ℕ) (other : suc digits ≢ 1) (few : suc digits ≤ 100) where
  read_stars : (rest : List (List ℕ)) → read_options x (stars (suc digits) ∷ rest) usual_exponents ≡ read_options x rest (options_with Auto (suc digits))
  read_stars rest =
      ap (λ (o : Option ℕ). or_refused (λ v. read_options x rest v) (option_by usual_exponents o (stars (suc digits)))) (alone_are 101 digits few)
      ∙ ap (λ (n : ℕ). read_options x rest (options_with Auto n)) (asked digits other)

  padded_read : exponent_options x (42 ∷ (marks (suc digits) (101 ∷ []) ++ [])) ≡ shown_by x (options_with Auto (suc digits))
  padded_read = ap (λ (ws : List (List ℕ)). read_options x ws usual_exponents) (star_last (suc digits)) ∙ read_stars []

  both_read : exponent_options x (42 ∷ (marks (suc digits) (101 ∷ []) ++ codes "/sign-always")) ≡ shown_by x (options_with Always (suc digits))
  both_read = ap (λ (ws : List (List ℕ)). read_options x ws usual_exponents) (star_next (suc digits) (codes "sign-always")) ∙ read_stars (cut_at slash (codes "sign-always"))

  option_read : (sign : ExponentSign) → exponent_options x (42 ∷ (marks (suc digits) (101 ∷ []) ++ exponent_sign_mark sign)) ≡ shown_by x (options_with sign (suc digits))
  option_read Auto = padded_read
  option_read Always = both_read

-- ---- the word

pub scientific_named : (x : ScientificNotation) (digits : ℕ) (sign : ExponentSign) → digits ≢ 1 → digits ≤ 100
    → setting_named (scientific_stem x ++ (exponent_mark digits ++ exponent_sign_mark sign)) ≡ shown_by x (options_with sign digits)
scientific_named Scientific zero Auto other few = refl
scientific_named Scientific zero Always other few = refl
scientific_named Engineering zero Auto other few = refl
scientific_named Engineering zero Always other few = refl
scientific_named Scientific (suc digits) sign other few =
    ap (λ (b : Bool). slashed_at (cond b (Some 10) None) (codes "scientific/*" ++ option)) (lt-ltb 10 (length (codes "scientific/*" ++ option)) (omega (arith, length-append (codes "scientific/*") option)))
    ∙ option_read Scientific digits other few sign
  where
    option : List ℕ
    option = marks (suc digits) (101 ∷ []) ++ exponent_sign_mark sign
scientific_named Engineering (suc digits) sign other few =
    ap (λ (b : Bool). slashed_at (cond b (Some 11) None) (codes "engineering/*" ++ option)) (lt-ltb 11 (length (codes "engineering/*" ++ option)) (omega (arith, length-append (codes "engineering/*") option)))
    ∙ option_read Engineering digits other few sign
  where
    option : List ℕ
    option = marks (suc digits) (101 ∷ []) ++ exponent_sign_mark sign
