-- More than three words are no rounding; two counts at least are those of significant digits.
use Rattle.std.proofs.Common.{◌≡◌, ◌+◌, ℕ, List, [], ◌∷◌, None, length, refl, arith}
use Rattle.std.specs.List.{count_by}
use Rattle.std.proofs.lemmas.List.Splits.{length-slice_split}
use Rattle.locale_numbers_formats.specs.Cutting.{cut_at, is_separator}
use Rattle.fixed_decimal.specs.NumberText.{minus}
use Rattle.locale_numbers_requests.specs.RoundingField.{comma, significant_in}
use Rattle.legumeyet_options.specs.Digits.{round_in, significant_counts}

one_more : (a b c : List ℕ) (more : List (List ℕ)) (n : ℕ) → length more ≡ n + 1 → round_in (a ∷ b ∷ c ∷ more) ≡ None
one_more a b c [] n is = absurd (omega arith)
one_more a b c (d ∷ more) n is = refl

pub more_than_three : (a b c rest : List ℕ) → round_in (a ∷ b ∷ c ∷ cut_at comma rest) ≡ None
more_than_three a b c rest = one_more a b c (cut_at comma rest) (count_by (is_separator comma) rest) (length-slice_split (is_separator comma) rest)

behind : (a : List ℕ) (pieces : List (List ℕ)) (n : ℕ) → length pieces ≡ n + 1 → significant_in (a ∷ pieces) ≡ significant_counts (a ∷ pieces)
behind a [] n is = absurd (omega arith)
behind a (b ∷ more) n is = refl

pub two_or_more : (a rest : List ℕ) → significant_in (a ∷ cut_at minus rest) ≡ significant_counts (a ∷ cut_at minus rest)
two_or_more a rest = behind a (cut_at minus rest) (count_by (is_separator minus) rest) (length-slice_split (is_separator minus) rest)
