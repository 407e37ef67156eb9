-- Chains at known values: the step down of numbers.
use Rattle.std.proofs.Common.{◌≡◌, ℕ, zero, suc, [], ◌∷◌, Option, None, Some, refl}
use Rattle.icu_decimal_chains.specs.Chains.{Follows, walk, chain, after, ComesBack}

abbrev below : ℕ → Option ℕ
below zero = None
below (suc n) = Some n

abbrev same_again : ℕ → Option ℕ
same_again n = Some n

follows_down : Follows below 2 (1 ∷ 0 ∷ [])
follows_down = (refl, (refl, refl))

whole_walk : walk below 9 2 ≡ 1 ∷ 0 ∷ []
whole_walk = refl

short_walk : walk below 1 2 ≡ 1 ∷ []
short_walk = refl

no_walk : chain below 0 2 ≡ 2 ∷ []
no_walk = refl

two_after : after below 2 2 ≡ Some 0
two_after = refl

none_after : after below 3 2 ≡ None
none_after = refl

back_at_once : ComesBack same_again 7
back_at_once = (0, refl)
