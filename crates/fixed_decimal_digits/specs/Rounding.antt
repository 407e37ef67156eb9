-- Which multiple a rounding takes: the next in a direction by order, or the nearest by distance with its tie rule.
-- Defined in docs/numbers.md, "Rounding".
-- Cited by every rounding call of `UnsignedDecimal` and `Decimal`.
use Rattle.std.specs.Prelude.{◌≡◌, ◌≢◌, ℕ, ◌+◌, ◌-◌, ◌*◌, ◌^◌, ◌<◌, ◌≤◌, ◌⊎◌}
use Rattle.fixed_decimal_digits.specs.declared.modes.UnsignedRoundingMode.{UnsignedRoundingMode}
use Rattle.fixed_decimal_digits.specs.declared.modes.UnsignedRoundingMode.TheVariants.{Expand, Trunc, HalfExpand, HalfTrunc, HalfEven}
use Rattle.fixed_decimal_digits.specs.declared.modes.RoundingIncrement.{RoundingIncrement}
use Rattle.fixed_decimal_digits.specs.declared.modes.RoundingIncrement.TheVariants.{MultiplesOf1, MultiplesOf2, MultiplesOf5, MultiplesOf25}

-- the number in the name of an increment
abbrev pub increment_number : RoundingIncrement → ℕ
increment_number MultiplesOf1 = 1
increment_number MultiplesOf2 = 2
increment_number MultiplesOf5 = 5
increment_number MultiplesOf25 = 25

-- m is a multiple of the unit
abbrev pub IsMultiple : ℕ → ℕ → Type 0
IsMultiple unit m = (count : ℕ) × (m ≡ count * unit)

-- how far two numbers lie apart
abbrev pub distance : ℕ → ℕ → ℕ
distance a b = (a - b) + (b - a)

-- m is the next multiple not above n
pub record IsTruncated (unit n m : ℕ) : Type 0 where
  pub multiple : IsMultiple unit m
  pub under : m ≤ n
  pub greatest : (other : ℕ) → IsMultiple unit other → other ≤ n → other ≤ m

-- m is the next multiple not below n
pub record IsExpanded (unit n m : ℕ) : Type 0 where
  pub multiple : IsMultiple unit m
  pub over : n ≤ m
  pub least : (other : ℕ) → IsMultiple unit other → n ≤ other → m ≤ other

-- m is the nearest multiple, and of two that are equally near the one that the tie rule takes over the other
pub record IsNearest (unit n m : ℕ) (takes : ℕ → Type 0) : Type 0 where
  pub multiple : IsMultiple unit m
  pub nearest : (other : ℕ) → IsMultiple unit other → distance n m ≤ distance n other
  pub tied : (other : ℕ) → IsMultiple unit other → other ≢ m → distance n other ≡ distance n m → takes other

-- m is the multiple that the mode names: a tie goes away from zero, towards zero, or to the even count of units
abbrev pub IsRounded : UnsignedRoundingMode → ℕ → ℕ → ℕ → Type 0
IsRounded Expand unit n m = IsExpanded unit n m
IsRounded Trunc unit n m = IsTruncated unit n m
IsRounded HalfExpand unit n m = IsNearest unit n m (λ other. other ≤ m)
IsRounded HalfTrunc unit n m = IsNearest unit n m (λ other. m ≤ other)
IsRounded HalfEven unit n m = IsNearest unit n m (λ _. IsMultiple (2 * unit) m)

-- the multiple that the mode names is an odd count of units
pub record TakesOdd (mode : UnsignedRoundingMode) (unit n : ℕ) : Type 0 where
  pub multiple : ℕ
  pub rounded : IsRounded mode unit n multiple
  pub odd : ¬ (IsMultiple (2 * unit) multiple)

-- the first count whose size is ten to the power 32768
unfoldable pub count_limit : ℕ
count_limit = 10 ^ 65536

-- a count itself, or zero in its place where it reaches the limit
abbrev pub IsLimited : ℕ → ℕ → Type 0
IsLimited count limited = ((count < count_limit) × (limited ≡ count)) ⊎ ((count_limit ≤ count) × (limited ≡ 0))

-- the count after a rounding: the multiple that the mode names, or zero in its place
pub record Takes (mode : UnsignedRoundingMode) (unit old new : ℕ) : Type 0 where
  pub multiple : ℕ
  pub rounded : IsRounded mode unit old multiple
  pub is : IsLimited multiple new
