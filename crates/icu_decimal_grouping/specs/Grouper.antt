-- The places of grouping separators: the integer digits as a list of groups, cut from the right.
-- After UTS 35, part 3 (numbers), grouping of number patterns; docs/plain-text.md, "Groups".
-- Cited by `grouper::check`, by `GroupSizes::of` and by the law of groups.
use Rattle.std.specs.Prelude.{ℕ, ◌+◌, ◌-◌, ◌*◌, ◌/◌, ◌%◌, max, Bool, true, false, cond, not, ◌&&◌, ◌||◌, ◌==◌, nat_le, List, [], ◌∷◌, ◌++◌, length, take, drop, replicate, sum, flat_map, ℤ, pos, negsuc}
use Rattle.icu_decimal_symbols.specs.declared.grouping_sizes.GroupingSizes.{GroupingSizes}
use Rattle.icu_decimal_symbols.specs.declared.options.GroupingStrategy.{GroupingStrategy}
use Rattle.icu_decimal_symbols.specs.declared.options.GroupingStrategy.TheVariants.{Auto, Never, Always, Min2, OnAligned}

-- the least count of digits before the last separator: at least one, at least two for `Min2`, and one for `OnAligned`, also where the locale asks for more
abbrev pub least_front : GroupingStrategy → ℕ → ℕ
least_front Auto n = max 1 n
least_front Never n = max 1 n
least_front Always n = max 1 n
least_front Min2 n = max 2 n
least_front OnAligned n = 1

-- every strategy but `Never` allows separators
abbrev pub may_group : GroupingStrategy → Bool
may_group Auto = true
may_group Never = false
may_group Always = true
may_group Min2 = true
may_group OnAligned = true

-- the size of a group that is neither the first nor the last: the secondary size, or the primary where that is 0
abbrev pub middle_size : GroupingSizes → ℕ
middle_size s = cond (s.secondary == 0) s.primary s.secondary

-- d digits have more than one group
abbrev pub is_grouped : GroupingStrategy → GroupingSizes → ℕ → Bool
is_grouped t s d =
    not (s.primary == 0) && (may_group t && nat_le (s.primary + least_front t s.min_grouping) d)

-- the sizes of the groups of d digits, from the left: the last has p, each before it q, the first the rest, at least
-- one
abbrev pub cut_sizes : ℕ → ℕ → ℕ → List ℕ
cut_sizes p q d =
    let k = (d - p - 1) / q in (d - p - k * q) ∷ (replicate k q ++ p ∷ [])

-- the sizes of the groups of d digits under a strategy
abbrev pub group_sizes : GroupingStrategy → GroupingSizes → ℕ → List ℕ
group_sizes t s d = cond (is_grouped t s d) (cut_sizes s.primary (middle_size s) d) (d ∷ [])

-- a list cut into parts of these sizes
abbrev pub cut_by : {A : Type 0} → List ℕ → List A → List (List A)
cut_by [] xs = []
cut_by (n ∷ ns) xs = take n xs ∷ cut_by ns (drop n xs)

-- the groups of the integer digits, from the left
abbrev pub groups : {A : Type 0} → GroupingStrategy → GroupingSizes → List A → List (List A)
groups t s xs = cut_by (group_sizes t s (length xs)) xs

-- the groups in a row, with a separator between each two
abbrev pub joined : {A : Type 0} → List A → List (List A) → List A
joined separator [] = []
joined separator (g ∷ gs) = g ++ flat_map (λ h. separator ++ h) gs

-- of groups of these sizes, one that is not the last ends with the digit at magnitude m: the groups after it have m
-- digits together
abbrev pub ends_at : List ℕ → ℕ → Bool
ends_at [] m = false
ends_at (n ∷ []) m = false
ends_at (n ∷ k ∷ ns) m = (m == sum (k ∷ ns)) || ends_at (k ∷ ns) m

-- each element, and the separator after those of the magnitudes where a group ends
abbrev pub marked : {A : Type 0} → (ℕ → Bool) → List A → List A → List A
marked ends separator [] = []
marked ends separator (x ∷ xs) =
    x ∷ (cond (ends (length xs)) separator [] ++ marked ends separator xs)

-- m is the primary size, or above it by a multiple of the size of the groups before
abbrev pub is_group_end : GroupingSizes → ℕ → Bool
is_group_end s m = nat_le s.primary m && ((m - s.primary) % middle_size s == 0)

-- at d digits, a separator follows the digit at magnitude m, were there one
abbrev pub separates : GroupingStrategy → GroupingSizes → ℕ → ℕ → Bool
separates t s d m = is_grouped t s d && is_group_end s m

-- the same from the highest magnitude written, both signed: a fraction has no separator
abbrev pub separates_at : GroupingStrategy → GroupingSizes → ℤ → ℤ → Bool
separates_at t s (pos u) (pos m) = separates t s (u + 1) m
separates_at t s (pos u) (negsuc m) = false
separates_at t s (negsuc u) m = false
