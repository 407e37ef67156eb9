-- Values from outside that a wrong definition of groups does not survive: the tables of docs/plain-text.md.
use Rattle.std.proofs.Common.{◌≡◌, ℕ, List, [], ◌∷◌, refl}
use Rattle.std.specs.Prelude.{codes}
use Rattle.icu_decimal_symbols.specs.declared.grouping_sizes.GroupingSizes.{GroupingSizes}
use Rattle.icu_decimal_symbols.specs.declared.options.GroupingStrategy.{GroupingStrategy}
use Rattle.icu_decimal_symbols.specs.declared.options.GroupingStrategy.TheVariants.{Auto, Never, Always, Min2, OnAligned}
use Rattle.icu_decimal_grouping.specs.Grouper.{groups, joined, group_sizes}

abbrev pub sizes_of : ℕ → ℕ → ℕ → GroupingSizes
sizes_of primary secondary least = record { primary = primary; secondary = secondary; min_grouping = least }

-- digits with a comma between each two groups
abbrev commas : GroupingStrategy → GroupingSizes → List ℕ → List ℕ
commas strategy sizes digits = joined (codes ",") (groups strategy sizes digits)

-- threes, then twos
indic_4 : commas Auto (sizes_of 3 2 1) (codes "1000") ≡ codes "1,000"
indic_4 = refl

indic_5 : commas Auto (sizes_of 3 2 1) (codes "10000") ≡ codes "10,000"
indic_5 = refl

indic_6 : commas Auto (sizes_of 3 2 1) (codes "100000") ≡ codes "1,00,000"
indic_6 = refl

indic_7 : commas Auto (sizes_of 3 2 1) (codes "1000000") ≡ codes "10,00,000"
indic_7 = refl

-- `Always` is as `Auto`
always_7 : commas Always (sizes_of 3 2 1) (codes "1000000") ≡ codes "10,00,000"
always_7 = refl

-- two digits before the last separator
two_4 : commas Min2 (sizes_of 3 2 1) (codes "1000") ≡ codes "1000"
two_4 = refl

two_5 : commas Min2 (sizes_of 3 2 1) (codes "10000") ≡ codes "10,000"
two_5 = refl

two_6 : commas Min2 (sizes_of 3 2 1) (codes "100000") ≡ codes "1,00,000"
two_6 = refl

two_7 : commas Min2 (sizes_of 3 2 1) (codes "1000000") ≡ codes "10,00,000"
two_7 = refl

-- `Never` gives one group
never_7 : commas Never (sizes_of 3 2 1) (codes "1000000") ≡ codes "1000000"
never_7 = refl

-- groups of one digit
ones_3 : commas Auto (sizes_of 1 0 0) (codes "123") ≡ codes "1,2,3"
ones_3 = refl

ones_2 : commas Min2 (sizes_of 1 0 0) (codes "12") ≡ codes "12"
ones_2 = refl

-- at least three digits before the last separator
wide_4 : commas Auto (sizes_of 3 3 3) (codes "1000") ≡ codes "1000"
wide_4 = refl

wide_5 : commas Auto (sizes_of 3 3 3) (codes "10000") ≡ codes "10000"
wide_5 = refl

wide_6 : commas Auto (sizes_of 3 3 3) (codes "100000") ≡ codes "100,000"
wide_6 = refl

wide_7 : commas Auto (sizes_of 3 3 3) (codes "1000000") ≡ codes "1,000,000"
wide_7 = refl

wide_two_6 : commas Min2 (sizes_of 3 3 3) (codes "100000") ≡ codes "100,000"
wide_two_6 = refl

-- and one digit with `OnAligned`
aligned_3 : commas OnAligned (sizes_of 3 3 3) (codes "100") ≡ codes "100"
aligned_3 = refl

aligned_4 : commas OnAligned (sizes_of 3 3 3) (codes "1000") ≡ codes "1,000"
aligned_4 = refl

aligned_6 : commas OnAligned (sizes_of 3 2 2) (codes "100000") ≡ codes "1,00,000"
aligned_6 = refl

aligned_none : commas OnAligned (sizes_of 0 3 1) (codes "1000000") ≡ codes "1000000"
aligned_none = refl

-- a primary size of 0 gives no groups
none_7 : commas Auto (sizes_of 0 0 0) (codes "1000000") ≡ codes "1000000"
none_7 = refl

none_two_7 : commas Min2 (sizes_of 0 3 1) (codes "1000000") ≡ codes "1000000"
none_two_7 = refl

-- a secondary size of 0 is the primary one
same_7 : commas Auto (sizes_of 3 0 0) (codes "1000000") ≡ codes "1,000,000"
same_7 = refl

same_two_4 : commas Min2 (sizes_of 3 0 0) (codes "1000") ≡ codes "1000"
same_two_4 = refl

-- leading zeros are digits like others
zeros_4 : commas Auto (sizes_of 3 3 1) (codes "0007") ≡ codes "0,007"
zeros_4 = refl

-- a separator ends no group of a single one
single_3 : commas Auto (sizes_of 3 3 1) (codes "123") ≡ codes "123"
single_3 = refl

-- the first group has what is left
first_of_ten : group_sizes Auto (sizes_of 3 2 1) 10 ≡ 1 ∷ 2 ∷ 2 ∷ 2 ∷ 3 ∷ []
first_of_ten = refl
