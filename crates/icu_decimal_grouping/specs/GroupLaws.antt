-- What the groups of a number are, in terms of their sizes and of the separators between them.
-- After UTS 35, part 3 (numbers), grouping of number patterns; docs/plain-text.md, "Groups".
-- Cited by `groups_law`.
use Rattle.std.specs.Prelude.{◌≡◌, ℕ, ◌+◌, ◌*◌, ◌<◌, ◌≤◌, true, List, [], ◌∷◌, ◌++◌, length, replicate}
use Rattle.icu_decimal_symbols.specs.declared.grouping_sizes.GroupingSizes.{GroupingSizes}
use Rattle.icu_decimal_symbols.specs.declared.options.GroupingStrategy.{GroupingStrategy}
use Rattle.icu_decimal_grouping.specs.Grouper.{group_sizes, groups, is_grouped, joined, marked, middle_size, separates}

-- sizes of d digits cut from the right: the last is p, each before it q, the first from one to q
pub record IsCutFromTheRight (p q d : ℕ) (sizes : List ℕ) : Type 0 where
  pub first : ℕ
  pub middle : ℕ
  pub listed : sizes ≡ first ∷ (replicate middle q ++ p ∷ [])
  pub some : 0 < first
  pub short : first ≤ q
  pub whole : first + middle * q + p ≡ d

-- digits in several groups are cut from the right
abbrev pub GroupsAreCut : Type 0
GroupsAreCut =
    (strategy : GroupingStrategy) (sizes : GroupingSizes) (d : ℕ) → is_grouped strategy sizes d ≡ true → IsCutFromTheRight sizes.primary (middle_size sizes) d (group_sizes strategy sizes d)

-- joined groups are the digits in order, with a separator after each one whose magnitude ends a group
abbrev pub GroupsAreSeparated : Type 0
GroupsAreSeparated =
    (strategy : GroupingStrategy) (sizes : GroupingSizes) (separator digits : List ℕ) → 0 < length digits → joined separator (groups strategy sizes digits) ≡ marked (separates strategy sizes (length digits)) separator digits
