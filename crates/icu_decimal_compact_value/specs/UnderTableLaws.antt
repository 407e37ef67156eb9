-- Laws of the value shown under a table: order is kept, nothing is far off, and a shown value shows itself.
-- Defined in docs/compact-text.md, "Laws".
-- Cited by the functions of the module `laws`.
use Rattle.std.specs.Prelude.{◌≡◌, ℕ, ◌*◌, ◌≤◌, ◌↔◌, List}
use Rattle.fixed_decimal.specs.Rounding.{distance}
use Rattle.icu_decimal_compact_value.specs.declared.entry.CompactEntry.{CompactEntry}
use Rattle.icu_decimal_compact_value.specs.Choice.{CanShow, shown_under}

-- of two numbers the smaller never shows a larger value
abbrev pub TableKeepsOrder : Type 0
TableKeepsOrder = (ones : ℕ) (entries : List CompactEntry) (n m : ℕ) → n ≤ m → shown_under ones entries n ≤ shown_under ones entries m

-- a shown value is off by at most a twentieth of its number
abbrev pub TableShowsNear : Type 0
TableShowsNear = (ones : ℕ) (entries : List CompactEntry) (n : ℕ) → 20 * distance n (shown_under ones entries n) ≤ n

-- zero is shown for zero, and for nothing else
abbrev pub TableShowsZero : Type 0
TableShowsZero = (ones : ℕ) (entries : List CompactEntry) (n : ℕ) → shown_under ones entries n ≡ 0 ↔ n ≡ 0

-- a number equal to a shown value shows itself
abbrev pub ShownValueShowsItself : Type 0
ShownValueShowsItself = (ones : ℕ) (entries : List CompactEntry) (n m : ℕ) → m ≡ shown_under ones entries n → shown_under ones entries m ≡ m

-- and it can be shown
abbrev pub ShownValueCanBeShown : Type 0
ShownValueCanBeShown = (entries : List CompactEntry) (n m : ℕ) → CanShow entries n → m ≡ shown_under 32768 entries n → CanShow entries m
