-- What holds of the entries of every compact table.
-- Defined in docs/compact-text.md, "Entries".
-- Cited by the readers of `CompactPatterns`, and by the laws of the shown value.
use Rattle.std.specs.Prelude.{ℕ, suc, ◌≤◌, ◌+◌, List, [], ◌∷◌}
use Rattle.icu_decimal_compact_value.specs.declared.entry.CompactEntry.{CompactEntry}

-- numbers of the type of an entry show one to sixteen digits before the point
pub record IsEntry (entry : CompactEntry) : Type 0 where
  pub within : entry.exponent ≤ entry.log10_type
  pub zeros : entry.log10_type ≤ entry.exponent + 15

-- the types rise strictly from `least` on, and each exponent fits its type
abbrev pub Rises : ℕ → List CompactEntry → Type 0
Rises least [] = Unit {0}
Rises least (x ∷ xs) = (least ≤ x.log10_type) × IsEntry x × Rises (suc x.log10_type) xs
