-- When two tables are one: entry by entry, and pattern by pattern.
-- Defined in docs/compact-text.md, "Tables".
-- Cited by `==` of `CompactPatterns`.
use Rattle.std.specs.Prelude.{Bool, ◌&&◌, ◌==◌}
use Rattle.std.proofs.Common.{◌≡◌, ap, Decides}
use Rattle.std.specs.Cmp.{IsEquivalence, decided, unsigned_Decides}
use Rattle.std.specs.Cmp.Lexicographic.{pointwise, pointwise_decides}
use Rattle.std.proofs.lemmas.Bool.Decides.{Decides-and, Decides-like}
use Rattle.icu_decimal_compact_value.specs.declared.entry.CompactEntry.{CompactEntry}
use Rattle.icu_decimal_patterns.specs.KeptEntries.{CompactTable}
use Rattle.icu_decimal_patterns.specs.SameElements.{same_elements, same_elements_decides}
use Rattle.icu_decimal_patterns.specs.SamePattern.{same_pattern, same_pattern_decides}

abbrev pub same_entry : CompactEntry → CompactEntry → Bool
same_entry a b = a.log10_type == b.log10_type && a.exponent == b.exponent

same_entry_decides : (a b : CompactEntry) → Decides (same_entry a b) (a ≡ b)
same_entry_decides a b = Decides-like (same_entry a b)
    (λ h i. record { log10_type = h.0 i; exponent = h.1 i })
    (λ e. (ap (λ x. x.log10_type) e, ap (λ x. x.exponent) e))
    (Decides-and _ _ (unsigned_Decides a.log10_type b.log10_type) (unsigned_Decides a.exponent b.exponent))

abbrev pub same_table : CompactTable → CompactTable → Bool
same_table a b = pointwise same_entry a.entries b.entries && pointwise (same_elements same_pattern) a.patterns b.patterns

pub same_table_decides : (a b : CompactTable) → Decides (same_table a b) (a ≡ b)
same_table_decides a b = Decides-like (same_table a b)
    (λ h i. record { entries = h.0 i; patterns = h.1 i })
    (λ e. (ap (λ x. x.entries) e, ap (λ x. x.patterns) e))
    (Decides-and _ _ (pointwise_decides same_entry_decides a.entries b.entries)
    (pointwise_decides (same_elements_decides same_pattern same_pattern_decides) a.patterns b.patterns))

pub same_table_equiv : IsEquivalence same_table
same_table_equiv = decided same_table same_table_decides
