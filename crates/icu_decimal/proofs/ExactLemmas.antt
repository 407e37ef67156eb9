-- An exact form is written in the pattern of its entry, and refused where it has none.
use Rattle.std.proofs.Common.{◌≡◌, ℕ, Option, None, Some, is_none, option_map, refl, sym, ap, ◌∙◌}
use Rattle.fixed_decimal.specs.Number.{Number}
use Rattle.fixed_decimal.specs.SignedValue.{SignedValue}
use Rattle.icu_decimal_plurals.specs.Operands.{operands_of}
use Rattle.icu_decimal_compact_value.specs.Choice.{entry_of, exact_entry}
use Rattle.icu_decimal_compact_value.specs.Entries.{Rises}
use Rattle.icu_decimal_plain.specs.Affixes.{affixes_of}
use Rattle.icu_decimal.specs.CompactTables.{CompactTables}
use Rattle.icu_decimal.specs.ExactText.{exact_formatted, written_under}
use Rattle.icu_decimal.specs.PatternAt.{written_at}
use Rattle.icu_decimal.proofs.ShownLemmas.{pattern_is}

none_of : {A B : Type 0} (f : A → B) (o : Option A) → is_none (option_map f o) ≡ is_none o
none_of f None = refl
none_of f (Some a) = refl

pub under_is : (t : CompactTables) (d : SignedValue Number) (index : Option ℕ) → Rises 0 t.patterns.entries → written_under t d (entry_of t.patterns.entries index) ≡ written_at t d index
under_is t d index rises =
    ap (λ p. record { value = record { pattern = p; value = record { number = d.absolute; tables = t.plain } }; affixes = affixes_of t.plain.symbols.strings d.sign })
    (sym (pattern_is t index (operands_of d.absolute 0) rises))

-- where there is an entry, the form is the significand in its pattern
pub exact_is : (t : CompactTables) (d : SignedValue Number) (x : ℕ) (index : Option ℕ) → Rises 0 t.patterns.entries
    → exact_entry 32768 t.patterns.entries d.absolute.count x ≡ Some (entry_of t.patterns.entries index)
    → exact_formatted t d x ≡ Some (written_at t d index)
exact_is t d x index rises found =
    ap (λ o. option_map (written_under t d) o) found ∙ ap (λ s. Some s) (under_is t d index rises)

-- and there is none exactly where there is no entry
pub refused_is : (t : CompactTables) (d : SignedValue Number) (x : ℕ) → is_none (exact_formatted t d x) ≡ is_none (exact_entry 32768 t.patterns.entries d.absolute.count x)
refused_is t d x = none_of (written_under t d) (exact_entry 32768 t.patterns.entries d.absolute.count x)
