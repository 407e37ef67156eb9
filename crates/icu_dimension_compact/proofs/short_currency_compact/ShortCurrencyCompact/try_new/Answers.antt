use Rattle.std.proofs.Common.{◌≡◌, ◌∙◌, None, ap, sym}
use Rattle.icu_dimension_compact.specs.AmountTables.{table_fault}
use Rattle.icu_dimension_compact.proofs.AmountTableLemmas.{sound_lengths, sound_rises}
use Rattle.icu_dimension_compact.proofs.short_currency_compact.ShortCurrencyCompact.try_new.Goals as goal

pub invariant_of-result : goal.invariant_of-result
invariant_of-result c =
    let none : table_fault c.args.entries.items c.args.patterns.items ≡ None =
    ap (λ es. table_fault es c.args.patterns.items) (sym c.as_slice.ensures.value)
    ∙ ap (λ ps. table_fault c.as_slice.result.now ps) (sym c.as_slice-2.ensures.value)
    ∙ sym c.fault_of.ensures
    ∙ c.in-None.is in
    (sound_rises c.args.entries.items c.args.patterns.items none, sound_lengths c.args.entries.items c.args.patterns.items none)
