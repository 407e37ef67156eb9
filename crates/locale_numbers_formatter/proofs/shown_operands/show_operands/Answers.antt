use Rattle.std.proofs.Common.{◌≡◌, List, ap, subst, ◌∙◌}
use Rattle.icu_decimal.specs.HeldCompact.{compact_tables_of}
use Rattle.icu_decimal.specs.KeptEntries.{CompactTable}
use Rattle.icu_decimal.specs.Significand.{Shows}
use Rattle.icu_decimal_compact_value.specs.declared.entry.CompactEntry.{CompactEntry}
use Rattle.locale_numbers_formatter.proofs.ShownOperandsLemmas.{operands_are, significand_is}
use Rattle.locale_numbers_formatter.proofs.shown_operands.show_operands.Goals as goal

pub returns-clause-value : goal.returns-clause-value
returns-clause-value c =
    let t = compact_tables_of c.args.formatter.now in
    let under = c.show_absolute-under.result in
    let kept : c.entries.result.now ≡ t.patterns.entries = c.entries.ensures.value ∙ ap (λ (p : CompactTable). p.entries) c.patterns.ensures in
    significand_is t c.args.value.now c.show_absolute-under.new.value under.exponent under.entry c.show_absolute-under.ensures.sign
    (subst (λ (xs : List CompactEntry). Shows xs c.args.value.now.absolute (record { significand = c.show_absolute-under.new.value.absolute; exponent = under.exponent; entry = under.entry })) kept c.show_absolute-under.ensures.value)

pub returns-clause-operands : goal.returns-clause-operands
returns-clause-operands c =
    let t = compact_tables_of c.args.formatter.now in
    let under = c.show_absolute-under.result in
    let kept : c.entries.result.now ≡ t.patterns.entries = c.entries.ensures.value ∙ ap (λ (p : CompactTable). p.entries) c.patterns.ensures in
    operands_are t c.args.value.now c.show_absolute-under.new.value under.exponent under.entry c.show_absolute-under.ensures.sign
    (subst (λ (xs : List CompactEntry). Shows xs c.args.value.now.absolute (record { significand = c.show_absolute-under.new.value.absolute; exponent = under.exponent; entry = under.entry })) kept c.show_absolute-under.ensures.value)
    _ _ c.value.view_is c.from_significand_and_exponent.ensures
