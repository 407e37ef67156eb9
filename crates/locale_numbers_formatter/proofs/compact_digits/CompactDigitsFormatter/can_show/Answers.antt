use Rattle.std.proofs.Common.{ap, sym, ◌∙◌}
use Rattle.icu_decimal.specs.KeptEntries.{CompactTable}
use Rattle.locale_numbers_formatter.specs.HeldDigits.{compact_held}
use Rattle.locale_numbers_formatter.proofs.CompactDigitsLemmas.{below_is}
use Rattle.locale_numbers_formatter.proofs.compact_digits.CompactDigitsFormatter.can_show.Goals as goal

pub returns : goal.returns
returns c =
    let same =
    below_is (compact_held c.args.self.now).patterns.entries c.entries.result.now c.args.value.now _ c.entry_with-under.result.exponent
    (c.entries.ensures.value ∙ ap (λ (p : CompactTable). p.entries) c.patterns.ensures) c.value.view_is c.entry_with-under.ensures.exponent in
    (λ test. sym same ∙ c.has_none_below.ensures.0 test, λ whole. c.has_none_below.ensures.1 (same ∙ whole))
