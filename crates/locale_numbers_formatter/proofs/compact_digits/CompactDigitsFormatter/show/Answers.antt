use Rattle.std.proofs.Common.{◌≡◌, ◌-◌, List, ap, arith, ◌∙◌}
use Rattle.icu_decimal.specs.KeptEntries.{CompactTable}
use Rattle.icu_decimal.specs.ShownChoice.{entry_of, exponent_of}
use Rattle.icu_decimal_compact_value.specs.declared.entry.CompactEntry.{CompactEntry}
use Rattle.locale_numbers_formatter.specs.HeldDigits.{compact_held, options_held}
use Rattle.locale_numbers_formatter.proofs.CompactDigitsLemmas.{found_by, further, reached_alone, reached_by}
use Rattle.locale_numbers_formatter.proofs.compact_digits.CompactDigitsFormatter.show.Goals as goal

pub returns-in_ok-change-2-clause-value : goal.returns-in_ok-change-2-clause-value
returns-in_ok-change-2-clause-value c =
    let entries : List CompactEntry = (compact_held c.args.self.now).patterns.entries in
    let kept : c.entries-entries.result.now ≡ entries = c.entries-entries.ensures.value ∙ ap (λ (p : CompactTable). p.entries) c.patterns.ensures in
    let under = c.entry_with-under.result in
    let reached = c.entry_with-reached.result in
    let exponent : reached.exponent ≡ exponent_of (entry_of entries reached.entry) =
    reached_by entries c.entries-entries.result.now (options_held c.args.self.now) c.args.value.now c.change.new.value _ _ under.exponent reached.exponent under.entry reached.entry
    kept c.value.view_is c.value-2.view_is c.entry_with-under.ensures.entry c.entry_with-under.ensures.exponent c.in_ok-change.ensures.value c.entry_with-reached.ensures.entry c.entry_with-reached.ensures.exponent in
    let above = c.if-under-reached.true in
    further entries (options_held c.args.self.now) c.args.value.now c.change.new.value under.exponent (entry_of entries under.entry) (entry_of entries reached.entry)
    (found_by entries c.entries-entries.result.now (options_held c.args.self.now) c.args.value.now c.change.new.value _ _ under.exponent reached.exponent under.entry reached.entry
    kept c.value.view_is c.value-2.view_is c.entry_with-under.ensures.entry c.entry_with-under.ensures.exponent c.in_ok-change.ensures.value c.entry_with-reached.ensures.entry c.entry_with-reached.ensures.exponent)
    (reached.exponent - under.exponent) c.change-then-under-reached.new.value (omega (arith, exponent, above)) (ap (λ x. x - under.exponent) exponent) c.in_ok-change-2.ensures.value

pub returns-else-under-reached-clause-value : goal.returns-else-under-reached-clause-value
returns-else-under-reached-clause-value c =
    let entries : List CompactEntry = (compact_held c.args.self.now).patterns.entries in
    let kept : c.entries-entries.result.now ≡ entries = c.entries-entries.ensures.value ∙ ap (λ (p : CompactTable). p.entries) c.patterns.ensures in
    let under = c.entry_with-under.result in
    let reached = c.entry_with-reached.result in
    let exponent : reached.exponent ≡ exponent_of (entry_of entries reached.entry) =
    reached_by entries c.entries-entries.result.now (options_held c.args.self.now) c.args.value.now c.change.new.value _ _ under.exponent reached.exponent under.entry reached.entry
    kept c.value.view_is c.value-2.view_is c.entry_with-under.ensures.entry c.entry_with-under.ensures.exponent c.in_ok-change.ensures.value c.entry_with-reached.ensures.entry c.entry_with-reached.ensures.exponent in
    let over = c.if-under-reached.false in
    reached_alone entries (options_held c.args.self.now) c.args.value.now c.change.new.value under.exponent (entry_of entries under.entry) (entry_of entries reached.entry)
    (found_by entries c.entries-entries.result.now (options_held c.args.self.now) c.args.value.now c.change.new.value _ _ under.exponent reached.exponent under.entry reached.entry
    kept c.value.view_is c.value-2.view_is c.entry_with-under.ensures.entry c.entry_with-under.ensures.exponent c.in_ok-change.ensures.value c.entry_with-reached.ensures.entry c.entry_with-reached.ensures.exponent)
    (omega (arith, exponent, over))
