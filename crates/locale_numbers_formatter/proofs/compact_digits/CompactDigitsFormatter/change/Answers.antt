use Rattle.std.proofs.lemmas.Result.{on_ok_weaker}
use Rattle.locale_numbers_formatter.specs.HeldDigits.{options_held}
use Rattle.locale_numbers_formatter.proofs.CompactDigitsLemmas.{changed_is_under}
use Rattle.locale_numbers_formatter.proofs.compact_digits.CompactDigitsFormatter.change.Goals as goal

pub returns-clause-value : goal.returns-clause-value
returns-clause-value c =
    on_ok_weaker c.change.result
    (changed_is_under (options_held c.args.self.now) c.args.exponent _ c.args.value.now c.change.new.value c.divide_cut.new.number c.value.view_is c.divide_cut.ensures)
    c.change.ensures.value
