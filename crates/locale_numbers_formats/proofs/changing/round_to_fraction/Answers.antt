use Rattle.std.proofs.lemmas.Result.{on_ok_weaker}
use Rattle.locale_numbers_formats.proofs.AmountLemmas.{amount_is}
use Rattle.locale_numbers_formats.proofs.changing.round_to_fraction.Goals as goal

pub returns-clause-value : goal.returns-clause-value
returns-clause-value c =
    on_ok_weaker c.round.result (amount_is c.args.fraction c.args.value.now c.round.new.amount) c.round.ensures.value
