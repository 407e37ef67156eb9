use Rattle.std.proofs.Common.{rules, OnOk}
use Rattle.std.proofs.lemmas.Result.{on_ok_weaker}
use Rattle.fixed_decimal.specs.Number.{place}
use Rattle.fixed_decimal.specs.SignedRounding.{RoundsSigned}
use Rattle.locale_numbers_formats.proofs.RoundedLemmas.{rounds_as}
use Rattle.locale_numbers_formats.proofs.changing.round_at.Goals as goal

pub returns-clause-value : goal.returns-clause-value
returns-clause-value c =
    let rounds : OnOk c.round_with_mode_and_increment.result (RoundsSigned c.args.mode c.args.increment (place c.args.position) c.args.value.now c.round_with_mode_and_increment.new.self) = search rules in
    on_ok_weaker c.round_with_mode_and_increment.result (rounds_as c.args.mode c.args.increment c.args.position c.args.value.now c.round_with_mode_and_increment.new.self) rounds
