use Rattle.std.proofs.Common.{arith}
use Rattle.fixed_decimal_rows.proofs.ByteLemmas.{few_turns}
use Rattle.fixed_decimal_rows.proofs.counted.round_byte.Goals as goal

pub returns-in-Err : goal.returns-in-Err
returns-in-Err g c =
    let fits = c.ranges.byte in
    few_turns c.args.byte c.in_ok-number.number c.args.turns.now c.round_counted.new.turns (omega arith) c.in_ok-number.ensures.value c.round_counted.ensures.turns

pub returns-in-Ok : goal.returns-in-Ok
returns-in-Ok g c =
    let fits = c.ranges.byte in
    few_turns c.args.byte c.in_ok-number.number c.args.turns.now c.round_counted.new.turns (omega arith) c.in_ok-number.ensures.value c.round_counted.ensures.turns
