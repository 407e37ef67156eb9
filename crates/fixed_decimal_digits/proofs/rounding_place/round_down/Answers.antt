use Rattle.std.proofs.Common.{take, arith}
use Rattle.std.specs.Int.Digits.{number_from_digits}
use Rattle.fixed_decimal_digits.proofs.PlaceLemmas.{count_front}
use Rattle.fixed_decimal_digits.proofs.rounding_place.round_down.Goals as goal

pub returns-clause-value : goal.returns-clause-value
returns-clause-value g c =
    let old = c.args.digits.now.items in
    count_front old c.truncate.new.self.items (number_from_digits 10 (take c.args.kept old)) c.args.top c.args.place c.args.kept c.count_before_zeros-count.result c.requires.kept c.requires.rest
    (c.count_before_zeros-count.ensures.some (omega (arith, c.if-kept-eq0.false))) c.count_before_zeros-count.ensures.within c.truncate.ensures.items c.count_before_zeros-count.ensures.value
