use Rattle.std.proofs.Common.{◌+◌, ◌<◌, [], ◌∷◌, ◌++◌, take, ap, ◌∙◌, arith}
use Rattle.std.specs.Int.Digits.{number_from_digits}
use Rattle.fixed_decimal_digits.proofs.PlaceLemmas.{count_one, count_raised, trimmed_raised}
use Rattle.fixed_decimal_digits.proofs.rounding_place.round_up.Goals as goal

pub returns-then-count-eq0-clause-value : goal.returns-then-count-eq0-clause-value
returns-then-count-eq0-clause-value g c =
    let old = c.args.digits.now.items in
    count_one old c.push_reserved.new.self.items (number_from_digits 10 (take c.args.kept old) + 1) c.args.place c.args.kept c.count_before_nines-count.result
    c.if-count-eq0.true (c.push_reserved.ensures.items ∙ ap (λ xs. xs ++ 1 ∷ []) c.clear.ensures.items) c.count_before_nines-count.ensures.value

pub returns-clause-trimmed : goal.returns-clause-trimmed
returns-clause-trimmed g c =
    let old = c.args.digits.now.items in let n = c.count_before_nines-count.result in
    let some : 0 < n = omega (arith, c.if-count-eq0.false) in
    trimmed_raised old c.raise.new.self.items c.args.top n c.requires.trimmed some (omega (arith, c.count_before_nines-count.ensures.within, c.requires.rest))
    (c.count_before_nines-count.ensures.last some) c.raise.ensures.items

pub returns-clause-value : goal.returns-clause-value
returns-clause-value g c =
    let old = c.args.digits.now.items in let n = c.count_before_nines-count.result in
    let some : 0 < n = omega (arith, c.if-count-eq0.false) in
    count_raised old c.raise.new.self.items (number_from_digits 10 (take c.args.kept old) + 1) c.args.top c.args.place c.args.kept n c.requires.kept c.requires.rest
    some c.count_before_nines-count.ensures.within c.raise.ensures.items c.count_before_nines-count.ensures.value
