use Rattle.icu_decimal_direct.proofs.ZerosLemmas.{all_before, other_before}
use Rattle.icu_decimal_direct.proofs.text_digits.TextDigits.are_zeros.Goals as goal

pub returns-then-zeros_ahead-self : goal.returns-then-zeros_ahead-self
returns-then-zeros_ahead-self c =
    let d = c.args.self.now in
    let before = c.zeros_ahead in
    let after = c.zeros_ahead-then-zeros_ahead-self in
    all_before d.integer.now d.fraction.now d.held before.result before.ensures.within before.ensures.zeros before.ensures.stops c.if-zeros_ahead-self.true
    after.result after.ensures.within after.ensures.zeros after.ensures.stops

pub returns-else-zeros_ahead-self : goal.returns-else-zeros_ahead-self
returns-else-zeros_ahead-self c =
    let d = c.args.self.now in
    let before = c.zeros_ahead in
    other_before d.integer.now d.fraction.now d.held before.result before.ensures.within before.ensures.zeros before.ensures.stops c.if-zeros_ahead-self.false
