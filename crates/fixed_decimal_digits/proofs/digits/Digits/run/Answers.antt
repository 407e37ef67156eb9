use Rattle.std.proofs.Common.{◌-◌, ◌∙◌, ap, take, drop, min}
use Rattle.fixed_decimal_digits.proofs.PackedChanges.{run_is}
use Rattle.fixed_decimal_digits.proofs.digits.Digits.run.Goals as goal

pub returns : goal.returns
returns c =
    let ds = c.args.self.now.items in
    let next = c.min-next.ensures ∙ ap (λ n. min c.args.from n) c.len.ensures.value in
    let left = c.min-left.ensures ∙ (λ i. min c.args.most (c.len-2.ensures.value i - next i)) in
    (λ i. take (left i) (drop (next i) ds)) ∙ run_is ds c.args.from c.args.most
