use Rattle.std.proofs.Common.{rules, ◌≡◌, ◌/◌, length, take, drop, sym, ap, ◌∙◌, arith}
use Rattle.fixed_decimal_digits.proofs.PackedChanges.{one_dropped}
use Rattle.fixed_decimal_digits.proofs.digits.Digits.drop_one.Goals as goal

pub invariant_of-self : goal.invariant_of-self
invariant_of-self c =
    let i = c.self.inside in
    let counted : i.count ≡ length c.args.self.now.items = sym c.self.invariant.0.all ∙ ap (λ v. length v.items) c.self.view_is in
    let new = c.truncate.ensures.items ∙ ap (λ b. take (i.count / 2) b) c.shift_half.ensures.items in
    ((one_dropped i.kept.items _ i.count c.self.invariant.0 (omega (arith, counted, c.requires)) new).0, search rules)

pub returns-clause-items : goal.returns-clause-items
returns-clause-items c =
    let i = c.self.inside in
    let counted : i.count ≡ length c.args.self.now.items = sym c.self.invariant.0.all ∙ ap (λ v. length v.items) c.self.view_is in
    let new = c.truncate.ensures.items ∙ ap (λ b. take (i.count / 2) b) c.shift_half.ensures.items in
    (one_dropped i.kept.items _ i.count c.self.invariant.0 (omega (arith, counted, c.requires)) new).1
    ∙ ap (λ v. drop 1 v.items) c.self.view_is
