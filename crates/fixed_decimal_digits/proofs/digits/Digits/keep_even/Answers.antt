use Rattle.std.proofs.Common.{rules, ◌≡◌, length, take, sym, ap, ◌∙◌, arith}
use Rattle.fixed_decimal_digits.proofs.PackedChanges.{even_taken}
use Rattle.fixed_decimal_digits.proofs.digits.Digits.keep_even.Goals as goal

pub invariant_of-self : goal.invariant_of-self
invariant_of-self c =
    let i = c.self.inside in
    let counted : i.count ≡ length c.args.self.now.items = sym c.self.invariant.0.all ∙ ap (λ v. length v.items) c.self.view_is in
    ((even_taken i.kept.items _ i.count c.args.len c.self.invariant.0 (omega (arith, counted, c.requires.within)) c.requires.even c.truncate.ensures.items).0, search rules)

pub returns-clause-items : goal.returns-clause-items
returns-clause-items c =
    let i = c.self.inside in
    let counted : i.count ≡ length c.args.self.now.items = sym c.self.invariant.0.all ∙ ap (λ v. length v.items) c.self.view_is in
    (even_taken i.kept.items _ i.count c.args.len c.self.invariant.0 (omega (arith, counted, c.requires.within)) c.requires.even c.truncate.ensures.items).1
    ∙ ap (λ v. take c.args.len v.items) c.self.view_is
