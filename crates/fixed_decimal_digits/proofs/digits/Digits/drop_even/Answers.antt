use Rattle.std.proofs.Common.{rules, ◌≡◌, ◌+◌, ◌/◌, length, drop, sym, ap, ◌∙◌, arith}
use Rattle.fixed_decimal_digits.proofs.PackedChanges.{bytes_length, even_dropped}
use Rattle.fixed_decimal_digits.proofs.digits.Digits.drop_even.Goals as goal

pub drop_bytes-requires : goal.drop_bytes-requires
drop_bytes-requires c =
    let i = c.self.inside in
    let counted : i.count ≡ length c.args.self.now.items = sym c.self.invariant.0.all ∙ ap (λ v. length v.items) c.self.view_is in
    let bytes : length i.kept.items ≡ (i.count + 1) / 2 = bytes_length i.kept.items i.count c.self.invariant.0 in
    omega (arith, counted, bytes, c.requires.within)

pub invariant_of-self : goal.invariant_of-self
invariant_of-self c =
    let i = c.self.inside in
    let counted : i.count ≡ length c.args.self.now.items = sym c.self.invariant.0.all ∙ ap (λ v. length v.items) c.self.view_is in
    ((even_dropped i.kept.items _ i.count c.args.count c.self.invariant.0 (omega (arith, counted, c.requires.within)) c.requires.even c.drop_bytes.ensures.items).0, search rules)

pub returns-clause-items : goal.returns-clause-items
returns-clause-items c =
    let i = c.self.inside in
    let counted : i.count ≡ length c.args.self.now.items = sym c.self.invariant.0.all ∙ ap (λ v. length v.items) c.self.view_is in
    (even_dropped i.kept.items _ i.count c.args.count c.self.invariant.0 (omega (arith, counted, c.requires.within)) c.requires.even c.drop_bytes.ensures.items).1
    ∙ ap (λ v. drop c.args.count v.items) c.self.view_is
