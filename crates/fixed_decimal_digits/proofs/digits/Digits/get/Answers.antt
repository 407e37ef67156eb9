use Rattle.std.proofs.Common.{◌≡◌, ◌/◌, ◌%◌, ◌<◌, length, get_or, sym, ap, ◌∙◌, subst, arith}
use Rattle.fixed_decimal_digit_words.specs.Packed.{digits_in}
use Rattle.fixed_decimal_digit_words.proofs.DigitsLemmas.{below_at}
use Rattle.fixed_decimal_digits.proofs.PackedChanges.{upper_digit, lower_digit}
use Rattle.fixed_decimal_digits.proofs.digits.Digits.get.Goals as goal

pub returns-then-index-eq0-clause-ten : goal.returns-then-index-eq0-clause-ten
returns-then-index-eq0-clause-ten c =
    let i = c.self.inside in
    let counted : i.count ≡ length c.args.self.now.items = sym c.self.invariant.0.all ∙ ap (λ v. length v.items) c.self.view_is in
    let value = ap (λ b. get_or b (c.args.index / 2) 0 / 16) c.as_slice.ensures
    ∙ upper_digit i.kept.items i.count c.args.index c.self.invariant.0 (omega (arith, counted, c.requires)) c.if-index-eq0.true in
    subst (λ d. d < 10) (sym value) (below_at (digits_in i.kept.items i.count) c.args.index c.self.invariant.0.tens)

pub returns-else-index-eq0-clause-ten : goal.returns-else-index-eq0-clause-ten
returns-else-index-eq0-clause-ten c =
    let i = c.self.inside in
    let counted : i.count ≡ length c.args.self.now.items = sym c.self.invariant.0.all ∙ ap (λ v. length v.items) c.self.view_is in
    let value = ap (λ b. get_or b (c.args.index / 2) 0 % 16) c.as_slice.ensures
    ∙ lower_digit i.kept.items i.count c.args.index c.self.invariant.0 (omega (arith, counted, c.requires)) (grind (arith, c.if-index-eq0.false)) in
    subst (λ d. d < 10) (sym value) (below_at (digits_in i.kept.items i.count) c.args.index c.self.invariant.0.tens)
