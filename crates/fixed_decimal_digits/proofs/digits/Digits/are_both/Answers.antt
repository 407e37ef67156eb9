use Rattle.std.proofs.Common.{◌≡◌, ◌+◌, ◌*◌, ◌/◌, length, get_or, sym, ap, ◌∙◌, arith}
use Rattle.std.proofs.lemmas.Bool.Decides.{nat_tests}
use Rattle.fixed_decimal_digits.proofs.PackedChanges.{both_digits}
use Rattle.fixed_decimal_digits.proofs.digits.Digits.are_both.Goals as goal

pub returns-then-index-eq0 : goal.returns-then-index-eq0
returns-then-index-eq0 c =
    let i = c.self.inside in
    let counted : i.count ≡ length c.args.self.now.items = sym c.self.invariant.0.all ∙ ap (λ v. length v.items) c.self.view_is in
    let byte : get_or c.as_slice.result.now (c.args.index / 2) 0 ≡ get_or i.kept.items (c.args.index / 2) 0 = ap (λ b. get_or b (c.args.index / 2) 0) c.as_slice.ensures in
    let both = both_digits i.kept.items i.count c.args.index c.args.digit c.self.invariant.0 (omega (arith, counted, c.requires.within)) c.if-index-eq0.true c.requires.ten in
    let upper = ap (λ v. get_or v.items c.args.index 0) c.self.view_is in
    let lower = ap (λ v. get_or v.items (c.args.index + 1) 0) c.self.view_is in (
      λ h.
          let same : get_or c.as_slice.result.now (c.args.index / 2) 0 ≡ c.args.digit * 17 = grind (arith, nat_tests, h) in
          let found = both.0 (sym byte ∙ same) in
          (sym upper ∙ found.0, sym lower ∙ found.1),
      λ h.
          let same : get_or c.as_slice.result.now (c.args.index / 2) 0 ≡ c.args.digit * 17 = byte ∙ both.1 (upper ∙ h.0, lower ∙ h.1) in
          grind (arith, nat_tests, same),
    )
