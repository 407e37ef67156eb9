use Rattle.std.proofs.Common.{◌≡◌, ◌/◌, length, map, take, drop, sym, ap, ◌∙◌, arith}
use Rattle.fixed_decimal_digit_words.specs.DigitText.{character}
use Rattle.fixed_decimal_digits.proofs.HalvesLemmas.{block_is}
use Rattle.fixed_decimal_digits.proofs.digits.Digits.block.Goals as goal

pub returns : goal.returns
returns c =
    let i = c.self.inside in
    let index = c.args.index in
    let counted : i.count ≡ length c.args.self.now.items = sym c.self.invariant.0.all ∙ ap (λ v. length v.items) c.self.view_is in
    let front = c.split_at-2.ensures.front ∙ ap (take 32) (c.split_at.ensures.back ∙ ap (drop (index / 2)) c.as_slice.ensures) in
    c.text_of_block.ensures
    ∙ block_is i.kept.items c.split_at-2.result.0.now i.count (index / 2) index (omega (arith, c.requires.even)) (omega (arith, counted, c.requires.within)) front
    ∙ ap (λ v. map character (take 64 (drop index v.items))) c.self.view_is
