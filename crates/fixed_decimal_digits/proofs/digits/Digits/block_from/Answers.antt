use Rattle.std.proofs.Common.{◌≡◌, ◌≤◌, ◌++◌, ◌*◌, ◌/◌, ◌%◌, length, replicate, take, drop, subst, sym, ap, ◌∙◌, arith}
use Rattle.std.specs.Int.Digits.{AllBelowBase}
use Rattle.std.proofs.lemmas.List.{take-take}
use Rattle.fixed_decimal_digit_words.specs.Packed.{halves}
use Rattle.fixed_decimal_digits.proofs.HalvesLemmas.{digits_padded, padded_tens}
use Rattle.fixed_decimal_digits.proofs.PackedChanges.{bytes_length}
use Rattle.fixed_decimal_digits.proofs.digits.Digits.block_from.Goals as goal

pub returns-then-index-eq0 : goal.returns-then-index-eq0
returns-then-index-eq0 c =
    let i = c.self.inside in
    let index = c.args.index in
    let count = c.args.count in
    let rest = c.split_at.result.1.now in
    let counted : i.count ≡ length c.args.self.now.items = sym c.self.invariant.0.all ∙ ap (λ v. length v.items) c.self.view_is in
    let whole : i.count ≤ 2 * length i.kept.items = omega (arith, bytes_length i.kept.items i.count c.self.invariant.0) in
    let behind = c.split_at.ensures.back ∙ ap (drop (index / 2)) c.as_slice.ensures in
    record {
      taken = ap (take count) c.digits_within.ensures
          ∙ take-take count 16 (halves (rest ++ replicate 9 0)) c.requires.few
          ∙ digits_padded i.kept.items rest (replicate 9 0) i.count (index / 2) 0 count index (omega (arith, c.if-index-eq0.true)) (omega (arith, counted, c.requires.within)) whole behind
          ∙ ap (λ v. take count (drop index v.items)) c.self.view_is;
      tens = subst (AllBelowBase 10) (sym c.digits_within.ensures) (padded_tens i.kept.items rest i.count (index / 2) 0 c.self.invariant.0 behind);
    }

pub returns-else-index-eq0 : goal.returns-else-index-eq0
returns-else-index-eq0 c =
    let i = c.self.inside in
    let index = c.args.index in
    let count = c.args.count in
    let rest = c.split_at.result.1.now in
    let odd : index % 2 ≡ 1 = grind (arith, c.if-index-eq0.false) in
    let counted : i.count ≡ length c.args.self.now.items = sym c.self.invariant.0.all ∙ ap (λ v. length v.items) c.self.view_is in
    let whole : i.count ≤ 2 * length i.kept.items = omega (arith, bytes_length i.kept.items i.count c.self.invariant.0) in
    let behind = c.split_at.ensures.back ∙ ap (drop (index / 2)) c.as_slice.ensures in
    record {
      taken = ap (take count) c.digits_between.ensures
          ∙ take-take count 16 (drop 1 (halves (rest ++ replicate 9 0))) c.requires.few
          ∙ digits_padded i.kept.items rest (replicate 9 0) i.count (index / 2) 1 count index (omega (arith, odd)) (omega (arith, counted, c.requires.within)) whole behind
          ∙ ap (λ v. take count (drop index v.items)) c.self.view_is;
      tens = subst (AllBelowBase 10) (sym c.digits_between.ensures) (padded_tens i.kept.items rest i.count (index / 2) 1 c.self.invariant.0 behind);
    }
