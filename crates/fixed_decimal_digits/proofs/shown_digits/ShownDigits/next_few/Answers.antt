use Rattle.std.proofs.Common.{rules, ◌≡◌, ◌<◌, [], ◌∷◌, ◌++◌, length, take, sym, ap, ◌∙◌, append_assoc, arith, length-set}
use Rattle.std.proofs.lemmas.List.{take_more_set}
use Rattle.fixed_decimal_digits.proofs.HalvesLemmas.{first_ten, set_tens}
use Rattle.fixed_decimal_digits.proofs.shown_digits.ShownDigits.next_few.Goals as goal

pub loop-count-preserved : goal.loop-count-preserved
loop-count-preserved c =
    let l = c.loop-count in
    let digit = c.in-Some.digit in
    let next : l.self ≡ digit ∷ c.next.new.self = search rules in
    let within : l.count < length l.block = omega (arith, c.loop-count-test.true, l.invariant.size) in
    record {
      within = omega (arith, c.loop-count-test.true);
      size = length-set l.block l.count digit ∙ l.invariant.size;
      taken = ap (λ front. front ++ c.next.new.self) (take_more_set l.block l.count digit within)
          ∙ append_assoc (take l.count l.block) (digit ∷ []) c.next.new.self
          ∙ ap (λ rest. take l.count l.block ++ rest) (sym next)
          ∙ l.invariant.taken;
      tens = λ all block. set_tens l.block l.count digit (l.invariant.tens all block) (first_ten (take l.count l.block) l.self c.next.new.self c.args.self.now digit l.invariant.taken next all);
    }
