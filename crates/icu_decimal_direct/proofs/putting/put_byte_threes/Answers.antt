use Rattle.std.proofs.Common.{◌∙◌, arith}
use Rattle.std.proofs.lemmas.List.{length-set}
use Rattle.icu_decimal_direct.proofs.PuttingLemmas.{byte_threes_next}
use Rattle.icu_decimal_direct.proofs.putting.put_byte_threes.Goals as goal

pub loop-at-preserved : goal.loop-at-preserved
loop-at-preserved g c =
    let going = c.loop-at-test.true in
    let long = c.loop-at.invariant.long in
    let told = c.told-out in
    let room = c.requires.room in
    record {
      at = omega (arith, going);
      long = length-set _ _ _ ∙ length-set _ _ _ ∙ length-set _ _ _ ∙ length-set c.loop-at.out _ _ ∙ long;
      text = byte_threes_next c.args.separator c.args.len c.loop-at.at c.args.groups c.loop-at.out c.args.bytes.now going c.requires.enough (omega (arith, long, told, room)) ∙ c.loop-at.invariant.text;
    }
