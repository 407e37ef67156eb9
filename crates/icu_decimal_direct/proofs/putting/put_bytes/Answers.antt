use Rattle.std.proofs.Common.{◌∙◌, arith}
use Rattle.std.proofs.lemmas.List.{length-set}
use Rattle.icu_decimal_direct.proofs.PuttingLemmas.{byte_next}
use Rattle.icu_decimal_direct.proofs.putting.put_bytes.Goals as goal

pub loop-at-preserved : goal.loop-at-preserved
loop-at-preserved g c =
    let going = c.loop-at-test.true in
    let long = c.loop-at.invariant.long in
    let told = c.told-out in
    let room = c.requires.room in
    record {
      at = omega (arith, going);
      long = length-set c.loop-at.out _ _ ∙ long;
      text = byte_next c.args.len c.loop-at.at c.loop-at.out c.args.bytes.now going (omega (arith, going, long, told, room)) ∙ c.loop-at.invariant.text;
    }
