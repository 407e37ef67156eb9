use Rattle.std.proofs.Common.{◌∙◌, arith}
use Rattle.std.proofs.lemmas.List.{length-set}
use Rattle.icu_decimal_plain.proofs.RunLemmas.{run_next}
use Rattle.icu_decimal_plain.proofs.runs.put_run.Goals as goal

pub loop-at-preserved : goal.loop-at-preserved
loop-at-preserved g c =
    let going = c.loop-at-test.true in
    let long = c.loop-at.invariant.long in
    let told = c.told-waiting in
    let room = c.requires.room in
    record {
      at = omega (arith, going);
      long = length-set c.loop-at.waiting _ _ ∙ long;
      text = run_next c.args.nought c.args.len c.loop-at.at c.loop-at.waiting c.args.digits.now going (omega (arith, going, long, told, room)) ∙ c.loop-at.invariant.text;
    }
