use Rattle.std.proofs.Common.{◌∙◌, arith}
use Rattle.std.proofs.lemmas.List.{length-set}
use Rattle.icu_decimal_plain.proofs.PieceLemmas.{table_next}
use Rattle.icu_decimal_plain.proofs.text_pieces.pieces_of.Goals as goal

pub loop-digit-preserved : goal.loop-digit-preserved
loop-digit-preserved c =
    let digit = c.loop-digit.digit in
    let pieces = c.loop-digit.pieces in
    let long = c.loop-digit.invariant.long in
    let going = c.loop-digit-test.true in
    record {
      digit = omega (arith, going);
      long = length-set pieces digit c.of_char.result ∙ long;
      held = table_next pieces c.args.table.now digit c.of_char.result (omega (arith, going, long)) c.loop-digit.invariant.held c.of_char.ensures;
    }
