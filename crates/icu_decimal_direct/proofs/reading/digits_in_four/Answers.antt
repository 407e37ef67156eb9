use Rattle.std.proofs.Common.{arith}
use Rattle.std.proofs.lemmas.Simd.{length-chunk}
use lib.Lanes.{chunk}
use Rattle.icu_decimal_direct.proofs.LaneLemmas.{lanes_are, lanes_digits, lanes_few, lanes_stop}
use Rattle.icu_decimal_direct.proofs.reading.digits_in_four.Goals as goal

pub returns-clause-few : goal.returns-clause-few
returns-clause-few c =
    lanes_few c.args.text.now c.args.from 4 c.first_set.result _ c.requires (omega arith) c.type_inv.text c.first_set.ensures
    (lanes_are 4 (chunk c.args.from 4 c.args.text.now) (length-chunk c.args.from 4 c.args.text.now c.requires))

pub returns-clause-digits : goal.returns-clause-digits
returns-clause-digits c =
    lanes_digits c.args.text.now c.args.from 4 c.first_set.result _ c.requires (omega arith) c.type_inv.text c.first_set.ensures
    (lanes_are 4 (chunk c.args.from 4 c.args.text.now) (length-chunk c.args.from 4 c.args.text.now c.requires))

pub returns-clause-stops : goal.returns-clause-stops
returns-clause-stops c =
    lanes_stop c.args.text.now c.args.from 4 c.first_set.result _ c.requires (omega arith) c.type_inv.text c.first_set.ensures
    (lanes_are 4 (chunk c.args.from 4 c.args.text.now) (length-chunk c.args.from 4 c.args.text.now c.requires))
