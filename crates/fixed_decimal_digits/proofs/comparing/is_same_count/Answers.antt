use Rattle.fixed_decimal_digits.proofs.SameCountLemmas.{digits_decide}
use Rattle.fixed_decimal_digits.proofs.comparing.is_same_count.Goals as goal

pub returns : goal.returns
returns c =
    digits_decide c.args.digits.now.items c.args.other.now.items c.args.top c.args.other_top c.is_same.result c.requires.kept c.requires.other c.if-top-other_top.false c.is_same.ensures
