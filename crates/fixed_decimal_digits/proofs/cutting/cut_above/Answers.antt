use Rattle.std.proofs.Common.{◌-◌, refl, arith}
use Rattle.fixed_decimal_digits.proofs.CutLemmas.{cut_all, cut_trimmed}
use Rattle.fixed_decimal_digits.proofs.cutting.cut_above.Goals as goal

pub returns-then-front-len-clause-value : goal.returns-then-front-len-clause-value
returns-then-front-len-clause-value c =
    cut_all c.args.digits.now.items c.clear.new.self.items c.args.top c.args.place 32768 c.requires.room (omega arith) c.clear.ensures.items

pub returns-clause-trimmed : goal.returns-clause-trimmed
returns-clause-trimmed c =
    cut_trimmed c.args.digits.now.items c.drop_front.new.self.items c.args.top c.first_other-start.result (c.args.top - c.first_other-start.result) c.requires
    c.first_other-start.ensures.within c.drop_front.ensures.items c.first_other-start.ensures.found refl
