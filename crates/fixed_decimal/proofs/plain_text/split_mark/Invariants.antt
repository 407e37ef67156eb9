use Rattle.std.proofs.Common.{take}
use Rattle.fixed_decimal.specs.PlainText.{HasNoMark}
use Rattle.fixed_decimal.proofs.plain_text.split_mark.Given as goal

abbrev pub invariant-loop-index : goal.invariant-loop-index
invariant-loop-index l = HasNoMark (take l.index l.text)
