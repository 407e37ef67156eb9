use Rattle.std.proofs.Common.{◌∙◌, ap, arith, take}
use Rattle.std.proofs.lemmas.List.{take-take}
use Rattle.icu_decimal_plain.proofs.digit_chunks.next_digits.Goals as goal

pub returns-in-Some-clause-chunk : goal.returns-in-Some-clause-chunk
returns-in-Some-clause-chunk c = ap (take 48) c.in-Some.ensures.taken ∙ take-take 48 48 c.args.digits.now (omega arith)
