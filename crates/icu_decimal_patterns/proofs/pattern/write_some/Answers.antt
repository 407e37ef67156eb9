use Rattle.std.proofs.Common.{arith}
use Rattle.icu_decimal_patterns.proofs.HintLemmas.{empty_text}
use Rattle.icu_decimal_patterns.proofs.pattern.write_some.Goals as goal

pub returns-then-is_empty-clause-ok : goal.returns-then-is_empty-clause-ok
returns-then-is_empty-clause-ok g c =
    rw (empty_text c.args.text.now (grind (arith, c.if-is_empty.ensures))) (g.met.S.Sink.nothing c.args.sink.now)
