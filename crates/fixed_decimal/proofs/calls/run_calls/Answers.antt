use Rattle.std.proofs.Common.{Err, ap}
use Rattle.fixed_decimal.proofs.CallsLemmas.{refused_is_parse}
use Rattle.fixed_decimal.proofs.calls.run_calls.Goals as goal

pub returns-in-Err-clause-parse : goal.returns-in-Err-clause-parse
returns-in-Err-clause-parse g c =
    refused_is_parse c.args.start.now c.in-Err.refused (λ e. c.in-Err.ensures.parse (ap Err e)) (λ e. c.in-Err.ensures.write (ap Err e)) (λ e. c.in-Err.ensures.memory (ap Err e))
