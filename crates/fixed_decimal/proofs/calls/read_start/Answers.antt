use Rattle.std.proofs.Common.{ap, Err}
use Rattle.fixed_decimal.proofs.SignedReadOnceLemmas.{signed_is_text, signed_not_beyond}
use Rattle.fixed_decimal.proofs.calls.read_start.Goals as goal

pub returns-in-Err-Limit-clause-parse : goal.returns-in-Err-Limit-clause-parse
returns-in-Err-Limit-clause-parse c = λ e v h. signed_not_beyond c.args.start.now v h (c.in-Err-Limit.ensures.limit (ap Err c.in-Err-Limit.field-0-is))

pub returns-in-Err-Syntax-clause-parse : goal.returns-in-Err-Syntax-clause-parse
returns-in-Err-Syntax-clause-parse c = λ e v h. signed_is_text c.args.start.now v (c.in-Err-Syntax.ensures.syntax (ap Err c.in-Err-Syntax.field-0-is)) h
