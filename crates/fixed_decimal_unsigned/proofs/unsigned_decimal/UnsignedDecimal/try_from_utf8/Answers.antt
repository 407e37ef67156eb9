use Rattle.fixed_decimal_unsigned.proofs.unsigned_decimal.UnsignedDecimal.try_from_utf8.Goals as goal

pub returns-in-Err-clause-syntax : goal.returns-in-Err-clause-syntax
returns-in-Err-clause-syntax c = λ e. c.in-Err.ensures.syntax (cc)

pub returns-in-Err-clause-memory : goal.returns-in-Err-clause-memory
returns-in-Err-clause-memory c = λ e. c.in-Err.ensures.memory (cc)
