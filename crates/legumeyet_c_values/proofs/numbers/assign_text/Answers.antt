use Rattle.legumeyet_c_values.proofs.numbers.assign_text.Goals as goal

pub returns-in-Err-Syntax-clause-fault : goal.returns-in-Err-Syntax-clause-fault
returns-in-Err-Syntax-clause-fault c = c.in-Err-Syntax.ensures.syntax (cc c.in-Err-Syntax.field-0-is)

pub returns-in-Err-Memory-clause-fault : goal.returns-in-Err-Memory-clause-fault
returns-in-Err-Memory-clause-fault c = c.in-Err-Memory.ensures.memory (cc c.in-Err-Memory.field-0-is)
