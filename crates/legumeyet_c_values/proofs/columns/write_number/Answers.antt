use Rattle.std.proofs.Common.{Result, OnOk, IfErr, subst}
use Rattle.legumeyet_c_values.specs.Columns.{OfFirst, given_in}
use Rattle.legumeyet_c_values.specs.Numbers.{IsGiven, IsGivenFault}
use Rattle.legumeyet_c_values.specs.declared.call_error.CallError.{CallError}
use Rattle.legumeyet_c_values.proofs.ColumnLemmas.{first_put, first_refused}
use Rattle.legumeyet_c_values.proofs.columns.write_number.Goals as goal

pub returns-in-Ok-clause-put : goal.returns-in-Ok-clause-put
returns-in-Ok-clause-put g c =
    let numbers = given_in c.args.left.now in
    let value = c.split_first-outcome.new.number in
    first_put (g.W.NumberWriter.says c.args.writer.now) (g.W.NumberWriter.fails c.args.writer.now) numbers value _ _ _ _ c.write.result c.write.ensures.put
    (subst (λ (r : Result (Unit {0}) CallError). OfFirst (λ given. OnOk r (IsGiven given value)) numbers) c.in-Ok.is c.split_first-outcome.ensures.value)

pub returns-in-Err-clause-put : goal.returns-in-Err-clause-put
returns-in-Err-clause-put g c =
    let numbers = given_in c.args.left.now in
    first_refused (g.W.NumberWriter.says c.args.writer.now) (g.W.NumberWriter.fails c.args.writer.now) numbers _ _ c.in-Err.error
    (λ given. g.W.NumberWriter.faults c.args.writer.now given c.in-Err.error)
    (subst (λ (r : Result (Unit {0}) CallError). OfFirst (λ given. IfErr r (IsGivenFault given)) numbers) c.in-Err.is c.split_first-outcome.ensures.fault)
