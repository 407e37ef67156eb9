use Rattle.writeable.specs.Taking.{on_err}
use Rattle.fixed_decimal.proofs.CallsLemmas.{grows_here, runs_on, grows_on}
use Rattle.fixed_decimal.proofs.calls.make_calls.Goals as goal

pub returns-in_err-make_call-clause-room : goal.returns-in_err-make_call-clause-room
returns-in_err-make_call-clause-room c =
    on_err c.from_residual.result
    (c.loop-call.invariant.1 (grows_here c.args.calls.now c.loop-call.call-index _ _ c.loop-call-test.true c.in_err-make_call.ensures.room))

pub loop-call-preserved : goal.loop-call-preserved
loop-call-preserved c =
    let calls = c.args.calls.now in let i = c.loop-call.call-index in let here = c.loop-call.decimal in let next = c.make_call.new.decimal in (
      (λ new run. c.loop-call.invariant.0 new (runs_on calls i _ here next new c.loop-call-test.true c.in_ok-make_call.ensures.value run)),
      (λ grows. c.loop-call.invariant.1 (grows_on calls i _ here next c.loop-call-test.true c.in_ok-make_call.ensures.value grows)),
    )
