use Rattle.std.proofs.Common.{drop}
use Rattle.fixed_decimal_signed.specs.Number.{Number}
use Rattle.fixed_decimal.specs.Calls.{Run, MayGrowIn}
use Rattle.fixed_decimal_signed.specs.SignedValue.{SignedValue}
use Rattle.fixed_decimal.proofs.calls.make_calls.Given as goal

abbrev pub invariant-loop-call : goal.invariant-loop-call
invariant-loop-call l =
    ((new : SignedValue Number) → Run (drop l.call-index l.calls) l.decimal new → Run l.calls l.initial.decimal new)
    × (MayGrowIn (drop l.call-index l.calls) l.decimal → MayGrowIn l.calls l.initial.decimal)
