use Rattle.std.proofs.Common.{◌≡◌, ◌++◌, length}
use Rattle.std.specs.Prelude.{option_map}
use Rattle.icu_decimal_plurals.specs.ConditionGrammar.{intervals_of}
use Rattle.icu_decimal_plurals.proofs.grammar.read_intervals.Given as goal

abbrev pub invariant-loop-interval : goal.invariant-loop-interval
invariant-loop-interval l = intervals_of l.fn.tokens ≡ option_map (λ behind. l.all.items ++ behind) (intervals_of l.rest)

abbrev pub decreases-loop-interval : goal.decreases-loop-interval
decreases-loop-interval l = length l.rest
