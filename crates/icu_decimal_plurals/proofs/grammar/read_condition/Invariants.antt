use Rattle.std.proofs.Common.{◌≡◌, ◌++◌, length}
use Rattle.std.specs.Prelude.{option_map}
use Rattle.icu_decimal_plurals.specs.ConditionGrammar.{condition_of}
use Rattle.icu_decimal_plurals.proofs.grammar.read_condition.Given as goal

abbrev pub invariant-loop-alternatives : goal.invariant-loop-alternatives
invariant-loop-alternatives l = condition_of l.fn.tokens ≡ option_map (λ behind. l.alternatives.items ++ behind) (condition_of l.rest)

abbrev pub decreases-loop-alternatives : goal.decreases-loop-alternatives
decreases-loop-alternatives l = length l.rest
