use Rattle.std.proofs.Common.{◌≡◌, ◌++◌, length}
use Rattle.std.specs.Prelude.{option_map}
use Rattle.icu_decimal_plurals.specs.ConditionGrammar.{relations_of}
use Rattle.icu_decimal_plurals.proofs.grammar.read_relations.Given as goal

abbrev pub invariant-loop-relations : goal.invariant-loop-relations
invariant-loop-relations l = relations_of l.fn.tokens ≡ option_map (λ behind. l.relations.items ++ behind) (relations_of l.rest)

abbrev pub decreases-loop-relations : goal.decreases-loop-relations
decreases-loop-relations l = length l.rest
