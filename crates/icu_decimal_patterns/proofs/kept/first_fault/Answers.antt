use Rattle.icu_decimal_patterns.proofs.KeptLemmas.{sorted_rises}
use Rattle.icu_decimal_patterns.proofs.kept.first_fault.Goals as goal

pub returns-then-is_some-clause-rising : goal.returns-then-is_some-clause-rising
returns-then-is_some-clause-rising c = sorted_rises c.args.given.now.entries c.iter-log10_type-items.ensures.ordered

pub returns-clause-rising : goal.returns-clause-rising
returns-clause-rising c = sorted_rises c.args.given.now.entries c.iter-log10_type-items.ensures.ordered
