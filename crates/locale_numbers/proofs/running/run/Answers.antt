use Rattle.std.proofs.Common.{rules}
use Rattle.locale_numbers.specs.Front.{front_of}
use Rattle.locale_numbers.proofs.FrontLemmas.{right_of_none}
use Rattle.locale_numbers.proofs.running.run.Goals as goal

pub run_with-requires-clause-can_answer : goal.run_with-requires-clause-can_answer
run_with-requires-clause-can_answer g c = (search rules, c.in_ok-new.ensures.sound front_of, right_of_none _ _ c.in_ok-new.ensures.none)
