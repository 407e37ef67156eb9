use Rattle.locale_numbers.proofs.starting.start_with.Goals as goal

pub program-requires-clause-prompt : goal.program-requires-clause-prompt
program-requires-clause-prompt g c = λ book of. c.requires.prompt book of.text of.fact
