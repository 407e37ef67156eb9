use Rattle.refusal_cases.proofs.counted.round.Given as goal

abbrev pub ghosts-round_in_ledger : goal.ghosts-round_in_ledger
ghosts-round_in_ledger a = record { name = a.blank.name; parts = a.blank.parts }
