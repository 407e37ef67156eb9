use Rattle.icu_locale_core_grammar.proofs.FaultyPieceLemmas as Faults
use Rattle.icu_locale_core_grammar.proofs.laws.one_fault.Goals as goal

pub returns : goal.returns
returns c = Faults.one_fault
