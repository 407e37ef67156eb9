use Rattle.icu_locale_core_grammar.proofs.FaultyPieceLemmas as Faults
use Rattle.icu_locale_core_grammar.proofs.laws.never_both.Goals as goal

pub returns : goal.returns
returns c = Faults.never_both
