use Rattle.icu_locale_core_langid.proofs.SingleLawLemmas.{modes_answered, modes_mean_one, modes_fault_one, modes_never_both}
use Rattle.icu_locale_core_langid.proofs.single.laws.modes_are_answered.Goals as goal

pub returns : goal.returns
returns c = record { answered = modes_answered; one_meaning = modes_mean_one; one_fault = modes_fault_one; never_both = modes_never_both }
