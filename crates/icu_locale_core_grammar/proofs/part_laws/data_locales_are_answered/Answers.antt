use Rattle.icu_locale_core_grammar.proofs.DataFaults.{data_answered, one_data_fault, data_never_both}
use Rattle.icu_locale_core_grammar.proofs.part_laws.data_locales_are_answered.Goals as goal

pub returns : goal.returns
returns c = record { answered = data_answered; one_fault = one_data_fault; never_both = data_never_both }
