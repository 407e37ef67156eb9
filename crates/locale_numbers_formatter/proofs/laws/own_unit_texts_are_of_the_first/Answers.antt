use Rattle.locale_numbers_formatter.proofs.LenientUnitLemmas.{own_unit_text_is_firsts}
use Rattle.locale_numbers_formatter.proofs.laws.own_unit_texts_are_of_the_first.Goals as goal

pub returns : goal.returns
returns c = own_unit_text_is_firsts
