use Rattle.icu_decimal_scientific.proofs.NotationLemmas.{decimal_has_form_text, decimal_is_read_back, form_is_written_again, text_has_one_form}
use Rattle.icu_decimal_scientific.proofs.laws.notation_trips.Goals as goal

pub returns : goal.returns
returns c = record { one = text_has_one_form; written = decimal_has_form_text; back = decimal_is_read_back; again = form_is_written_again }
