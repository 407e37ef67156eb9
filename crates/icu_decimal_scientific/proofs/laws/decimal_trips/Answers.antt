use Rattle.icu_decimal_scientific.proofs.ScientificReadingsLemmas.{decimal_reads_back, form_reads_back, read_form_is_written_again, read_is_decimal}
use Rattle.icu_decimal_scientific.proofs.laws.decimal_trips.Goals as goal

pub returns : goal.returns
returns c = record { form = form_reads_back; back = decimal_reads_back; decimal = read_is_decimal; again = read_form_is_written_again }
