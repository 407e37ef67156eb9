use Rattle.icu_decimal_scientific.proofs.ShownLawLemmas.{normal_is_shown, normal_reads_back, shown_is_normal, shown_reads_back, within_is_decimal}
use Rattle.icu_decimal_scientific.proofs.laws.shown_is_read_back.Goals as goal

pub returns : goal.returns
returns c = record { normal = shown_is_normal; within = within_is_decimal; shown = normal_is_shown; any = normal_reads_back; back = shown_reads_back }
