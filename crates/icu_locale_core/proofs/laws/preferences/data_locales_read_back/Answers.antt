use Rattle.icu_locale_core.proofs.LawLemmas.{read_data_reads_back, normal_data_reads_back}
use Rattle.icu_locale_core.proofs.laws.preferences.data_locales_read_back.Goals as goal

pub returns : goal.returns
returns c = record { read = read_data_reads_back; normal = normal_data_reads_back }
