use Rattle.locale_numbers_formats.proofs.RoundTrip.{reads_back}
use Rattle.locale_numbers_formats.proofs.laws.normal_text_reads_back.Goals as goal

pub returns : goal.returns
returns c = reads_back
