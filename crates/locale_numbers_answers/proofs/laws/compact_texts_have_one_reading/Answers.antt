use Rattle.locale_numbers_answers.proofs.CompactReadingLemmas.{one_compact_reading}
use Rattle.locale_numbers_answers.proofs.laws.compact_texts_have_one_reading.Goals as goal

pub returns : goal.returns
returns c = one_compact_reading
