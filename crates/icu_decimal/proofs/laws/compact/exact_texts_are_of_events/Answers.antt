use Rattle.icu_decimal.proofs.CompactTextLemmas.{exact_is_text}
use Rattle.icu_decimal.proofs.laws.compact.exact_texts_are_of_events.Goals as goal

pub returns : goal.returns
returns c = exact_is_text
