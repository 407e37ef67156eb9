use Rattle.icu_decimal_plain.proofs.TextLemmas.{decimal_is_text, unsigned_is_text}
use Rattle.icu_decimal_plain.proofs.laws.text_law.Goals as goal

pub returns : goal.returns
returns c = record { unsigned = unsigned_is_text; decimal = decimal_is_text }
