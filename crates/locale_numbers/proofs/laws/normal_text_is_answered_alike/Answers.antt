use Rattle.locale_numbers.proofs.AlikeTags.{normal_text_alike}
use Rattle.locale_numbers.proofs.laws.normal_text_is_answered_alike.Goals as goal

pub returns : goal.returns
returns c = normal_text_alike
