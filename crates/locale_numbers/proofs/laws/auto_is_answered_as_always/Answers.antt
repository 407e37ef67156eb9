use Rattle.locale_numbers.proofs.GroupingTwins.{auto_is_always}
use Rattle.locale_numbers.proofs.laws.auto_is_answered_as_always.Goals as goal

pub returns : goal.returns
returns c = auto_is_always
