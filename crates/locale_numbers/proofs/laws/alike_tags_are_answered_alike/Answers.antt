use Rattle.locale_numbers.proofs.AlikeTags.{alike_tags}
use Rattle.locale_numbers.proofs.laws.alike_tags_are_answered_alike.Goals as goal

pub returns : goal.returns
returns c = alike_tags
