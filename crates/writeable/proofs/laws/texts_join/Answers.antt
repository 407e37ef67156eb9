use Rattle.writeable.specs.SinkLaws.{text_of_joined}
use Rattle.writeable.proofs.laws.texts_join.Goals as goal

pub returns : goal.returns
returns c = text_of_joined
