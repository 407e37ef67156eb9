use Rattle.locale_numbers_formats.proofs.ReadLemmas.{skeleton_is}
use Rattle.locale_numbers_formats.proofs.laws.texts_are_skeletons.Goals as goal

pub returns : goal.returns
returns c = skeleton_is
