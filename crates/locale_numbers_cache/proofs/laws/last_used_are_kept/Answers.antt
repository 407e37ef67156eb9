use Rattle.locale_numbers_cache.proofs.LawsLemmas.{last_kept}
use Rattle.locale_numbers_cache.proofs.laws.last_used_are_kept.Goals as goal

pub returns : goal.returns
returns g c = last_kept g.K.PartialEq.eq
