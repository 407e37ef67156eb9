use Rattle.locale_numbers_cache.proofs.LawsLemmas.{unused_miss}
use Rattle.locale_numbers_cache.proofs.laws.unused_keys_miss.Goals as goal

pub returns : goal.returns
returns g c = unused_miss g.K.PartialEq.eq
