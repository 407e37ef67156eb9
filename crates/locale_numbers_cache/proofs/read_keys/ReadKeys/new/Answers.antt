use Rattle.std.proofs.Common.{rules}
use Rattle.locale_numbers_cache.proofs.LastReadLemmas.{forget_are_read, one_more_forgets}
use Rattle.locale_numbers_cache.proofs.read_keys.ReadKeys.new.Goals as goal

pub loop-preserved : goal.loop-preserved
loop-preserved g c = (one_more_forgets c.loop.pairs.items c.push.new.self.items c.new.result c.in_ok-push.ensures.items c.loop.invariant.0 c.new.ensures, search rules)

pub returns-clause-sound : goal.returns-clause-sound
returns-clause-sound g c = λ key_of. forget_are_read key_of c.loop.pairs.items c.loop.invariant.0
