use Rattle.std.proofs.Common.{◌≡◌, All, None, length}
use Rattle.locale_numbers_cache.proofs.read_keys.ReadKeys.new.Given as goal

abbrev pub invariant-loop : goal.invariant-loop
invariant-loop g l = All (λ pair. pair ≡ (None, None)) l.pairs.items × (length l.pairs.items ≡ l.counter)
