use Rattle.std.proofs.Common.{◌≡◌, ◌-◌}
use Rattle.icu_decimal_chains.specs.Chains.{chain}
use Rattle.icu_decimal.specs.Choice.{first_found}
use Rattle.icu_decimal.specs.Identifiers.{under_each}
use Rattle.icu_decimal.proofs.provider.chain_loading.load_along.Given as goal

abbrev pub invariant-loop-turn : goal.invariant-loop-turn
invariant-loop-turn g l =
    first_found (λ id. g.P.DataProvider.table l.provider id) (under_each l.attributes (chain (g.P.ParentProvider.next l.provider) (g.P.ParentProvider.limit l.provider) l.fn.locale))
    ≡ first_found (λ id. g.P.DataProvider.table l.provider id) (under_each l.attributes (chain (g.P.ParentProvider.next l.provider) (g.P.ParentProvider.limit l.provider - l._turn) l.current))
