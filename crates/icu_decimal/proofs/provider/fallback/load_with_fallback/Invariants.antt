use Rattle.std.proofs.Common.{◌≡◌, drop}
use Rattle.icu_decimal.specs.Choice.{first_found, found_or}
use Rattle.icu_decimal.proofs.provider.fallback.load_with_fallback.Given as goal

abbrev pub invariant-loop-id : goal.invariant-loop-id
invariant-loop-id g l =
    first_found (λ id. g.P.DataProvider.table l.provider id) l.ids
    ≡ found_or (λ id. g.P.DataProvider.table l.provider id) l.last (drop l.id-index l.ids)
