use Rattle.std.proofs.Common.{◌∙◌, ap}
use Rattle.icu_dimension.specs.UnitChoice.{amounts_found, unit_chain}
use Rattle.icu_dimension.proofs.provider.loading.load_amounts.Goals as goal

pub returns : goal.returns
returns g c =
    c.load_by_code.ensures
    ∙ (λ i. amounts_found c.args.style
    (λ id. g.P.DataProvider-1.table c.args.provider.now id)
    (λ id. g.P.DataProvider-2.table c.args.provider.now id)
    (unit_chain (g.P.ParentProvider.next c.args.provider.now) (g.P.ParentProvider.limit c.args.provider.now) (c.locale_of-locale.ensures i))
    (ap (λ p. p.numbering_system) c.preferences.view_is i) (c.attributes.ensures i))
