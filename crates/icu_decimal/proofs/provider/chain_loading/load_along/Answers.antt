use Rattle.std.proofs.Common.{◌-◌, sym, ◌∙◌, arith}
use Rattle.icu_decimal.proofs.ChainLoadingLemmas.{ended, stepped}
use Rattle.icu_decimal.proofs.provider.chain_loading.load_along.Goals as goal

pub returns-in-None : goal.returns-in-None
returns-in-None g c =
    sym (c.loop-turn.invariant
    ∙ ended (λ id. g.P.DataProvider.table c.args.provider.now id) _ (g.P.ParentProvider.next c.args.provider.now) _ _
    (sym (rw (c.in-Err-IdentifierNotFound.field-0-is, c.for_marker_attributes_and_locale-id.ensures) at c.in-Err-IdentifierNotFound.ensures))
    (sym c.parent.ensures ∙ c.in-None.is))

pub loop-turn-preserved : goal.loop-turn-preserved
loop-turn-preserved g c =
    c.loop-turn.invariant
    ∙ stepped (λ id. g.P.DataProvider.table c.args.provider.now id) _ (g.P.ParentProvider.next c.args.provider.now) _ _ _ _ (omega arith)
    (sym (rw (c.in-Err-IdentifierNotFound.field-0-is, c.for_marker_attributes_and_locale-id.ensures) at c.in-Err-IdentifierNotFound.ensures))
    (sym c.parent.ensures ∙ c.in-Some.is)
