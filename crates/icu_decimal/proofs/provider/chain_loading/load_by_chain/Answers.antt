use Rattle.std.proofs.Common.{Some, sym, ap, ◌∙◌}
use Rattle.icu_decimal.proofs.ChainLoadingLemmas.{found_with, found_without, refused_with}
use Rattle.icu_decimal.proofs.provider.chain_loading.load_by_chain.Goals as goal

pub returns-in-Ok : goal.returns-in-Ok
returns-in-Ok g c = found_with (λ id. g.P.DataProvider.table c.args.provider.now id) _ _ _ _ (c.in-Some.is ∙ ap Some (sym (c.to_tinystr-system.ensures ∙ c.deref.ensures))) _ c.in-Ok.ensures

pub returns-in-IdentifierNotFound : goal.returns-in-IdentifierNotFound
returns-in-IdentifierNotFound g c =
    found_without (λ id. g.P.DataProvider.table c.args.provider.now id) _ _ _ _ (c.in-Some.is ∙ ap Some (sym (c.to_tinystr-system.ensures ∙ c.deref.ensures))) _ _
    (rw c.in-IdentifierNotFound.is at c.in-Err.ensures) c.default-alone.ensures c.load_along-in-IdentifierNotFound.ensures

pub returns-in_default : goal.returns-in_default
returns-in_default g c =
    refused_with (λ id. g.P.DataProvider.table c.args.provider.now id) _ _ _ _ (c.in-Some.is ∙ ap Some (sym (c.to_tinystr-system.ensures ∙ c.deref.ensures))) _ c.in-Err.ensures c.in_default.not-IdentifierNotFound
