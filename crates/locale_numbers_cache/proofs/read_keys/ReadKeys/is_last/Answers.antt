use Rattle.std.proofs.Common.{◌≡◌, Some, slice_get, sym, ap, ◌∙◌, subst}
use Rattle.std.proofs.lemmas.Bool.{ltb-true}
use Rattle.std.proofs.lemmas.Option.{slice_get-get_or}
use Rattle.locale_numbers_cache.specs.LastRead.{IsLastOf}
use Rattle.locale_numbers_cache.proofs.LastReadLemmas.{is_last}
use Rattle.locale_numbers_cache.proofs.read_keys.ReadKeys.is_last.Goals as goal

pub returns-in-Some : goal.returns-in-Some
returns-in-Some g c = λ is.
    let inside = c.self.inside in
    let pair = c.in-Some.pair.now in
    let at : slice_get c.deref.result.now inside.last ≡ Some pair =
    slice_get-get_or c.deref.result.now inside.last pair (ltb-true _ _ (sym c.in-Some.ensures.lookup.0)) ∙ ap Some (sym c.in-Some.ensures.lookup.1) in
    subst (IsLastOf c.args.bytes.now) c.self.view_is
    (is_last inside.last inside.pairs.items inside.long c.args.bytes.now pair c.self.invariant.1 (subst (λ items. slice_get items inside.last ≡ Some pair) c.deref.ensures.value at) (sym c.is_last.ensures ∙ is))
