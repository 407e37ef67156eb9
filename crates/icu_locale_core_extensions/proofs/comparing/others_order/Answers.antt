use Rattle.std.proofs.Common.{◌≡◌, None, refl, sym, ap, ◌∙◌}
use Rattle.std.specs.Slice.Iter.{iter_rest}
use Rattle.std.specs.Iterator.Adapters.{zip_first, zip_second}
use Rattle.std.proofs.lemmas.Slice.Zip.{either_empty_from_Zip}
use Rattle.icu_locale_core_extensions.proofs.OrderLemmas.{comparing_begins, comparing_goes_on, comparing_stops, comparing_ends}
use Rattle.icu_locale_core_extensions.proofs.comparing.others_order.Goals as goal

pub loop-one-init : goal.loop-one-init
loop-one-init c =
    let first : iter_rest (zip_first c.zip-one-items.result) ≡ c.args.others.now = ap iter_rest c.zip-one-items.ensures.first ∙ c.iter.ensures.rest in
    let second : iter_rest (zip_second c.zip-one-items.result) ≡ c.args.against.now = c.zip-one-items.ensures.second.0 in
    let zipped = c.into_iter-one-iterator.ensures.into_iter_gives in
    comparing_begins c.args.others.now c.args.against.now _ _ (ap (λ z. iter_rest (zip_first z)) zipped ∙ first) (ap (λ z. iter_rest (zip_second z)) zipped ∙ second)

pub returns-then-is_ne : goal.returns-then-is_ne
returns-then-is_ne c = comparing_stops _ _ _ _ _ _ _ _ _ c.in-Some.ensures.steps.0 c.in-Some.ensures.steps.1 c.total_cmp-order.ensures c.loop-one.invariant (sym c.is_ne.ensures ∙ c.if-is_ne.true)

pub loop-one-preserved : goal.loop-one-preserved
loop-one-preserved c = comparing_goes_on _ _ _ _ _ _ _ _ _ c.in-Some.ensures.steps.0 c.in-Some.ensures.steps.1 c.total_cmp-order.ensures c.loop-one.invariant (sym c.is_ne.ensures ∙ c.if-is_ne.false)

pub returns : goal.returns
returns c = c.cmp.ensures ∙ comparing_ends c.args.others.now c.args.against.now _ _ (either_empty_from_Zip c.loop-one.one-iterator c.next.new.self None refl c.in-None.ensures.steps) c.loop-one.invariant
