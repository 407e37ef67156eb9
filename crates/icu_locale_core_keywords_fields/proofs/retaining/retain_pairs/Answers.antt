use Rattle.std.proofs.Common.{of_calls, arith}
use Rattle.std.proofs.lemmas.Fn.{called_at}
use Rattle.icu_locale_core_keywords_fields.proofs.RetainLemmas.{retaining_begins, retaining_keeps, retaining_drops}
use Rattle.icu_locale_core_keywords_fields.proofs.retaining.retain_pairs.Goals as goal

pub loop-place-init : goal.loop-place-init
loop-place-init g c = record { callable = c.requires; retaining = retaining_begins _ _ _ }

pub loop-place-preserved-then-keep : goal.loop-place-preserved-then-keep
loop-place-preserved-then-keep g c = record {
  callable = search of_calls;
  retaining = retaining_keeps _ _ _ _ _ _ _ c.index.result.now c.loop-place.invariant.retaining (omega arith) c.index.ensures (called_at g.F.FnMut c.keep.ensures c.if-keep.true);
}

pub loop-place-preserved : goal.loop-place-preserved
loop-place-preserved g c = record {
  callable = search of_calls;
  retaining = retaining_drops _ _ _ _ _ _ _ c.index.result.now c.loop-place.invariant.retaining (omega arith) c.index.ensures _ c.remove.ensures.items (called_at g.F.FnMut c.keep.ensures c.if-keep.false);
}
