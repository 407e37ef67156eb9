use Rattle.std.specs.Slice.Iter.{iter_rest}
use Rattle.std.specs.Iterator.Adapters.{zip_first, zip_second}
use Rattle.icu_locale_core_extensions.proofs.OrderLemmas.{IsComparing}
use Rattle.icu_locale_core_extensions.proofs.comparing.others_order.Given as goal

abbrev pub invariant-loop-one : goal.invariant-loop-one
invariant-loop-one l = IsComparing l.others l.against (iter_rest (zip_first l.one-iterator)) (iter_rest (zip_second l.one-iterator))
