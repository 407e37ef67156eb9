use Rattle.std.proofs.Common.{vec_capacity}
use Rattle.std.specs.Vec.Iter.{into_iter_items}
use Rattle.icu_locale_core_keywords_fields.proofs.NewKeyLemmas.{IsSetting}
use Rattle.icu_locale_core_keywords_fields.proofs.placing.set_all.Given as goal

abbrev pub invariant-loop-key : goal.invariant-loop-key
invariant-loop-key g l = IsSetting l.initial.entries.items l.fn.others.items l.entries.items (into_iter_items l.key-iterator) (vec_capacity l.entries)
