use Rattle.std.proofs.Common.{◌-◌, vec_len}
use Rattle.std.specs.Fn.{CalledAt}
use Rattle.icu_locale_core_keywords_fields.proofs.RetainLemmas.{IsRetaining}
use Rattle.icu_locale_core_keywords_fields.proofs.retaining.retain_pairs.Given as goal

abbrev pub invariant-loop-place : goal.invariant-loop-place
invariant-loop-place g l = record {
  callable : goal.F-IsAlwaysCallable g l.keep;
  retaining : IsRetaining (CalledAt g.F.FnMut) l.initial.keep l.initial.pairs.items l.pairs.items l.place l.keep;
}

abbrev pub decreases-loop-place : goal.decreases-loop-place
decreases-loop-place g l = vec_len l.pairs - l.place
