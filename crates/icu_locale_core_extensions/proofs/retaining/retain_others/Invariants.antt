use Rattle.std.proofs.Common.{◌-◌, vec_len}
use Rattle.icu_locale_core_keywords_fields.proofs.RetainLemmas.{IsRetaining}
use Rattle.icu_locale_core_extensions.specs.RetainedByType.{other_type}
use Rattle.icu_locale_core_extensions.proofs.retaining.retain_others.Given as goal

abbrev pub invariant-loop-place : goal.invariant-loop-place
invariant-loop-place g l = record {
  callable : goal.F-IsAlwaysCallable g l.keep;
  retaining : IsRetaining (λ p singleton b q. goal.F-step g p (other_type singleton) b q) l.initial.keep l.initial.others.items l.others.items l.place l.keep;
}

abbrev pub decreases-loop-place : goal.decreases-loop-place
decreases-loop-place g l = vec_len l.others - l.place
