use Rattle.std.proofs.Common.{◌≡◌}
use Rattle.icu_locale_core_keywords_fields.specs.Values.{without_true}
use Rattle.icu_locale_core_keywords_fields.proofs.value.ValueOf.try_from_iter.Given as goal

abbrev pub invariant-loop-subtag : goal.invariant-loop-subtag
invariant-loop-subtag g l = l.value ≡ without_true l.yielded
