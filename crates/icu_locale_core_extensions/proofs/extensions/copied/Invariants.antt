use Rattle.std.proofs.Common.{◌≡◌, take}
use Rattle.icu_locale_core_extensions.proofs.extensions.copied.Given as goal

abbrev pub invariant-loop-other : goal.invariant-loop-other
invariant-loop-other l = l.copy.items ≡ take l.other-index l.others
