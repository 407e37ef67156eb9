use Rattle.std.proofs.Common.{refl, lit≤}
use Rattle.tinystr.specs.SmallText.{padded}
use Rattle.icu_locale_core_rows.proofs.subtags.unknown.Goals as goal

pub invariant_of-as_str : goal.invariant_of-as_str
unfolding padded
invariant_of-as_str g = record { small = record { short = lit≤ tt; ascii = refl }; rest = refl }
