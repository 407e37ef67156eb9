use Rattle.std.proofs.Common.{refl, lit≤}
use Rattle.tinystr.specs.SmallText.{padded}
use Rattle.tinystr_rows.proofs.texts.constant.Goals as goal

pub invariant_of-as_utf8 : goal.invariant_of-as_utf8
unfolding padded
invariant_of-as_utf8 g c = record { small = record { short = lit≤ tt; ascii = refl }; rest = refl }
