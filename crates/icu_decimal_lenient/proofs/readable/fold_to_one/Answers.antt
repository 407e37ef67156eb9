use Rattle.std.proofs.Common.{◌∙◌, sym}
use Rattle.std.specs.Str.{chars}
use Rattle.icu_decimal_lenient.specs.Folding.{folded_chars}
use Rattle.icu_decimal_lenient.proofs.ReadableLemmas.{same_encoded}
use Rattle.icu_decimal_lenient.proofs.readable.fold_to_one.Goals as goal

pub returns : goal.returns
returns c = c.fold_alike.ensures ∙ sym (same_encoded (folded_chars c.args.table.now (chars c.args.one.now)) (folded_chars c.args.table.now (chars c.args.other.now)))
