use Rattle.icu_locale_core_locale.proofs.SingletonLemmas.{one_has_come, none_has_come, longer_has_not_come}
use Rattle.icu_locale_core_locale.proofs.parser.singletons.has_come.Goals as goal

pub returns-in-len1 : goal.returns-in-len1
returns-in-len1 c = one_has_come c.args.piece.now c.args.seen.now c.to_ascii_lowercase.result _ c.contains.result c.in-len1.len_at_least c.in-len1.len_below c.to_ascii_lowercase.ensures.value c.contains.ensures.value

pub returns-in_default : goal.returns-in_default
returns-in_default c = none_has_come c.args.piece.now c.args.seen.now c.in_default.len_below

pub returns-in_default-2 : goal.returns-in_default-2
returns-in_default-2 c = longer_has_not_come c.args.piece.now c.args.seen.now c.in_default.len_at_least
