use Rattle.std.proofs.Common.{sym, ap, Some}
use Rattle.locale_numbers_words.proofs.UnitNameLemmas.{name_small}
use Rattle.locale_numbers_words.proofs.unit_name.unit_name.Goals as goal

pub returns-in-Ok : goal.returns-in-Ok
returns-in-Ok c = rw (sym c.if-not-is_unit_name.ensures) (ap Some c.in-Ok.ensures.value)

pub returns-in-Err : goal.returns-in-Err
returns-in-Err c = let small = name_small c.args.text.now (sym c.if-not-is_unit_name.ensures) in let fits = c.in-Err.ensures.succeeds.1 small in cc
