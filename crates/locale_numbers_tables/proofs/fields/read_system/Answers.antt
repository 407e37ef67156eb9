use Rattle.std.proofs.Common.{sym, ap, Some}
use Rattle.locale_numbers_tables.proofs.SystemLemmas.{system_small}
use Rattle.locale_numbers_tables.proofs.fields.read_system.Goals as goal

pub returns-in-Ok : goal.returns-in-Ok
returns-in-Ok c = rw (sym c.if-not-is_system_name.ensures) (ap Some c.in-Ok.ensures.value)

pub returns-in-Err : goal.returns-in-Err
returns-in-Err c = let small = system_small c.args.text.now (sym c.if-not-is_system_name.ensures) in let fits = c.in-Err.ensures.succeeds.1 small in cc
