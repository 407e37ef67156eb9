use Rattle.std.proofs.Common.{sym, rules}
use Rattle.locale_numbers_tables.proofs.TableLemmas.{count-items}
use Rattle.locale_numbers_tables.proofs.fields.has_count.Goals as goal

pub returns-in-Some : goal.returns-in-Some
returns-in-Some c = rw (sym c.in-Some.ensures, count-items, c.len.ensures) (search rules)
