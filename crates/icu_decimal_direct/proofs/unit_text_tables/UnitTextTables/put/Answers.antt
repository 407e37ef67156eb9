use Rattle.std.proofs.Common.{arith}
use Rattle.icu_decimal_direct.specs.TextTables.{text_tables}
use Rattle.icu_decimal_direct.proofs.UnitLemmas.{shorts_utf8, utf8_shown}
use Rattle.icu_decimal_direct.proofs.unit_text_tables.UnitTextTables.put.Goals as goal

pub returns-clause-utf8 : goal.returns-clause-utf8
returns-clause-utf8 g c =
    let t = c.args.self.now in
    let d = c.args.digits.now in
    let in_order = t.held.in_order in
    let few = t.held.few in
    utf8_shown (text_tables t.tables) t.tables.direct d.sign d.integer.now d.fraction.now _ _ t.least t.tables.held d.held (omega (arith, in_order, few))
    (shorts_utf8 t.none.before t.minus.before t.plus.before d.sign) (shorts_utf8 t.none.after t.minus.after t.plus.after d.sign)
