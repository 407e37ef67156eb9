use Rattle.icu_decimal_direct.specs.TextTables.{text_tables}
use Rattle.icu_decimal_direct.proofs.UnitLemmas.{utf8_down}
use Rattle.icu_decimal_direct.proofs.text_tables.TextTables.put_shown.Goals as goal

pub returns-in-None-clause-utf8 : goal.returns-in-None-clause-utf8
returns-in-None-clause-utf8 g c =
    let t = c.args.self.now in
    let d = c.args.digits.now in
    utf8_down (text_tables t) t.direct d.sign d.integer.now d.fraction.now c.args.least t.held d.held c.requires.few

pub returns-clause-utf8 : goal.returns-clause-utf8
returns-clause-utf8 g c =
    let t = c.args.self.now in
    let d = c.args.digits.now in
    utf8_down (text_tables t) t.direct d.sign d.integer.now d.fraction.now c.args.least t.held d.held c.requires.few
