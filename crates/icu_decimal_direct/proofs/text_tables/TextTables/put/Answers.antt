use Rattle.icu_decimal_direct.specs.TextTables.{text_tables}
use Rattle.icu_decimal_direct.proofs.Utf8Lemmas.{utf8_decimal}
use Rattle.icu_decimal_direct.proofs.text_tables.TextTables.put.Goals as goal

pub returns-in-None-clause-utf8 : goal.returns-in-None-clause-utf8
returns-in-None-clause-utf8 g c =
    let t = c.args.self.now in
    let d = c.args.digits.now in
    utf8_decimal (text_tables t) t.direct d.sign d.integer.now d.fraction.now t.held d.held

pub returns-clause-utf8 : goal.returns-clause-utf8
returns-clause-utf8 g c =
    let t = c.args.self.now in
    let d = c.args.digits.now in
    utf8_decimal (text_tables t) t.direct d.sign d.integer.now d.fraction.now t.held d.held
