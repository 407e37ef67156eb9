use Rattle.std.proofs.Common.{◌++◌, ◌∙◌, ap, arith, replicate, rules, take}
use Rattle.icu_decimal_direct.specs.TextTables.{text_tables}
use Rattle.icu_decimal_direct.proofs.ShownLemmas.{digits_told}
use Rattle.icu_decimal_direct.proofs.UnitLemmas.{shown_both, shown_whole, zeros_of}
use Rattle.icu_decimal_direct.proofs.unit_putting.put_shown.Goals as goal

pub put_integer-end-requires : goal.put_integer-end-requires
put_integer-end-requires g c =
    let d = c.args.digits.now in
    let room = c.requires in
    (search rules, (omega (arith, room), (digits_told d.integer.now d.held.whole, (d.held.some, d.held.few))))

pub returns-then-count-zeros-eq0-clause-text : goal.returns-then-count-zeros-eq0-clause-text
returns-then-count-zeros-eq0-clause-text g c =
    let d = c.args.digits.now in
    let is = c.saturating_sub-zeros.ensures in
    let none = c.if-count-zeros-eq0.true in
    shown_whole (text_tables c.args.tables.now) d.sign d.integer.now d.fraction.now (take c.args.len c.args.out.now) (take c.put_integer-end.result c.put_integer-end.new.out) c.args.least d.held c.requires.few (omega (arith, is, none)) c.put_integer-end.ensures.text

pub returns-clause-text : goal.returns-clause-text
returns-clause-text g c =
    let t = c.args.tables.now in
    let d = c.args.digits.now in
    let is = c.saturating_sub-zeros.ensures in
    let few = c.requires.few in
    shown_both (text_tables t) t.direct d.sign d.integer.now d.fraction.now (take c.args.len c.args.out.now) (take c.put_integer-end.result c.put_integer-end.new.out) (take c.put_bytes-begun.result c.put_bytes-begun.new.out)
    (take c.put_bytes-shown.result c.put_bytes-shown.new.out) (take c.put_bytes.result c.put_bytes.new.out) c.args.least t.held d.held few (λ none. c.if-count-zeros-eq0.false (omega (arith, is, none))) c.put_integer-end.ensures.text
    (c.put_bytes-begun.ensures.text ∙ ap (λ point. take c.put_integer-end.result c.put_integer-end.new.out ++ point) c.as_bytes.ensures.value) c.put_bytes-shown.ensures.text
    (c.put_bytes.ensures.text ∙ ap (λ zeros. take c.put_bytes-shown.result c.put_bytes-shown.new.out ++ zeros) (zeros_of c.saturating_sub-zeros.result (omega (arith, is, few)) ∙ ap (λ n. replicate n 48) is))
