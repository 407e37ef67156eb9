use Rattle.std.proofs.Common.{◌≡◌, ◌<◌, ◌++◌, ◌∙◌, ap, length, rules, arith, take}
use Rattle.std.proofs.lemmas.Bool.Decides.{nat_tests}
use Rattle.icu_decimal_direct.specs.TextTables.{text_tables}
use Rattle.icu_decimal_direct.proofs.ShownLemmas.{digits_told}
use Rattle.icu_decimal_direct.proofs.TextLemmas.{put_both, put_whole}
use Rattle.icu_decimal_direct.proofs.putting.put_unsigned.Goals as goal

pub put_integer-end-requires : goal.put_integer-end-requires
put_integer-end-requires g c =
    let d = c.args.digits.now in
    let room = c.requires in
    (search rules, (omega (arith, room), (digits_told d.integer.now d.held.whole, (d.held.some, d.held.few))))

pub returns-then-is_empty-clause-text : goal.returns-then-is_empty-clause-text
returns-then-is_empty-clause-text g c =
    let d = c.args.digits.now in
    let empty = c.is_empty.ensures in
    let none : length d.fraction.now ≡ 0 = grind (arith, nat_tests, empty, c.if-is_empty.true) in
    put_whole (text_tables c.args.tables.now) d.integer.now d.fraction.now (take c.args.len c.args.out.now) (take c.put_integer-end.result c.put_integer-end.new.out) d.held none c.put_integer-end.ensures.text

pub returns-clause-text : goal.returns-clause-text
returns-clause-text g c =
    let t = c.args.tables.now in
    let d = c.args.digits.now in
    let empty = c.is_empty.ensures in
    let some : 0 < length d.fraction.now = grind (arith, nat_tests, empty, c.if-is_empty.false) in
    put_both (text_tables t) t.direct d.integer.now d.fraction.now (take c.args.len c.args.out.now) (take c.put_integer-end.result c.put_integer-end.new.out) (take c.put_bytes-begun.result c.put_bytes-begun.new.out) (take c.put_bytes.result c.put_bytes.new.out)
    t.held d.held some c.put_integer-end.ensures.text (c.put_bytes-begun.ensures.text ∙ ap (λ point. take c.put_integer-end.result c.put_integer-end.new.out ++ point) c.as_bytes.ensures.value) c.put_bytes.ensures.text
