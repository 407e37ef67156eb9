use Rattle.std.proofs.Common.{refl, take}
use Rattle.icu_decimal_direct.specs.TextTables.{text_tables}
use Rattle.icu_decimal_direct.proofs.TextLemmas.{one_put, threes_put}
use Rattle.icu_decimal_direct.proofs.putting.put_integer.Goals as goal

pub returns-then-integer-groups-clause-text : goal.returns-then-integer-groups-clause-text
returns-then-integer-groups-clause-text g c =
    let t = c.args.tables.now in
    one_put (text_tables t) t.direct c.args.integer.now (take c.args.len c.args.out.now) (take c.put_bytes.result c.put_bytes.new.out) t.held
    c.requires.digits c.requires.some c.requires.few c.if-integer-groups.true c.put_bytes.ensures.text

pub returns-clause-text : goal.returns-clause-text
returns-clause-text g c =
    let t = c.args.tables.now in
    threes_put (text_tables t) t.direct c.args.integer.now c.as_bytes.result.now (take c.args.len c.args.out.now) (take c.put_begin-begun.result c.put_begin-begun.new.out) (take c.put_threes.result c.put_threes.new.out) _ _ c.as_bytes.ensures.value t.held
    c.requires.digits c.requires.few c.if-integer-groups.false c.if-groups-eq2.false refl refl c.put_begin-begun.ensures.text c.put_threes.ensures.text
