use Rattle.std.proofs.Common.{refl, take}
use Rattle.icu_decimal_direct.specs.TextTables.{text_tables}
use Rattle.icu_decimal_direct.proofs.TextLemmas.{pairs_put}
use Rattle.icu_decimal_direct.proofs.putting.put_pairs.Goals as goal

pub returns-clause-text : goal.returns-clause-text
returns-clause-text g c =
    let t = c.args.tables.now in
    pairs_put (text_tables t) t.direct c.args.integer.now c.as_bytes-separator.result.now (take c.args.len c.args.out.now) (take c.put_begin-begun.result c.put_begin-begun.new.out) (take c.put_groups-end.result c.put_groups-end.new.out) (take c.put_groups.result c.put_groups.new.out) _ _ _ c.as_bytes-separator.ensures.value t.held
    c.requires.digits c.requires.few c.requires.grouped c.requires.pairs refl refl refl c.put_begin-begun.ensures.text c.put_groups-end.ensures.text c.put_groups.ensures.text
