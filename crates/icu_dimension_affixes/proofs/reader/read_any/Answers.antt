use Rattle.icu_dimension_affixes.specs.HeldReaders.{reader_of}
use Rattle.icu_dimension_affixes.proofs.ReaderLemmas.{readable_tables}
use Rattle.icu_dimension_affixes.proofs.reader.read_any.Goals as goal

pub read_signed-requires : goal.read_signed-requires
read_signed-requires c = readable_tables (reader_of c.args.decimals.now c.args.none.now c.args.minus.now c.args.plus.now) c.requires

pub read_signed-requires-2 : goal.read_signed-requires-2
read_signed-requires-2 c = readable_tables (reader_of c.args.decimals.now c.args.none.now c.args.minus.now c.args.plus.now) c.requires

pub read_signed-requires-3 : goal.read_signed-requires-3
read_signed-requires-3 c = readable_tables (reader_of c.args.decimals.now c.args.none.now c.args.minus.now c.args.plus.now) c.requires
