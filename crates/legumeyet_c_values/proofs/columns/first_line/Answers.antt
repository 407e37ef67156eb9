use Rattle.legumeyet_c_values.proofs.ColumnLemmas.{texts_alone, texts_first}
use Rattle.legumeyet_c_values.proofs.columns.first_line.Goals as goal

pub returns-in-Some : goal.returns-in-Some
returns-in-Some c = texts_first c.args.bytes.now c.in-Some.parts.0.now c.in-Some.parts.1.now c.in-Some.ensures.parts

pub returns-in-None : goal.returns-in-None
returns-in-None c = texts_alone c.args.bytes.now c.requires c.in-None.ensures.parts
