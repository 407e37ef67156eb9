use Rattle.tinystr.proofs.SmallTextLemmas.{IsForm-of, text_of-of}
use Rattle.tinystr.proofs.ascii.TinyAsciiStr.of_text.Goals as goal

pub invariant_of-result : goal.invariant_of-result
invariant_of-result g c = IsForm-of g.row.N c.args.text.now c.form_of.result c.requires c.form_of.ensures

pub returns : goal.returns
returns g c = text_of-of g.row.N c.args.text.now c.form_of.result c.requires c.form_of.ensures
