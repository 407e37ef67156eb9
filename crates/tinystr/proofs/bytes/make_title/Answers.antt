use Rattle.std.proofs.Common.{◌∙◌}
use Rattle.tinystr.proofs.CaseLemmas.{titled_first}
use Rattle.tinystr.proofs.bytes.make_title.Goals as goal

pub returns : goal.returns
returns c = c.make_title.ensures ∙ titled_first c.args.bytes.now
