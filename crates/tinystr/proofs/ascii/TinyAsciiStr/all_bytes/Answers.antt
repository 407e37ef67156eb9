use Rattle.tinystr.specs.SmallText.{text_of}
use Rattle.tinystr.proofs.WordLemmas.{form_is_ascii}
use Rattle.tinystr.proofs.ascii.TinyAsciiStr.all_bytes.Goals as goal

pub returns-clause-ascii : goal.returns-clause-ascii
returns-clause-ascii g c = form_is_ascii g.row.N (text_of c.self.inside.bytes) c.self.inside.bytes c.self.invariant.small c.self.invariant.rest
