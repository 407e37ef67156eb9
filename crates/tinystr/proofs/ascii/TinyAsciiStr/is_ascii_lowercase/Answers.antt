use Rattle.tinystr.proofs.ClassesLemmas.{lowercase_fixed}
use Rattle.tinystr.proofs.ascii.TinyAsciiStr.is_ascii_lowercase.Goals as goal

pub returns-clause-fixed : goal.returns-clause-fixed
returns-clause-fixed g c = rw c.none.ensures (lowercase_fixed c.args.self.now)
