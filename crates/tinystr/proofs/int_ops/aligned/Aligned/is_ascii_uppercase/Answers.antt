use Rattle.tinystr.proofs.ClassesLemmas.{uppercase_fixed}
use Rattle.tinystr.proofs.int_ops.aligned.Aligned.is_ascii_uppercase.Goals as goal

pub returns-clause-fixed : goal.returns-clause-fixed
returns-clause-fixed g c = rw c.none.ensures (uppercase_fixed c.args.self.now)
