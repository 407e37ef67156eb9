use Rattle.tinystr.proofs.ClassesLemmas.{upper_letters}
use Rattle.tinystr.proofs.ascii.TinyAsciiStr.is_ascii_alphabetic_uppercase.Goals as goal

pub returns-clause-both : goal.returns-clause-both
returns-clause-both g c = rw c.all.ensures (upper_letters c.args.self.now)
