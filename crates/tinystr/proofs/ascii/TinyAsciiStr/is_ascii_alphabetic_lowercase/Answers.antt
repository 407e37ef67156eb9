use Rattle.tinystr.proofs.ClassesLemmas.{lower_letters}
use Rattle.tinystr.proofs.ascii.TinyAsciiStr.is_ascii_alphabetic_lowercase.Goals as goal

pub returns-clause-both : goal.returns-clause-both
returns-clause-both g c = rw c.all.ensures (lower_letters c.args.self.now)
