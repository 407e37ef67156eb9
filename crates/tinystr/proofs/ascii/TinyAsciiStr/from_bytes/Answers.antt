use Rattle.std.proofs.Common.{◌≡◌, false, true}
use Rattle.tinystr.proofs.FormsLemmas.{length-form}
use Rattle.tinystr.proofs.ascii.TinyAsciiStr.from_bytes.Goals as goal

pub returns-then-bytes-clause-succeeds : goal.returns-then-bytes-clause-succeeds
returns-then-bytes-clause-succeeds g c =
    (λ wrong. let e : false ≡ true = wrong in cc, λ form. absurd (c.if-bytes.true (length-form g.row.N c.args.bytes.now form)))
