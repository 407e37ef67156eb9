use Rattle.std.proofs.Common.{◌≤◌, length, arith}
use Rattle.tinystr.proofs.SmallTextLemmas.{put_first_gives_form}
use Rattle.tinystr.proofs.unvalidated.UnvalidatedTinyAsciiStr.try_from_utf8.Goals as goal

pub returns-clause-value : goal.returns-clause-value
returns-clause-value g c =
    let short : length c.args.bytes.now ≤ g.row.N = omega arith in
    put_first_gives_form g.row.N c.args.bytes.now c.put_at.new.bytes short c.put_at.ensures
