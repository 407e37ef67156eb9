use Rattle.tinystr.proofs.LawLemmas.{decided_by_forms}
use Rattle.tinystr.proofs.comparing.TinyAsciiStrPartialEq.eq.Goals as goal

pub returns : goal.returns
returns g c =
    decided_by_forms g.row.N c.args.self.now c.args.other.now c.all_bytes.result.now c.all_bytes-2.result.now c.are_same.result
    c.all_bytes.ensures.small c.all_bytes-2.ensures.small c.all_bytes.ensures.value c.all_bytes-2.ensures.value c.are_same.ensures
