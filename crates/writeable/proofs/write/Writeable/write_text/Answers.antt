use Rattle.std.proofs.Common.{rules}
use Rattle.writeable.proofs.TakenTextLemmas.{lent_by, begun_at_end}
use Rattle.writeable.proofs.write.Writeable.write_text.Goals as goal

-- a beginning of the bytes was handed on
pub returns-clause-begun : goal.returns-clause-begun
returns-clause-begun g c =
    begun_at_end g.S.Sink.takes g.S.Sink.lacks_room lent_by c.write_to-written.result _ _ _ _ c.write_to-written.ensures.begun (λ same. search rules)
