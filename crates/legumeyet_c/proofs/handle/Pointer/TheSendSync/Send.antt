use denote.Param.Send.{IsSend, owning_send, sendable}
use Rattle.legumeyet_c.specs.contracts.content.Content as content
use Rattle.legumeyet_c.proofs.content.Content.TheSendSync.{the_send as content_sent}
use Rattle.legumeyet_c.specs.contracts.handle.Pointer.{the_row, the_type}
use Rattle.legumeyet_c.proofs.Sent.{owned_keyless}

pub send : IsSend the_row
send = owning_send the_type (search sendable, tt) (λ p. owned_keyless content.the_row content_sent p.at p.value) (λ k x w. tt)
