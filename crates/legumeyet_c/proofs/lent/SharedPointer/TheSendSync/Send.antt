use denote.Param.Send.{IsSend, owning_send, sendable}
use Rattle.legumeyet_c.specs.contracts.content.Content as content
use Rattle.legumeyet_c.proofs.content.Content.TheSendSync.{the_sync as content_synced}
use Rattle.legumeyet_c.specs.contracts.lent.SharedPointer.{the_row, the_type}
use Rattle.legumeyet_c.proofs.LentSent.{lent_keyless}

pub send : IsSend the_row
send = owning_send the_type (search sendable, tt) (λ l. lent_keyless content.the_row content_synced l.at l.value) (λ k x w. tt)
