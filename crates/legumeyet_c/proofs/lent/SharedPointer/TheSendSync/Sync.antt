-- What a `&` to a pointer shows is what the pointer has, which may be sent.
use denote.Param.Send.{IsSync, part_keyless}
use Rattle.legumeyet_c.specs.contracts.lent.SharedPointer.{the_row}
use Rattle.legumeyet_c.proofs.lent.SharedPointer.TheSendSync.Send.{send}

pub sync : IsSync the_row
sync = record { shared = λ l b o κ q. part_keyless the_row send q l b o }
