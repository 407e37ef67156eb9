use Rattle.std.proofs.Common.{[], ap}
use Rattle.legumeyet_options.proofs.saying.held.Goals as goal

pub returns-in-Ok-clause-held : goal.returns-in-Ok-clause-held
returns-in-Ok-clause-held g c = c.in-Ok.ensures.ok [] (ap (λ sink. sink.held) c.new-sink.ensures)
