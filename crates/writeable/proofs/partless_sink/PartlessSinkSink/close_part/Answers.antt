use Rattle.writeable.specs.AnnotatedText.{closing}
use Rattle.writeable.proofs.AnnotatedTextLemmas.{text_of_closing}
use Rattle.writeable.proofs.TakenTextLemmas.{no_text_taken}
use Rattle.writeable.proofs.partless_sink.PartlessSinkSink.close_part.Goals as goal

pub returns-clause-ok : goal.returns-clause-ok
returns-clause-ok g c = no_text_taken g.S.Sink.takes g.met.S.Sink.nothing c.args.self.now.to closing text_of_closing
