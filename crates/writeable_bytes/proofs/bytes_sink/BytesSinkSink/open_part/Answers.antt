use Rattle.writeable.proofs.AnnotatedTextLemmas.{text_of_opening}
use Rattle.writeable_bytes.proofs.LaidTextLemmas.{no_text_lays}
use Rattle.writeable_bytes.proofs.bytes_sink.BytesSinkSink.open_part.Goals as goal

pub returns-clause-ok : goal.returns-clause-ok
returns-clause-ok c = no_text_lays c.args.self.now.out c.args.self.now.length _ (text_of_opening _)
