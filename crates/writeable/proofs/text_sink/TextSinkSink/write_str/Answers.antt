use Rattle.std.proofs.Common.{[], arith, refl, rules}
use Rattle.writeable.specs.AnnotatedText.{bytes}
use Rattle.writeable.proofs.AnnotatedTextLemmas.{text_of_bytes}
use Rattle.writeable.proofs.text_sink.TextSinkSink.write_str.Goals as goal

-- nothing was taken, and there was something to take
pub returns-in-Err-clause-begun : goal.returns-in-Err-clause-begun
returns-in-Err-clause-begun c = record {
  front = [];
  rest = bytes c.args.text.now;
  whole = refl;
  taken = search rules;
  short = rw (text_of_bytes c.args.text.now) (omega (arith, c.in-Err.ensures.full, c.self.inside.text.bytes.ok.1));
}
