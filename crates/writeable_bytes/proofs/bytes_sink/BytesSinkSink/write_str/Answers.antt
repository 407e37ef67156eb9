use Rattle.std.proofs.Common.{[], arith, refl, ap, ◌∙◌}
use Rattle.writeable.specs.AnnotatedText.{bytes}
use Rattle.writeable.proofs.AnnotatedTextLemmas.{text_of_bytes}
use Rattle.writeable_bytes.specs.Laid.{laid_from}
use Rattle.writeable_bytes.specs.LaidText.{lays_nothing}
use Rattle.writeable_bytes.proofs.LaidTextLemmas.{text_lays}
use Rattle.writeable_bytes.proofs.bytes_sink.BytesSinkSink.write_str.Goals as goal

-- the text was laid over the bytes
pub returns-in-Some-clause-ok : goal.returns-in-Some-clause-ok
returns-in-Some-clause-ok c =
    text_lays c.args.self.now.out c.args.self.now.length _ c.args.text.now _ (omega (arith, c.in-Some.ensures))
    (c.lay.ensures ∙ ap (λ text. laid_from c.args.self.now.length text c.args.self.now.out.now) c.as_bytes.ensures.value)

-- nothing was, and the length would pass the greatest `usize`
pub returns-in-None-clause-begun : goal.returns-in-None-clause-begun
returns-in-None-clause-begun c = record {
  front = [];
  rest = bytes c.args.text.now;
  whole = refl;
  taken = lays_nothing c.args.self.now.out c.args.self.now.length;
  short = rw (text_of_bytes c.args.text.now) (omega (arith, c.in-None.ensures));
}
