use Rattle.std.proofs.Common.{rules, ap}
use Rattle.writeable_bytes.specs.declared.bytes_sink.BytesSink.{BytesSink}
use Rattle.writeable_bytes.proofs.LaidTextLemmas.{all_laid, all_passes}
use Rattle.writeable_bytes.proofs.slice_writing.text_length.Goals as goal

pub returns-in-Ok : goal.returns-in-Ok
returns-in-Ok g c =
    all_laid c.new-sink.result c.write_text.new.sink _ (g.T.Writeable.events c.args.value.now) _ c.new-sink.ensures
    c.in-Ok.ensures.ok (λ same. search rules)

pub returns-in-Err : goal.returns-in-Err
returns-in-Err g c =
    all_passes c.new-sink.result c.write_text.new.sink (g.T.Writeable.events c.args.value.now) c.in-Err.ensures.begun (ap (λ (s : BytesSink). s.length) c.new-sink.ensures)
