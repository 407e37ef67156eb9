use Rattle.std.proofs.Common.{[], ◌++◌, ap, ◌∙◌}
use Rattle.writeable.specs.AnnotatedText.{text_of}
use Rattle.writeable.proofs.AnnotatedTextLemmas.{text_of_bytes}
use Rattle.writeable.specs.Order.{order_given}
use Rattle.writeable.proofs.OrderLemmas.{order_of_whole}
use Rattle.writeable.proofs.WritingLemmas.{on_ok_where_fine}
use Rattle.writeable.proofs.compare_sink.strict_cmp.Goals as goal

-- the sink never refuses, so it compared the whole text
pub returns : goal.returns
returns g c =
    let text = text_of (g.T.Writeable.events c.args.value.now) in
    let compared = on_ok_where_fine c.write_text-written.result c.write_text-written.ensures.refused c.write_text-written.ensures.ok in
    c.verdict.ensures ∙ compared [] ∙ ap (λ whole. order_given c.new-sink.result.so_far c.new-sink.result.rest (whole ++ [])) (text_of_bytes text)
    ∙ order_of_whole c.new-sink.result c.args.other.now text c.new-sink.ensures
