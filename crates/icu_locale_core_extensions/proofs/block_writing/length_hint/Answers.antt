use Rattle.icu_locale_core_extensions.specs.ExtensionText.{block_text}
use Rattle.icu_locale_core_extensions.proofs.HintLemmas.{exact_hint, open_hint}
use Rattle.icu_locale_core_extensions.proofs.block_writing.length_hint.Goals as goal

pub returns-in-Ok : goal.returns-in-Ok
returns-in-Ok g c =
    let text = block_text (g.B.Block.first c.args.block.now) (g.B.Block.behind c.args.block.now) (g.B.Block.part c.args.block.now) in
    let h = exact_hint c.exact.result c.new-sink.result c.write_alone.new.sink text c.new-sink.ensures c.count.result c.in-Ok.ensures.ok c.count.ensures c.count.type_inv c.exact.ensures.low c.exact.ensures.high in
    record { within = h.within; low = h.low; high = h.high }

pub returns-in-Err : goal.returns-in-Err
returns-in-Err g c =
    let text = block_text (g.B.Block.first c.args.block.now) (g.B.Block.behind c.args.block.now) (g.B.Block.part c.args.block.now) in
    let h = open_hint c.at_least.result c.new-sink.result c.write_alone.new.sink text c.new-sink.ensures c.in-Err.ensures.begun c.at_least.ensures.low c.at_least.ensures.high in
    record { within = h.within; low = h.low; high = h.high }
