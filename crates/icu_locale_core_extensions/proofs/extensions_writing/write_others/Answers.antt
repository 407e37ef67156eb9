use Rattle.std.proofs.Common.{◌+◌, ◌&&◌, drop, ap, ◌∙◌, sym}
use Rattle.writeable.specs.AnnotatedText.{bytes}
use Rattle.writeable.specs.Taking.{on_err}
use Rattle.writeable.proofs.WritingLemmas.{writing_stops, writing_ends}
use Rattle.icu_locale_core_grammar.specs.NormalText.{other_block, other_blocks, block_pieces}
use Rattle.icu_locale_core_grammar.specs.TagStages.{has_none}
use Rattle.icu_locale_core_extensions.specs.ExtensionText.{placed}
use Rattle.icu_locale_core_extensions.proofs.PlacedLemmas.{next_other_placed, next_other_none, no_other_placed, no_other_none, placed_goes_on}
use Rattle.icu_locale_core_extensions.proofs.extensions_writing.write_others.Goals as goal

pub returns-in_err-begins-clause-begun : goal.returns-in_err-begins-clause-begun
returns-in_err-begins-clause-begun g c =
    let other = c.other-item.result in
    let next = next_other_placed c.args.others.now c.loop-other.other-index c.loop-other.begins other c.loop-other-test.true c.other-item.is in
    on_err c.from_residual.result
    (writing_stops g.S.Sink.takes g.S.Sink.refused g.met.S.Sink.joins g.S.Sink.lacks_room g.met.S.Sink.lacks_more _ _ _ _ (bytes (placed c.loop-other.begins (block_pieces (other_block other)))) _
    (rw next at c.loop-other.invariant.writing) c.in_err-begins.ensures.begun)

pub loop-other-preserved : goal.loop-other-preserved
loop-other-preserved g c =
    let other = c.other-item.result in
    let next = next_other_placed c.args.others.now c.loop-other.other-index c.loop-other.begins other c.loop-other-test.true c.other-item.is in
    let none = next_other_none c.args.others.now c.loop-other.other-index c.loop-other.begins other c.loop-other-test.true c.other-item.is in
    record {
      writing = placed_goes_on g.S.Sink.takes g.S.Sink.refused g.met.S.Sink.joins _ _ _ _ c.loop-other.begins (block_pieces (other_block other)) (λ b. bytes (placed b (block_pieces (other_blocks (drop (c.loop-other.other-index + 1) c.args.others.now))))) _
          (rw next at c.loop-other.invariant.writing) c.in_ok-begins.ensures.ok c.in_ok-begins.ensures.refused c.in_ok-begins.ensures.still;
      still = ap (λ b. b && has_none (block_pieces (other_blocks (drop (c.loop-other.other-index + 1) c.args.others.now)))) c.in_ok-begins.ensures.still ∙ sym none ∙ c.loop-other.invariant.still;
    }

pub returns-clause-ok : goal.returns-clause-ok
returns-clause-ok g c =
    writing_ends g.S.Sink.takes g.S.Sink.refused _ _ _
    (rw (no_other_placed c.args.others.now c.loop-other.other-index c.loop-other.begins c.loop-other-test.false) at c.loop-other.invariant.writing)

pub returns-clause-still : goal.returns-clause-still
returns-clause-still g c = sym (no_other_none c.args.others.now c.loop-other.other-index c.loop-other.begins c.loop-other-test.false) ∙ c.loop-other.invariant.still
