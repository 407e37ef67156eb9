use Rattle.std.proofs.Common.{[], sym, append-nil, subst}
use Rattle.writeable.specs.AnnotatedText.{bytes}
use Rattle.writeable.specs.Taking.{HasBegun, begun_first, on_err, on_err_by}
use Rattle.writeable.proofs.WritingLemmas.{writing_begins, writing_stops}
use Rattle.icu_locale_core_grammar.specs.Meaning.{other}
use Rattle.icu_locale_core_grammar.specs.NormalText.{unicode_block, transform_block, other_blocks, block_pieces}
use Rattle.icu_locale_core_grammar.specs.Subtags.{private_text}
use Rattle.icu_locale_core_extensions.specs.ExtensionText.{own_pieces, placed, private_events, last_events, unicode_events, transform_events, ordered_events}
use Rattle.icu_locale_core_extensions.specs.ExtensionsValue.{ExtensionsValue}
use Rattle.icu_locale_core_extensions.proofs.PlacedLemmas.{placed_goes_on}
use Rattle.icu_locale_core_extensions.proofs.extensions_writing.write_in_order.Goals as goal

pub returns-in_err-begins-clause-begun : goal.returns-in_err-begins-clause-begun
returns-in_err-begins-clause-begun g c =
    on_err c.from_residual.result (begun_first g.S.Sink.takes g.S.Sink.lacks_room g.met.S.Sink.lacks_more _ (bytes (placed c.args.begins (block_pieces (other_blocks c.args.first.now)))) _ _ c.in_err-begins.ensures.begun)

pub returns-in_err-begins-2-clause-begun : goal.returns-in_err-begins-2-clause-begun
returns-in_err-begins-2-clause-begun g c =
    let e : ExtensionsValue = record { blocks = record { unicode = c.extensions.inside.unicode; transform = c.extensions.inside.transform; others = c.extensions.inside.other.items }; own = c.extensions.inside.private } in
    let start = writing_begins g.S.Sink.takes g.S.Sink.refused g.met.S.Sink.nothing c.args.sink.now (ordered_events c.args.begins c.args.first.now e c.args.last.now) c.requires in
    let first = placed_goes_on g.S.Sink.takes g.S.Sink.refused g.met.S.Sink.joins _ _ _ _ c.args.begins (block_pieces (other_blocks c.args.first.now)) (transform_events c.args.last.now e) _ start c.in_ok-begins.ensures.ok c.in_ok-begins.ensures.refused c.in_ok-begins.ensures.still in
    on_err c.from_residual-in_err-begins-2.result
    (subst (λ (v : ExtensionsValue). HasBegun g.S.Sink.takes g.S.Sink.lacks_room c.args.sink.now (ordered_events c.args.begins c.args.first.now v c.args.last.now) c.write_placed.new.sink) c.extensions.view_is
    (writing_stops g.S.Sink.takes g.S.Sink.refused g.met.S.Sink.joins g.S.Sink.lacks_room g.met.S.Sink.lacks_more _ _ _ _ (bytes (placed c.in_ok-begins.begins (block_pieces (transform_block e.blocks.transform)))) _ first c.in_err-begins-2.ensures.begun))

pub returns-in_err-begins-3-clause-begun : goal.returns-in_err-begins-3-clause-begun
returns-in_err-begins-3-clause-begun g c =
    let e : ExtensionsValue = record { blocks = record { unicode = c.extensions.inside.unicode; transform = c.extensions.inside.transform; others = c.extensions.inside.other.items }; own = c.extensions.inside.private } in
    let start = writing_begins g.S.Sink.takes g.S.Sink.refused g.met.S.Sink.nothing c.args.sink.now (ordered_events c.args.begins c.args.first.now e c.args.last.now) c.requires in
    let first = placed_goes_on g.S.Sink.takes g.S.Sink.refused g.met.S.Sink.joins _ _ _ _ c.args.begins (block_pieces (other_blocks c.args.first.now)) (transform_events c.args.last.now e) _ start c.in_ok-begins.ensures.ok c.in_ok-begins.ensures.refused c.in_ok-begins.ensures.still in
    let second = placed_goes_on g.S.Sink.takes g.S.Sink.refused g.met.S.Sink.joins _ _ _ _ c.in_ok-begins.begins (block_pieces (transform_block e.blocks.transform)) (unicode_events c.args.last.now e) _ first c.in_ok-begins-2.ensures.ok c.in_ok-begins-2.ensures.refused c.in_ok-begins-2.ensures.still in
    on_err c.from_residual-in_err-begins-3.result
    (subst (λ (v : ExtensionsValue). HasBegun g.S.Sink.takes g.S.Sink.lacks_room c.args.sink.now (ordered_events c.args.begins c.args.first.now v c.args.last.now) c.write_placed-2.new.sink) c.extensions.view_is
    (writing_stops g.S.Sink.takes g.S.Sink.refused g.met.S.Sink.joins g.S.Sink.lacks_room g.met.S.Sink.lacks_more _ _ _ _ (bytes (placed c.in_ok-begins-2.begins (block_pieces (unicode_block e.blocks.unicode)))) _ second c.in_err-begins-3.ensures.begun))

pub returns-in_err-begins-4-clause-begun : goal.returns-in_err-begins-4-clause-begun
returns-in_err-begins-4-clause-begun g c =
    let e : ExtensionsValue = record { blocks = record { unicode = c.extensions.inside.unicode; transform = c.extensions.inside.transform; others = c.extensions.inside.other.items }; own = c.extensions.inside.private } in
    let start = writing_begins g.S.Sink.takes g.S.Sink.refused g.met.S.Sink.nothing c.args.sink.now (ordered_events c.args.begins c.args.first.now e c.args.last.now) c.requires in
    let first = placed_goes_on g.S.Sink.takes g.S.Sink.refused g.met.S.Sink.joins _ _ _ _ c.args.begins (block_pieces (other_blocks c.args.first.now)) (transform_events c.args.last.now e) _ start c.in_ok-begins.ensures.ok c.in_ok-begins.ensures.refused c.in_ok-begins.ensures.still in
    let second = placed_goes_on g.S.Sink.takes g.S.Sink.refused g.met.S.Sink.joins _ _ _ _ c.in_ok-begins.begins (block_pieces (transform_block e.blocks.transform)) (unicode_events c.args.last.now e) _ first c.in_ok-begins-2.ensures.ok c.in_ok-begins-2.ensures.refused c.in_ok-begins-2.ensures.still in
    let third = placed_goes_on g.S.Sink.takes g.S.Sink.refused g.met.S.Sink.joins _ _ _ _ c.in_ok-begins-2.begins (block_pieces (unicode_block e.blocks.unicode)) (last_events c.args.last.now e) _ second c.in_ok-begins-3.ensures.ok c.in_ok-begins-3.ensures.refused c.in_ok-begins-3.ensures.still in
    on_err c.from_residual-in_err-begins-4.result
    (subst (λ (v : ExtensionsValue). HasBegun g.S.Sink.takes g.S.Sink.lacks_room c.args.sink.now (ordered_events c.args.begins c.args.first.now v c.args.last.now) c.write_others-2.new.sink) c.extensions.view_is
    (writing_stops g.S.Sink.takes g.S.Sink.refused g.met.S.Sink.joins g.S.Sink.lacks_room g.met.S.Sink.lacks_more _ _ _ _ (bytes (placed c.in_ok-begins-3.begins (block_pieces (other_blocks c.args.last.now)))) _ third c.in_err-begins-4.ensures.begun))

pub returns-clause-begun : goal.returns-clause-begun
returns-clause-begun g c =
    let e : ExtensionsValue = record { blocks = record { unicode = c.extensions.inside.unicode; transform = c.extensions.inside.transform; others = c.extensions.inside.other.items }; own = c.extensions.inside.private } in
    let start = writing_begins g.S.Sink.takes g.S.Sink.refused g.met.S.Sink.nothing c.args.sink.now (ordered_events c.args.begins c.args.first.now e c.args.last.now) c.requires in
    let first = placed_goes_on g.S.Sink.takes g.S.Sink.refused g.met.S.Sink.joins _ _ _ _ c.args.begins (block_pieces (other_blocks c.args.first.now)) (transform_events c.args.last.now e) _ start c.in_ok-begins.ensures.ok c.in_ok-begins.ensures.refused c.in_ok-begins.ensures.still in
    let second = placed_goes_on g.S.Sink.takes g.S.Sink.refused g.met.S.Sink.joins _ _ _ _ c.in_ok-begins.begins (block_pieces (transform_block e.blocks.transform)) (unicode_events c.args.last.now e) _ first c.in_ok-begins-2.ensures.ok c.in_ok-begins-2.ensures.refused c.in_ok-begins-2.ensures.still in
    let third = placed_goes_on g.S.Sink.takes g.S.Sink.refused g.met.S.Sink.joins _ _ _ _ c.in_ok-begins-2.begins (block_pieces (unicode_block e.blocks.unicode)) (last_events c.args.last.now e) _ second c.in_ok-begins-3.ensures.ok c.in_ok-begins-3.ensures.refused c.in_ok-begins-3.ensures.still in
    let fourth = placed_goes_on g.S.Sink.takes g.S.Sink.refused g.met.S.Sink.joins _ _ _ _ c.in_ok-begins-3.begins (block_pieces (other_blocks c.args.last.now)) (private_events e) _ third c.in_ok-begins-4.ensures.ok c.in_ok-begins-4.ensures.refused c.in_ok-begins-4.ensures.still in
    on_err_by c.write_placed-3.result
    (λ begun. subst (λ (v : ExtensionsValue). HasBegun g.S.Sink.takes g.S.Sink.lacks_room c.args.sink.now (ordered_events c.args.begins c.args.first.now v c.args.last.now) c.write_placed-3.new.sink) c.extensions.view_is
    (writing_stops g.S.Sink.takes g.S.Sink.refused g.met.S.Sink.joins g.S.Sink.lacks_room g.met.S.Sink.lacks_more _ _ _ _ (bytes (placed c.in_ok-begins-4.begins (own_pieces private_text e.own (other e.own)))) [] (rw (sym (append-nil (private_events e c.in_ok-begins-4.begins))) at fourth) begun)) c.write_placed-3.ensures.begun
