use Rattle.std.proofs.Common.{◌≡◌, ◌++◌, [], ◌∷◌, append_assoc, sym, ap, ◌∙◌}
use Rattle.std.specs.Vec.Iter.{into_iter_items}
use Rattle.locale_numbers_tables.specs.CompactEntries.{Row, rise_from}
use Rattle.locale_numbers_tables.proofs.CompactLemmas.{put_last}
use Rattle.locale_numbers_tables.proofs.compact.map_of.Goals as goal

pub loop-log10_type-preserved : goal.loop-log10_type-preserved
loop-log10_type-preserved c =
    let row : Row = (c.in-Some.log10_type, c.in-Some.typed) in
    let step : into_iter_items c.loop-log10_type.log10_type-iterator ≡ row ∷ into_iter_items c.next.new.self = c.in-Some.ensures.steps.0 in
    let whole : c.loop-log10_type.types.entries ++ row ∷ into_iter_items c.next.new.self ≡ c.args.rows.items
    = ap (λ left. c.loop-log10_type.types.entries ++ left) (sym step) ∙ c.loop-log10_type.invariant in
    let put = put_last 0 c.loop-log10_type.types.entries row (into_iter_items c.next.new.self) (ap (rise_from 0) whole ∙ c.requires) in
    ap (λ es. es ++ into_iter_items c.next.new.self) (c.in_ok-put.ensures ∙ put)
    ∙ append_assoc c.loop-log10_type.types.entries (row ∷ []) (into_iter_items c.next.new.self)
    ∙ whole
