use Rattle.std.proofs.Common.{◌≤◌, List, ℕ, length, refl, sym, ap, subst, ◌∙◌, arith}
use Rattle.std.proofs.lemmas.List.{length-map}
use Rattle.writeable.specs.ListedParts.{interval_of}
use Rattle.legumeyet_c_values.specs.Parts.{held_text, over}
use Rattle.legumeyet_c_values.proofs.PartsLemmas.{parts_cut, parts_whole, written_is}
use Rattle.legumeyet_c_values.proofs.parts.put_parts.Goals as goal
use Rattle.legumeyet_c_values.proofs.parts.put_parts.Goals.{else-is_whole-via-then-is_whole+else-is_listed, else-is_whole-via-else-is_whole}

pub returns-then-is_listed : goal.returns-then-is_listed
returns-then-is_listed c =
    let text = held_text c.args.sink.now in
    let is = written_is text c.parts-parts.result.now c.args.out.now c.lay_text-is_whole.new.out c.args.length.now (length c.text-text.result.now)
    c.args.intervals.now c.list_parts.new.intervals c.args.count.now (length c.parts-parts.result.now) c.parts-parts.ensures
    (c.lay_text-is_whole.ensures.written ∙ ap (λ (xs : List ℕ). over xs c.args.out.now) c.text-text.ensures)
    (ap length c.text-text.ensures) c.list_parts.ensures refl in
    let bytes = subst (λ (xs : List ℕ). length xs ≤ length c.args.out.now) c.text-text.ensures (c.lay_text-is_whole.ensures.room.0 c.if-is_whole.true) in
    let counted = sym (length-map c.parts-parts.result.now interval_of) ∙ ap length c.parts-parts.ensures in
    parts_whole _ _ text _ _ refl (bytes, omega (arith, counted, c.if-is_listed.true)) is

pub returns-else-is_whole : goal.returns-else-is_whole
returns-else-is_whole c =
    let text = held_text c.args.sink.now in
    let is = written_is text c.parts-parts.result.now c.args.out.now c.lay_text-is_whole.new.out c.args.length.now (length c.text-text.result.now)
    c.args.intervals.now c.list_parts.new.intervals c.args.count.now (length c.parts-parts.result.now) c.parts-parts.ensures
    (c.lay_text-is_whole.ensures.written ∙ ap (λ (xs : List ℕ). over xs c.args.out.now) c.text-text.ensures)
    (ap length c.text-text.ensures) c.list_parts.ensures refl in
    let counted = sym (length-map c.parts-parts.result.now interval_of) ∙ ap length c.parts-parts.ensures in
    let lies = λ (fits : length text.text ≤ length c.args.out.now).
    c.lay_text-is_whole.ensures.room.1 (subst (λ (xs : List ℕ). length xs ≤ length c.args.out.now) (sym c.text-text.ensures) fits) in
    elim c.else-is_whole.branch [
      | else-is_whole-via-then-is_whole+else-is_listed w ↦ parts_cut _ _ text _ _ refl (λ room. omega (arith, counted, room.1, w.if-is_listed.false)) is
      | else-is_whole-via-else-is_whole w ↦ parts_cut _ _ text _ _ refl (λ room. absurd (cc (lies room.0, w.if-is_whole.false))) is
    ]
