use Rattle.writeable.proofs.CutOutLemmas.{first_cut_out, others_cut_out}
use Rattle.writeable.proofs.part_texts.PartTextsIterator.next.Goals as goal

-- the first part has whole characters
pub range-requires-clause-start_le_end : goal.range-requires-clause-start_le_end
range-requires-clause-start_le_end c =
    (first_cut_out c.self.inside.text.now c.in_ok-start.field-0-0.now c.self.inside.rest.now c.in_ok-start.rest.now c.in_ok-start.ensures.cases.0 c.self.invariant).ordered

pub range-requires-clause-start_boundary : goal.range-requires-clause-start_boundary
range-requires-clause-start_boundary c = λ _.
    (first_cut_out c.self.inside.text.now c.in_ok-start.field-0-0.now c.self.inside.rest.now c.in_ok-start.rest.now c.in_ok-start.ensures.cases.0 c.self.invariant).start

pub range-requires-clause-end_boundary : goal.range-requires-clause-end_boundary
range-requires-clause-end_boundary c =
    (first_cut_out c.self.inside.text.now c.in_ok-start.field-0-0.now c.self.inside.rest.now c.in_ok-start.rest.now c.in_ok-start.ensures.cases.0 c.self.invariant).end

-- and so have the others
pub invariant_of-self : goal.invariant_of-self
invariant_of-self c =
    others_cut_out c.self.inside.text.now c.in_ok-start.field-0-0.now c.self.inside.rest.now c.in_ok-start.rest.now c.in_ok-start.ensures.cases.0 c.self.invariant
