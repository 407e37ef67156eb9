use Rattle.std.proofs.Common.{◌≡◌, length}
use Rattle.legumeyet_c_values.specs.LineBuffers.{Answered, buffers}
use Rattle.legumeyet_c_values.proofs.line_buffers.answer_lines.Given as goal

abbrev pub invariant-line : goal.invariant-line
invariant-line g l =
    (l.answerer ≡ l.fn.answerer)
    × Answered (g.A.AnswerLine.answer l.fn.answerer) l.fn.lines l.left (buffers l.fn.out l.fn.read l.fn.written l.fn.needs) (buffers l.out l.read l.written l.needs)

abbrev pub decreases-line : goal.decreases-line
decreases-line g l = length l.left
