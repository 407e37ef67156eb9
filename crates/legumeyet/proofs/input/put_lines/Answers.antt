use Rattle.std.proofs.Common.{◌≡◌, ◌<◌, true, false, length, sym, ap, subst, ◌∙◌}
use Rattle.std.specs.List.{before_first}
use Rattle.std.specs.Io.BufRead.{drop_through}
use Rattle.std.specs.Io.KnownBytes.{Appends, IsAtEnd}
use Rattle.std.proofs.KnownBytes.{Appends-nil}
use Rattle.legumeyet.specs.Output.{input_shown, is_last}
use Rattle.legumeyet_columns.specs.Trimming.{trimmed}
use Rattle.legumeyet.specs.Feeds.{is_feed}
use Rattle.legumeyet.proofs.LinesLemmas.{line_and_more, last_line_shown}
use Rattle.legumeyet.proofs.input.put_lines.Goals as goal

-- nothing is left to be shown
pub returns-then-is_over : goal.returns-then-is_over
returns-then-is_over g c = record {
  output = λ input known.
      let left = c.loop-turn.invariant input known in
      let over = subst IsAtEnd left.1 (c.in_ok-is_over.ensures.over c.if-is_over.true) in
      let out = g.W.Write.contents c.loop-turn.out in
      left.2 out (subst (λ rest. Appends out out (input_shown c.args.asked.now.invalid c.args.asked.now.has_parts c.args.asked.now.sayer.now rest)) (sym over) (Appends-nil out));
}

-- the last line is shown
pub returns-then-is_last : goal.returns-then-is_last
returns-then-is_last g c = record {
  output = λ input known.
      let left = c.loop-turn.invariant input known in
      let read = c.in_ok-is_over.ensures.line left.0 left.1 in
      let last : is_last c.args.asked.now.invalid c.in_ok-status_of_line.status_of_line ≡ true = cc in
      left.2 (g.W.Write.contents c.put_number.new.out)
      (last_line_shown c.args.asked.now.invalid c.args.asked.now.has_parts c.args.asked.now.sayer.now left.0
      c.trimmed-text.result.now c.in_ok-status_of_line.status_of_line last
      (subst (λ line. 0 < length line) read.0 (c.in_ok-is_over.ensures.some c.if-is_over.false))
      (c.trimmed-text.ensures.value ∙ ap trimmed (c.before_feed.ensures.value ∙ ap (before_first is_feed) (c.deref.ensures.value ∙ read.0)))
      c.in_ok-status_of_line.ensures.status _ _ c.in_ok-status_of_line.ensures.output);
}

-- a line is shown, and what is left is to be
pub loop-turn-preserved : goal.loop-turn-preserved
loop-turn-preserved g c = λ input known.
    let left = c.loop-turn.invariant input known in
    let read = c.in_ok-is_over.ensures.line left.0 left.1 in
    let last : is_last c.args.asked.now.invalid c.in_ok-status_of_line.status_of_line ≡ false = cc in (
      drop_through 10 left.0,
      read.1,
      λ end more. left.2 end
          (line_and_more c.args.asked.now.invalid c.args.asked.now.has_parts c.args.asked.now.sayer.now left.0
          c.trimmed-text.result.now c.in_ok-status_of_line.status_of_line last
          (subst (λ line. 0 < length line) read.0 (c.in_ok-is_over.ensures.some c.if-is_over.false))
          (c.trimmed-text.ensures.value ∙ ap trimmed (c.before_feed.ensures.value ∙ ap (before_first is_feed) (c.deref.ensures.value ∙ read.0)))
          c.in_ok-status_of_line.ensures.status _ _ _ end
          c.in_ok-status_of_line.ensures.output c.in_ok-flush_if_waiting.ensures.same more),
    )
