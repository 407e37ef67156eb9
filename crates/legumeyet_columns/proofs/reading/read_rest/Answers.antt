use Rattle.std.proofs.Common.{◌≡◌, true, drop, Some, ap, subst, ◌∙◌, arith}
use Rattle.std.specs.Io.BufRead.{drop_through}
use Rattle.std.specs.Io.KnownBytes.{IsAtEnd}
use Rattle.legumeyet_columns.specs.Places.{is_quoted}
use Rattle.legumeyet_columns.proofs.LinesLemmas.{ended_left, ended_row, more_left, more_row}
use Rattle.legumeyet_columns.proofs.reading.read_rest.Goals as goal

-- nothing is left
pub returns-then-branch-eq0-clause-bytes : goal.returns-then-branch-eq0-clause-bytes
returns-then-branch-eq0-clause-bytes g c = λ short bytes known.
    let left = c.line.invariant.bytes bytes known in
    let read = c.in_ok-read_line.ensures.line left.0 left.1 in
    let over = subst IsAtEnd left.1 (c.in_ok-read_line.ensures.over c.if-branch-eq0.true) in (
      ended_row c.args.dialect c.line.place c.line.row.items _ _ left.0 over read.0 left.2,
      read.1 ∙ ap Some (ended_left c.args.dialect c.line.place left.0 _ over left.3),
    )

-- a line is added, and the rest is to be read
pub line-preserved : goal.line-preserved
line-preserved g c =
    let quoted : is_quoted c.line.place ≡ true = cc in
    record {
      longer = omega (arith, c.in_ok-read_line.ensures.count, c.line.invariant.longer);
      bytes = λ bytes known.
          let left = c.line.invariant.bytes bytes known in
          let read = c.in_ok-read_line.ensures.line left.0 left.1 in
          let piece = c.tail.ensures.value ∙ ap (drop c.count_of-start.result) c.deref.ensures.value in (
            drop_through 10 left.0,
            read.1,
            more_row c.args.dialect c.line.place c.after_all-place.result c.line.row.items _ c.tail.result.now left.0 _ c.count_of-start.result
                quoted c.count_of-start.ensures.value read.0 piece c.after_all-place.ensures.value left.2,
            more_left c.args.dialect c.line.place c.after_all-place.result c.line.row.items _ c.tail.result.now left.0 _ c.count_of-start.result
                quoted c.count_of-start.ensures.value read.0 piece c.after_all-place.ensures.value left.3,
          );
    }
