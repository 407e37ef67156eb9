use Rattle.std.proofs.Common.{◌≡◌, [], true, false, refl, sym, ap, subst, ◌∙◌}
use Rattle.std.specs.Prelude.{◌||◌}
use Rattle.std.specs.Io.KnownBytes.{Appends, IsAtEnd}
use Rattle.std.proofs.KnownBytes.{Appends-kept, Appends-nil}
use Rattle.legumeyet_columns.specs.declared.dialect.Place.TheVariants.{Front}
use Rattle.legumeyet_columns.specs.Places.{after_record, first_record}
use Rattle.legumeyet_columns.specs.RowsWritten.{is_last, table_refused, table_written}
use Rattle.legumeyet_columns.proofs.TableLemmas.{last_row, or_none, refused_and_more, refused_at_last, row_and_more}
use Rattle.legumeyet_columns.proofs.table.put_rows.Goals as goal

-- nothing is left to be written
pub returns-in_default-clause-output : goal.returns-in_default-clause-output
returns-in_default-clause-output g c = λ input known.
    let left = c.loop-turn.invariant input known in
    let none = c.in_ok-next.ensures.over c.in_default.is in
    let over = subst IsAtEnd left.1 none.0 in
    let out = g.W.Write.contents c.loop-turn.out in
    left.3 (g.W.Write.contents c.put_next.new.out)
    (subst (λ rest. Appends out (g.W.Write.contents c.put_next.new.out) (table_written c.args.asked.now (g.S.FieldSayer.is_chosen c.args.sayer.now)
    (g.S.FieldSayer.said c.args.sayer.now) (g.S.FieldSayer.misses c.args.sayer.now) rest)) (sym over)
    (Appends-kept out out (g.W.Write.contents c.put_next.new.out) [] (Appends-nil out) none.1))

pub returns-in_default-clause-refused : goal.returns-in_default-clause-refused
returns-in_default-clause-refused g c = λ input known.
    let left = c.loop-turn.invariant input known in
    let none = c.in_ok-next.ensures.over c.in_default.is in
    let over = subst IsAtEnd left.1 none.0 in
    sym (or_none c.loop-turn.is_refused)
    ∙ ap (λ rest. c.loop-turn.is_refused || table_refused c.args.asked.now (g.S.FieldSayer.is_chosen c.args.sayer.now)
    (g.S.FieldSayer.said c.args.sayer.now) (g.S.FieldSayer.misses c.args.sayer.now) rest) (sym over)
    ∙ left.2

-- the last record is written
pub returns-then-is_last-clause-output : goal.returns-then-is_last-clause-output
returns-then-is_last-clause-output g c = λ input known.
    let left = c.loop-turn.invariant input known in
    let done = rw c.in-Some.is at c.in_ok-next.ensures.row in
    let first = done left.0 left.1 in
    let last : is_last c.args.asked.now.on_refusal c.in-Some.is_row_refused ≡ true = cc in
    left.3 (g.W.Write.contents c.put_next.new.out)
    (last_row c.args.asked.now (g.S.FieldSayer.is_chosen c.args.sayer.now) (g.S.FieldSayer.said c.args.sayer.now)
    (g.S.FieldSayer.misses c.args.sayer.now) left.0 (first_record c.args.asked.now.dialect Front left.0) c.in-Some.is_row_refused last
    refl first.some first.refusal _ _ first.output)

pub returns-then-is_last-clause-refused : goal.returns-then-is_last-clause-refused
returns-then-is_last-clause-refused g c = λ input known.
    let left = c.loop-turn.invariant input known in
    let done = rw c.in-Some.is at c.in_ok-next.ensures.row in
    let first = done left.0 left.1 in
    let last : is_last c.args.asked.now.on_refusal c.in-Some.is_row_refused ≡ true = cc in
    c.either-is_refused.ensures.value
    ∙ refused_at_last c.args.asked.now (g.S.FieldSayer.is_chosen c.args.sayer.now) (g.S.FieldSayer.said c.args.sayer.now)
    (g.S.FieldSayer.misses c.args.sayer.now) left.0 (first_record c.args.asked.now.dialect Front left.0) c.in-Some.is_row_refused last
    refl first.some first.refusal c.loop-turn.is_refused
    ∙ left.2

-- a record is written, and what is left is to be
pub loop-turn-preserved : goal.loop-turn-preserved
loop-turn-preserved g c = λ input known.
    let left = c.loop-turn.invariant input known in
    let done = rw c.in-Some.is at c.in_ok-next.ensures.row in
    let first = done left.0 left.1 in
    let last : is_last c.args.asked.now.on_refusal c.in-Some.is_row_refused ≡ false = cc in (
      after_record c.args.asked.now.dialect Front left.0,
      first.rest,
      rw c.either-is_refused.ensures.value (refused_and_more c.args.asked.now (g.S.FieldSayer.is_chosen c.args.sayer.now)
          (g.S.FieldSayer.said c.args.sayer.now) (g.S.FieldSayer.misses c.args.sayer.now) left.0 (first_record c.args.asked.now.dialect Front left.0)
          c.in-Some.is_row_refused refl first.some first.refusal c.loop-turn.is_refused ∙ left.2),
      λ end more. left.3 end
          (row_and_more c.args.asked.now (g.S.FieldSayer.is_chosen c.args.sayer.now) (g.S.FieldSayer.said c.args.sayer.now)
          (g.S.FieldSayer.misses c.args.sayer.now) left.0 (first_record c.args.asked.now.dialect Front left.0) c.in-Some.is_row_refused last
          refl first.some first.refusal _ _ end first.output more),
    )
