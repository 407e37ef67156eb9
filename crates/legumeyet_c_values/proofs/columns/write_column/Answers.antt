use Rattle.std.proofs.Common.{◌≡◌, ◌+◌, ◌-◌, ◌++◌, List, ℕ, Err, length, take, drop, set, arith, refl, sym, subst}
use Rattle.std.proofs.lemmas.List.{take_rest}
use Rattle.std.proofs.lemmas.Result.{err_from_is_err_and}
use Rattle.legumeyet_c_values.specs.Columns.{IsWrittenColumn, Reaches, given_in, room}
use Rattle.legumeyet_c_values.specs.Numbers.{Given}
use Rattle.legumeyet_c_values.proofs.ColumnLemmas.{column_done, column_stops, column_unplaced, put_to_end, reaches_more, reaches_none}
use Rattle.legumeyet_c_values.proofs.columns.write_column.Goals as goal

pub number-init : goal.number-init
number-init g c = reaches_none (g.W.NumberWriter.says c.args.writer.now) (given_in c.args.column) _ _ _ _ refl

pub returns-then-count-ends : goal.returns-then-count-ends
returns-then-count-ends g c =
    column_unplaced (g.W.NumberWriter.says c.args.writer.now) (g.W.NumberWriter.fails c.args.writer.now) (given_in c.args.column) _ (given_in c.number.left) _ c.number.end
    c.number.invariant (c.is_empty.ensures.some c.number-test.true) c.if-count-ends.true c.number.auto.ends

pub slice_bounds-write_first-count : goal.slice_bounds-write_first-count
slice_bounds-write_first-count g c = let fits = c.number.invariant.fits in let same = c.number.auto.out in omega arith

pub slice_bounds-write_first-start : goal.slice_bounds-write_first-start
slice_bounds-write_first-start g c = let fits = c.number.invariant.fits in let same = c.number.auto.out in omega arith

pub returns-in_err-write_first : goal.returns-in_err-write_first
returns-in_err-write_first g c =
    let says = g.W.NumberWriter.says c.args.writer.now in
    let fails = g.W.NumberWriter.fails c.args.writer.now in
    let numbers = given_in c.args.column in
    let before = room c.args.out.now c.args.ends.now c.args.count.now in
    let bytes = c.number.out in
    let end = c.number.end in
    let part = c.write_first.new.out in
    let p = err_from_is_err_and c.from_residual.result c.from_residual.ensures.1 in
    rw (p.1, p.2)
    (subst (λ (b : List ℕ). IsWrittenColumn says fails numbers before (room b c.number.ends c.number.count) (Err c.in_err-write_first.field-0.0)) (sym (put_to_end bytes part end))
    (column_stops says fails numbers before bytes c.number.ends c.number.count end (take (length bytes - end) (drop end bytes)) part c.write_first.new.length (take_rest bytes end)
    (given_in c.number.left) c.in_err-write_first.field-0.0 c.number.invariant c.in_err-write_first.ensures.put))

pub number-preserved : goal.number-preserved
number-preserved g c =
    let says = g.W.NumberWriter.says c.args.writer.now in
    let fails = g.W.NumberWriter.fails c.args.writer.now in
    let numbers = given_in c.args.column in
    let before = room c.args.out.now c.args.ends.now c.args.count.now in
    let bytes = c.number.out in
    let end = c.number.end in
    let part = c.write_first.new.out in
    let ends = set c.number.ends c.number.count (end + c.write_first.new.length) in
    let kept : length part ≡ length (take (length bytes - end) (drop end bytes)) = c.write_first.auto.out in
    subst (λ (b : List ℕ). Reaches says numbers (given_in c.write_first.new.left) before (room b ends (c.number.count + 1)) (end + c.write_first.new.length)) (sym (put_to_end bytes part end))
    (subst (λ (l : List Given). Reaches says numbers l before (room (take end bytes ++ part) ends (c.number.count + 1)) (end + c.write_first.new.length)) (sym c.in_ok-write_first.ensures.rest)
    (reaches_more says fails numbers before bytes c.number.ends c.number.count end (take (length bytes - end) (drop end bytes)) part c.write_first.new.length (take_rest bytes end)
    (given_in c.number.left) c.number.invariant c.in_ok-write_first.ensures.put kept c.if-count-ends.false c.number.auto.ends))

pub returns : goal.returns
returns g c =
    column_done (g.W.NumberWriter.says c.args.writer.now) (g.W.NumberWriter.fails c.args.writer.now) (given_in c.args.column) _ (given_in c.number.left) _ c.number.end c.number.invariant
    (c.is_empty.ensures.none c.number-test.false)
