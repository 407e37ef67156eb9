use Rattle.std.proofs.Common.{◌≡◌, ℕ, Some, ap, map, sym, ◌∙◌}
use Rattle.serde_json.specs.View.{view}
use Rattle.writeable.specs.Taking.{on_err}
use Rattle.icu_decimal_patterns.specs.KeptEntries.{Patterns, of_type}
use Rattle.icu_decimal_patterns.specs.TableJson.{type_in}
use Rattle.icu_decimal_patterns.proofs.TableLemmas.{known_step, put_step, some_known}
use Rattle.icu_decimal_patterns.proofs.json.table.owned_types.Goals as goal

pub returns-in_err-patterns-clause-room : goal.returns-in_err-patterns-clause-room
returns-in_err-patterns-clause-room c =
    let first = known_step c.args.rows.now c.loop-row.row-index c.row-item.result (of_type (c.in-Some.log10_type, (c.in-Some.exponent, c.in-Some.patterns))) c.loop-row-test.true c.row-item.is (sym c.in-Some.ensures) in
    on_err _ (some_known (map of_type c.loop-row.types.entries) _ _ _ _ c.loop-row.invariant first)

pub returns-in_err-put-clause-room : goal.returns-in_err-put-clause-room
returns-in_err-put-clause-room c =
    let first = known_step c.args.rows.now c.loop-row.row-index c.row-item.result (of_type (c.in-Some.log10_type, (c.in-Some.exponent, c.in-Some.patterns))) c.loop-row-test.true c.row-item.is (sym c.in-Some.ensures) in
    on_err _ (some_known (map of_type c.loop-row.types.entries) _ _ _ _ c.loop-row.invariant first)

pub loop-row-preserved : goal.loop-row-preserved
loop-row-preserved c =
    let e : ℕ × (ℕ × Patterns) = (c.in-Some.log10_type, (c.in-Some.exponent, c.in_ok-patterns.patterns)) in
    let type : type_in (view c.row-item.result) ≡ Some (of_type e) = sym c.in-Some.ensures ∙ ap (λ p. Some (of_type (c.in-Some.log10_type, (c.in-Some.exponent, p)))) (sym c.in_ok-patterns.ensures) in
    let first = known_step c.args.rows.now c.loop-row.row-index c.row-item.result (of_type e) c.loop-row-test.true c.row-item.is type in
    put_step c.loop-row.types.entries c.put.new.types.entries e _ _ _ c.loop-row.invariant first c.requires c.in_ok-put.ensures
