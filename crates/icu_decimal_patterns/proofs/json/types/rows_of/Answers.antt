use Rattle.std.proofs.Common.{◌∙◌, sym}
use Rattle.serde_json.specs.View.{view}
use Rattle.icu_decimal_patterns.proofs.TableLemmas.{falling_types, no_types, types_found}
use Rattle.icu_decimal_patterns.proofs.json.types.rows_of.Goals as goal
use Rattle.icu_decimal_patterns.proofs.json.types.rows_of.Goals.{else-are_types-via-then-are_types+else-types_rise, else-are_types-via-else-are_types}

pub returns-then-types_rise : goal.returns-then-types_rise
returns-then-types_rise c =
    sym (types_found (view c.args.value.now) c.in_ok-as_array.field-0.now.items c.as_slice-rows.result.now (sym c.in_ok-as_array.ensures) c.as_slice-rows.ensures.value
    (sym c.are_types.ensures ∙ c.if-are_types.true) (sym c.types_rise.ensures ∙ c.if-types_rise.true))

pub returns-else-are_types : goal.returns-else-are_types
returns-else-are_types c =
    elim c.else-are_types.branch [
      | else-are_types-via-then-are_types+else-types_rise w ↦
          sym (falling_types (view c.args.value.now) c.in_ok-as_array.field-0.now.items c.as_slice-rows.result.now (sym c.in_ok-as_array.ensures) c.as_slice-rows.ensures.value
          (sym c.are_types.ensures ∙ w.if-are_types.true) (sym w.types_rise.ensures ∙ w.if-types_rise.false))
      | else-are_types-via-else-are_types w ↦
          sym (no_types (view c.args.value.now) c.in_ok-as_array.field-0.now.items c.as_slice-rows.result.now (sym c.in_ok-as_array.ensures) c.as_slice-rows.ensures.value
          (sym c.are_types.ensures ∙ w.if-are_types.false))
    ]
