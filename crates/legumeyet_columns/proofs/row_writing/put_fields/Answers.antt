use Rattle.std.proofs.Common.{◌≡◌, ◌++◌, false, length, ap, sym, ◌∙◌, arith}
use Rattle.legumeyet_columns.specs.FieldsWritten.{field_written}
use Rattle.legumeyet_columns.specs.Places.{fields_of}
use Rattle.legumeyet_columns.proofs.FieldsLemmas.{count_more, fields_last, fields_more, put_last, put_more, refused_last, refused_more, rest_refused, rest_written}
use Rattle.legumeyet_columns.proofs.row_writing.put_fields.Goals as goal

-- the last field
pub returns-in_default-clause-text : goal.returns-in_default-clause-text
returns-in_default-clause-text g c =
    let end = rw c.in_default.is at c.split_field.ensures.rest in
    put_last c.args.asked.now.dialect
    (field_written c.args.asked.now (g.S.FieldSayer.is_chosen c.args.sayer.now) (g.S.FieldSayer.said c.args.sayer.now))
    c.field.index c.field.left.now c.split_field.result.0.now c.field.out.items _ _
    c.split_field.ensures.field end c.in_ok-is_this_refused.ensures.text c.field.invariant.text

pub returns-in_default-clause-refused : goal.returns-in_default-clause-refused
returns-in_default-clause-refused g c =
    let end = rw c.in_default.is at c.split_field.ensures.rest in
    rw c.either-is_refused.ensures.value (refused_last c.args.asked.now (g.S.FieldSayer.is_chosen c.args.sayer.now) (g.S.FieldSayer.said c.args.sayer.now)
    c.field.index c.field.left.now c.split_field.result.0.now c.field.is_refused _ _
    c.split_field.ensures.field end c.in_ok-is_this_refused.ensures.refused c.field.invariant.refused)

pub returns-in_default-clause-misses : goal.returns-in_default-clause-misses
returns-in_default-clause-misses g c =
    let end = rw c.in_default.is at c.split_field.ensures.rest in
    let all = fields_last c.args.asked.now.dialect c.field.left.now c.field.index _ end c.field.invariant.fields in
    let same : c.saturating_add.result ≡ length (fields_of c.args.asked.now.dialect c.args.body.now) = omega (arith, all, c.saturating_add.ensures) in
    ap (g.S.FieldSayer.misses c.args.sayer.now) same

-- none of those that are left is chosen
pub returns-then-not-misses-clause-text : goal.returns-then-not-misses-clause-text
returns-then-not-misses-clause-text g c =
    let none : g.S.FieldSayer.misses c.args.sayer.now c.field.index ≡ false = cc in
    let left = rest_written c.args.asked.now (g.S.FieldSayer.is_chosen c.args.sayer.now) (g.S.FieldSayer.said c.args.sayer.now) c.field.index
    (λ later above. (g.met.S.FieldSayer.all_before c.args.sayer.now c.field.index later none above).1) c.field.left.now in
    c.in_ok-extend_from_slice.ensures.items ∙ ap (λ t. c.field.out.items ++ t) (sym left) ∙ c.field.invariant.text

pub returns-then-not-misses-clause-refused : goal.returns-then-not-misses-clause-refused
returns-then-not-misses-clause-refused g c =
    let none : g.S.FieldSayer.misses c.args.sayer.now c.field.index ≡ false = cc in
    sym (rest_refused c.args.asked.now (g.S.FieldSayer.is_chosen c.args.sayer.now) (g.S.FieldSayer.said c.args.sayer.now) c.field.index
    (λ later above. (g.met.S.FieldSayer.all_before c.args.sayer.now c.field.index later none above).1) c.field.left.now c.field.is_refused)
    ∙ c.field.invariant.refused

-- a field before others
pub field-preserved : goal.field-preserved
field-preserved g c =
    let more = rw c.in-Some.is at c.split_field.ensures.rest in
    record {
      count = count_more c.field.left.now _ _ c.field.index _ more.0 more.1 c.field.invariant.count;
      fields = fields_more c.args.asked.now.dialect c.field.left.now _ c.field.index _ more.0 more.1 c.field.invariant.fields;
      refused = rw c.either-is_refused.ensures.value (refused_more c.args.asked.now (g.S.FieldSayer.is_chosen c.args.sayer.now) (g.S.FieldSayer.said c.args.sayer.now)
          c.field.index c.field.left.now c.split_field.result.0.now c.field.is_refused _ _ _
          c.split_field.ensures.field more.0 more.1 c.in_ok-is_this_refused.ensures.refused c.field.invariant.refused);
      text = put_more c.args.asked.now.dialect
          (field_written c.args.asked.now (g.S.FieldSayer.is_chosen c.args.sayer.now) (g.S.FieldSayer.said c.args.sayer.now))
          c.field.index c.field.left.now
          c.split_field.result.0.now c.field.out.items _ _ _ _
          c.split_field.ensures.field more.0 more.1 c.in_ok-is_this_refused.ensures.text c.in_ok-push.ensures.items
          c.field.invariant.text;
    }
