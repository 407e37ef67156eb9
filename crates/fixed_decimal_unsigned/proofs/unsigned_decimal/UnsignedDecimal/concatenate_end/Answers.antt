use Rattle.std.proofs.Common.{refl, subst, sym}
use Rattle.fixed_decimal_unsigned.specs.Concatenation.{Concatenates}
use Rattle.fixed_decimal_unsigned.proofs.ConcatenationLemmas.{kept_overlap, kept_apart, kept_stored, kept_sum, kept_memory, not_memory, not_refused}
use Rattle.fixed_decimal_unsigned.proofs.unsigned_decimal.UnsignedDecimal.concatenate_end.Goals as goal
use Rattle.fixed_decimal_unsigned.proofs.unsigned_decimal.UnsignedDecimal.concatenate_end.Goals.{in-Heap-3, in-Inline-3}

pub returns-in_default-clause-overlap : goal.returns-in_default-clause-overlap
returns-in_default-clause-overlap c =
    let i = c.self.inside in let o = c.other.inside in (
      λ _. kept_overlap i.digits.items o.digits.items i.top o.top i.low i.high o.low o.high c.self.invariant c.other.invariant c.args.self.now c.args.other c.self.view_is c.other.view_is
          c.if-is_zero.ensures c.if-is_zero-2.ensures (c.in_default.ensures.none refl),
      λ _. refl,
    )

pub invariant_of-self-in-Ok : goal.invariant_of-self-in-Ok
invariant_of-self-in-Ok c =
    let i = c.self.inside in let o = c.other.inside in
    kept_stored i.digits.items o.digits.items i.top o.top i.low i.high o.low o.high c.self.invariant c.other.invariant c.args.self.now c.args.other c.self.view_is c.other.view_is
    c.if-is_zero.ensures c.if-is_zero-2.ensures c.push_after.new.digits.items c.in-Some.zeros c.min-self-inside-in-Ok.result c.max-self-inside-in-Ok.result
    c.in-Ok.ensures.ok c.in-Some.ensures.some c.min-self-inside-in-Ok.ensures c.max-self-inside-in-Ok.ensures

pub invariant_of-self-in-Ok-2 : goal.invariant_of-self-in-Ok-2
invariant_of-self-in-Ok-2 c =
    let i = c.self.inside in let o = c.other.inside in
    kept_stored i.digits.items o.digits.items i.top o.top i.low i.high o.low o.high c.self.invariant c.other.invariant c.args.self.now c.args.other c.self.view_is c.other.view_is
    c.if-is_zero.ensures c.if-is_zero-2.ensures c.push_after.new.digits.items c.in-Some.zeros c.min-self-inside-in-Ok.result c.max-self-inside-in-Ok.result
    c.in-Ok.ensures.ok c.in-Some.ensures.some c.min-self-inside-in-Ok.ensures c.max-self-inside-in-Ok.ensures

pub returns-in-Ok-clause-value : goal.returns-in-Ok-clause-value
returns-in-Ok-clause-value c =
    let i = c.self.inside in let o = c.other.inside in
    let sum =
    kept_sum i.digits.items o.digits.items i.top o.top i.low i.high o.low o.high c.self.invariant c.other.invariant c.args.self.now c.args.other c.self.view_is c.other.view_is
    c.if-is_zero.ensures c.if-is_zero-2.ensures c.push_after.new.digits.items c.in-Some.zeros c.min-self-inside-in-Ok.result c.max-self-inside-in-Ok.result
    c.in-Ok.ensures.ok c.in-Some.ensures.some c.min-self-inside-in-Ok.ensures c.max-self-inside-in-Ok.ensures in
    elim c.match-other-2.branch [
      | in-Heap-3 w ↦ subst (Concatenates c.args.self.now c.args.other) (sym w.self-is) sum
      | in-Inline-3 w ↦ subst (Concatenates c.args.self.now c.args.other) (sym w.self-is) sum
    ]

pub returns-in-Ok-clause-overlap : goal.returns-in-Ok-clause-overlap
returns-in-Ok-clause-overlap c =
    let i = c.self.inside in let o = c.other.inside in (
      λ e. absurd (not_refused _ e),
      λ h. absurd (kept_apart i.digits.items o.digits.items i.top o.top i.low i.high o.low o.high c.self.invariant c.other.invariant c.args.self.now c.args.other
          c.self.view_is c.other.view_is c.if-is_zero.ensures c.if-is_zero-2.ensures c.in-Some.zeros c.in-Some.ensures.some h),
    )

pub returns-in-Err-clause-overlap : goal.returns-in-Err-clause-overlap
returns-in-Err-clause-overlap c =
    let i = c.self.inside in let o = c.other.inside in (
      λ e. absurd (not_memory _ e),
      λ h. absurd (kept_apart i.digits.items o.digits.items i.top o.top i.low i.high o.low o.high c.self.invariant c.other.invariant c.args.self.now c.args.other
          c.self.view_is c.other.view_is c.if-is_zero.ensures c.if-is_zero-2.ensures c.in-Some.zeros c.in-Some.ensures.some h),
    )

pub returns-in-Err-clause-memory : goal.returns-in-Err-clause-memory
returns-in-Err-clause-memory c = λ _.
    let i = c.self.inside in let o = c.other.inside in
    kept_memory i.digits.items o.digits.items i.top o.top i.low i.high o.low o.high c.self.invariant c.other.invariant c.args.self.now c.args.other c.self.view_is c.other.view_is
    c.if-is_zero.ensures c.if-is_zero-2.ensures c.in-Some.zeros c.in-Some.ensures.some c.in-Err.ensures.room
