use Rattle.std.proofs.Common.{◌≡◌, max, sym, ap, ◌∙◌, subst, true≢false, arith}
use Rattle.std.proofs.lemmas.Int.{to_z-of_z}
use Rattle.writeable.specs.Taking.{on_err}
use Rattle.fixed_decimal_unsigned.specs.Number.{place}
use Rattle.fixed_decimal_digits.specs.DigitList.{count_of}
use Rattle.fixed_decimal_unsigned.specs.DigitCount.{HoldsDigits}
use Rattle.fixed_decimal_unsigned.proofs.NonzeroLemmas.{may_grow}
use Rattle.fixed_decimal_unsigned.proofs.RangeLemmas.{trimmed_of, holds_length, rounded_kept, rounds_made, limited_multiple, turns_bounded}
use Rattle.fixed_decimal_unsigned.proofs.unsigned_decimal.UnsignedDecimal.round_counted.Goals as goal

pub returns-in_err-top-clause-room : goal.returns-in_err-top-clause-room
returns-in_err-top-clause-room g c =
    let i = c.self.inside in
    let at : c.place_of-place.result ≡ place c.args.position = grind (arith, to_z-of_z, c.place_of-place.ensures) in
    on_err c.from_residual.result
    (may_grow c.args.mode c.args.increment i.digits.items i.top i.low i.high c.self.invariant c.args.self.now c.self.view_is c.place_of-place.result (place c.args.position) at (λ other. true≢false (sym (c.in_err-top.ensures.succeeds other)))
    c.in_err-top.ensures.room c.in_err-top.ensures.last c.in_err-top.ensures.odd)

pub returns-in_err-top-clause-turns : goal.returns-in_err-top-clause-turns
returns-in_err-top-clause-turns g c = λ low digits holds.
    let i = c.self.inside in
    turns_bounded _ _ _ digits c.round_digits.ensures.turns
    (holds_length i.digits.items i.top low digits (trimmed_of i.digits.items i.top i.low i.high c.self.invariant) (subst (λ v. HoldsDigits v.count low digits) (sym c.self.view_is) holds))

pub invariant_of-self-2 : goal.invariant_of-self-2
invariant_of-self-2 g c =
    let i = c.self.inside in
    let new = c.within_limit-self-inside.new.digits.items in let top = c.within_limit-self-inside.result in
    let at = c.place_of-place.result in
    let whole = limited_multiple c.args.mode c.args.increment at (count_of i.digits.items i.top) (count_of c.round_digits.new.digits.items c.in_ok-top.top) (count_of new top)
    c.in_ok-top.ensures.value c.within_limit-self-inside.ensures.value in
    rounded_kept new top at i.high c.min-self-inside.result c.max-self-inside.result c.within_limit-self-inside.ensures.trimmed c.self.invariant.ones whole
    c.min-self-inside.ensures
    (c.max-self-inside.ensures ∙ ap (λ x. max x top) (c.max.ensures ∙ ap (λ x. max i.high x) c.saturating_sub.ensures))

pub returns-clause-value : goal.returns-clause-value
returns-clause-value g c =
    let i = c.self.inside in
    let new = c.within_limit-self-inside.new.digits.items in let top = c.within_limit-self-inside.result in
    let at : c.place_of-place.result ≡ place c.args.position = grind (arith, to_z-of_z, c.place_of-place.ensures) in
    rounds_made c.args.mode c.args.increment c.place_of-place.result (place c.args.position) (record { count = count_of i.digits.items i.top; low = i.low; high = i.high }) c.args.self.now
    (count_of c.round_digits.new.digits.items c.in_ok-top.top) new top c.min-self-inside.result c.max-self-inside.result at c.self.view_is c.within_limit-self-inside.ensures.trimmed c.self.invariant.ones
    c.in_ok-top.ensures.value c.within_limit-self-inside.ensures.value c.min-self-inside.ensures
    (c.max-self-inside.ensures ∙ ap (λ x. max x top) (c.max.ensures ∙ ap (λ x. max i.high x) c.saturating_sub.ensures))

pub returns-clause-turns : goal.returns-clause-turns
returns-clause-turns g c = λ low digits holds.
    let i = c.self.inside in
    turns_bounded _ _ _ digits c.round_digits.ensures.turns
    (holds_length i.digits.items i.top low digits (trimmed_of i.digits.items i.top i.low i.high c.self.invariant) (subst (λ v. HoldsDigits v.count low digits) (sym c.self.view_is) holds))
