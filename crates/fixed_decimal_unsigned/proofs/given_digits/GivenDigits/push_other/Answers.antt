use Rattle.std.proofs.Common.{◌≡◌, ◌+◌, ◌*◌, ◌<◌, ◌∙◌, [], ◌∷◌, ◌++◌, ◌^◌, ap, arith, length, replicate, subst, sym, true≢false, ⊎_elim}
use Rattle.std.proofs.lemmas.Bool.{cases_lt}
use Rattle.std.proofs.lemmas.List.{append_assoc}
use Rattle.writeable.specs.Taking.{on_err}
use Rattle.fixed_decimal_unsigned.specs.DigitCount.{IsLong}
use Rattle.fixed_decimal_unsigned.proofs.ConcatenationLemmas.{joined}
use Rattle.fixed_decimal_unsigned.proofs.GivenDigitsLemmas.{other_given, other_kept, other_long}
use Rattle.fixed_decimal_unsigned.proofs.given_digits.GivenDigits.push_other.Goals as goal

pub returns-in_err-reserve-clause-room : goal.returns-in_err-reserve-clause-room
returns-in_err-reserve-clause-room c =
    let i = c.self.inside in
    let d = c.args.digit in
    let inline = c.len-inline.ensures.inline in
    let many : 16 < length i.kept.items + (i.zeros + 1) =
    ⊎_elim (λ h. h) (λ few. absurd (true≢false (sym (c.in_err-reserve.ensures.succeeds (omega (arith, few, inline)))))) (cases_lt 16 (length i.kept.items + (i.zeros + 1))) in
    on_err c.from_residual.result
    (subst (λ v. IsLong (v.mantissa * 10 + d)) c.self.view_is (other_long i.kept.items i.zeros i.given d c.self.invariant c.requires.some c.requires.ten many))

pub invariant_of-self-2 : goal.invariant_of-self-2
invariant_of-self-2 c =
    let i = c.self.inside in
    let d = c.args.digit in
    let counted = ap (λ v. v.count) c.self.view_is in
    let few : i.given < 2 ^ 63 = omega (arith, counted, c.requires.few) in
    let whole : c.push_reserved.new.self.items ≡ joined i.kept.items i.zeros (d ∷ []) =
    c.push_reserved.ensures.items ∙ ap (λ ds. ds ++ d ∷ []) (c.push_zeros.ensures.items ∙ ap (λ ds. ds ++ replicate i.zeros 0) c.in_ok-reserve.ensures.items)
    ∙ append_assoc i.kept.items (replicate i.zeros 0) (d ∷ []) in
    other_kept i.kept.items c.push_reserved.new.self.items i.zeros i.given d c.self.invariant whole c.requires.some c.requires.ten few

pub returns-clause-ok : goal.returns-clause-ok
returns-clause-ok c =
    let i = c.self.inside in
    let d = c.args.digit in
    let whole : c.push_reserved.new.self.items ≡ joined i.kept.items i.zeros (d ∷ []) =
    c.push_reserved.ensures.items ∙ ap (λ ds. ds ++ d ∷ []) (c.push_zeros.ensures.items ∙ ap (λ ds. ds ++ replicate i.zeros 0) c.in_ok-reserve.ensures.items)
    ∙ append_assoc i.kept.items (replicate i.zeros 0) (d ∷ []) in
    other_given i.kept.items c.push_reserved.new.self.items i.zeros i.given d c.args.self.now c.self.view_is whole
