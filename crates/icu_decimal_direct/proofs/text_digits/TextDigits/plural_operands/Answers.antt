use Rattle.std.proofs.Common.{◌-◌, ap, arith, drop, length, length-drop, length-take, subst, sym, ◌∙◌}
use Rattle.fixed_decimal.specs.NumberText.{AreDigits, spelled}
use Rattle.icu_decimal_plurals.specs.Operands.{operands_shown}
use Rattle.icu_decimal_direct.proofs.OperandsLemmas.{operands_spelled}
use Rattle.icu_decimal_direct.proofs.ShownLemmas.{digits_told}
use Rattle.icu_decimal_direct.proofs.LaneLemmas.{digits_take}
use Rattle.icu_decimal_direct.proofs.TextLemmas.{digits_drop}
use Rattle.icu_decimal_direct.proofs.text_digits.TextDigits.plural_operands.Goals as goal

pub value_of-i-requires : goal.value_of-i-requires
value_of-i-requires c =
    let integer = c.args.self.now.integer.now in
    let is = c.last_eighteen.ensures in
    let size = ap length is ∙ length-drop (length integer - 18) integer in
    record { digits = subst AreDigits (sym is) (digits_drop (length integer - 18) integer (digits_told integer c.args.self.now.held.whole)); few = omega (arith, size) }

pub value_of-requires : goal.value_of-requires
value_of-requires c =
    let fraction = c.args.self.now.fraction.now in
    let is = c.first_eighteen-shown.ensures in
    let size = ap length is ∙ length-take 18 fraction in
    record { digits = subst AreDigits (sym is) (digits_take 18 fraction (digits_told fraction c.args.self.now.held.part)); few = omega (arith, size) }

pub returns : goal.returns
returns c =
    let d = c.args.self.now in
    let integer = c.last_eighteen.ensures in
    let shown = c.first_eighteen-shown.ensures in
    c.from_digits.ensures ∙ ap (λ i. operands_shown i (length c.first_eighteen-shown.result.now) c.value_of.result 0) c.value_of-i.ensures
    ∙ ap (λ f. operands_shown (spelled c.last_eighteen.result.now) (length c.first_eighteen-shown.result.now) f 0) c.value_of.ensures
    ∙ ap (λ i. operands_shown (spelled i) (length c.first_eighteen-shown.result.now) (spelled c.first_eighteen-shown.result.now) 0) integer
    ∙ ap (λ f. operands_shown (spelled (drop (length d.integer.now - 18) d.integer.now)) (length f) (spelled f) 0) shown
    ∙ operands_spelled d.integer.now d.fraction.now d.held
