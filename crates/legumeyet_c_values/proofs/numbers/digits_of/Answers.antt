use Rattle.std.proofs.Common.{◌≡◌, ◌≤◌, ℕ, List, length, true, false, Some, sym, subst}
use Rattle.std.specs.Float.{binary64}
use Rattle.ryu.specs.Parse.{parse_float}
use Rattle.legumeyet_c_values.specs.Numbers.{ReadsSome}
use Rattle.legumeyet_c_values.proofs.DoublesLemmas.{finite_no_nan, minus_zero_parses, numeral_reads, zero_has_bits, zero_parses, zero_reads}
use Rattle.legumeyet_c_values.proofs.numbers.digits_of.Goals as goal

pub float_to_bits-bits : goal.float_to_bits-bits
float_to_bits-bits c = finite_no_nan c.args.number c.requires

pub returns-then-bits-eq0 : goal.returns-then-bits-eq0
returns-then-bits-eq0 c = (zero_parses c.args.number c.well_formed.1.0.1 c.if-bits-eq0.true, zero_reads false)

pub returns-then-bits : goal.returns-then-bits
returns-then-bits c = (minus_zero_parses c.args.number c.well_formed.1.0.1 c.if-bits.true, zero_reads true)

pub returns-else-bits : goal.returns-else-bits
returns-else-bits c =
    let digits = c.format_finite in
    let plain = digits.ensures.plain in
    let short = subst (λ (t : List ℕ). length t ≤ 25) plain.2 digits.ensures.short in
    let parses = subst (λ (t : List ℕ). parse_float binary64 t ≡ Some c.args.number) plain.2 digits.ensures.parses in
    let other = zero_has_bits c.args.number c.if-bits-eq0.false c.if-bits.false in
    (digits.ensures.parses, subst ReadsSome (sym plain.2) (numeral_reads plain.0 plain.1 c.args.number plain.3 short c.requires other parses))
