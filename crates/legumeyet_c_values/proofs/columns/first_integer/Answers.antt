use Rattle.std.proofs.Common.{ℤ, List, ◌-◌, length, take, drop, get_or, IfErr, OnOk, w16, w64, ◌∙◌, ap, rules}
use Rattle.std.proofs.lemmas.Int.{to_z-of_z}
use Rattle.std.specs.Prelude.{pos}
use mir.Val.{SFits}
use Rattle.legumeyet_c_values.specs.Columns.{integers}
use Rattle.legumeyet_c_values.specs.Numbers.{IsGiven, IsGivenFault, scaled}
use Rattle.legumeyet_c_values.proofs.ColumnLemmas.{map_rest, of_first}
use Rattle.legumeyet_c_values.proofs.columns.first_integer.Goals as goal

pub returns-clause-value : goal.returns-clause-value
returns-clause-value c =
    let first : ℤ = get_or c.args.mantissas.now 0 (pos 0) in
    let fits : SFits w64 first = search rules in
    let mantissa = to_z-of_z w64 first fits in
    let exponent = to_z-of_z w16 c.args.exponent c.ranges.exponent in
    of_first (λ m. scaled m c.args.exponent) (λ given. OnOk c.assign_scaled-outcome.result (IsGiven given c.assign_scaled-outcome.new.number)) c.args.mantissas.now (pos 0) c.requires
    (simp (mantissa, exponent) at c.assign_scaled-outcome.ensures.value)

pub returns-clause-fault : goal.returns-clause-fault
returns-clause-fault c =
    let first : ℤ = get_or c.args.mantissas.now 0 (pos 0) in
    let fits : SFits w64 first = search rules in
    let mantissa = to_z-of_z w64 first fits in
    let exponent = to_z-of_z w16 c.args.exponent c.ranges.exponent in
    of_first (λ m. scaled m c.args.exponent) (λ given. IfErr c.assign_scaled-outcome.result (IsGivenFault given)) c.args.mantissas.now (pos 0) c.requires
    (simp (mantissa, exponent) at c.assign_scaled-outcome.ensures.fault)

pub returns-clause-rest : goal.returns-clause-rest
returns-clause-rest c =
    let rest : List ℤ = take (length c.args.mantissas.now - 1) (drop 1 c.args.mantissas.now) in
    ap (λ (e : ℤ). integers rest e) (to_z-of_z w16 c.args.exponent c.ranges.exponent) ∙ map_rest (λ m. scaled m c.args.exponent) c.args.mantissas.now
