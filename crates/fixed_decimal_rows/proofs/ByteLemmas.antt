-- The number of a byte has at most three digits.
use Rattle.std.proofs.Common.{◌≡◌, ℕ, ◌+◌, ◌*◌, ◌%◌, ◌^◌, ◌<◌, ◌≤◌, ap, ◌∙◌, arith}
use Rattle.std.proofs.Math.Nat.{mul-mod_left, mul-le-mul_right, one-le-pow}
use Rattle.std.proofs.lemmas.Nat.{pow-add}
use Rattle.fixed_decimal.specs.Integers.{IsInteger}
use Rattle.fixed_decimal.specs.Number.{Number}
use Rattle.fixed_decimal.specs.Range.{HoldsDigits}

holds_three : (n e count : ℕ) → count ≡ n * 10 ^ e → n < 1000 → HoldsDigits count e 3
holds_three n e count h few =
    let reach : (n + 1) * 10 ^ e ≤ 1000 * 10 ^ e = mul-le-mul_right (10 ^ e) (omega arith) in
    let split : 10 ^ (e + 3) ≡ 10 ^ e * 10 ^ 3 = pow-add 10 e 3 in
    let some : 1 ≤ 10 ^ e = one-le-pow e 10 (omega arith) in
    record { whole = ap (λ x. x % 10 ^ e) h ∙ mul-mod_left n (10 ^ e); below = omega arith }

pub few_turns : (byte : ℕ) (v : Number) (old new : ℕ) → byte < 2 ^ 8 → IsInteger byte v
    → ((low digits : ℕ) → HoldsDigits v.count low digits → new ≤ old + digits + 2) → new ≤ old + 5
few_turns byte v old new small made bound =
    let turns = bound 32768 3 (holds_three byte 32768 v.count made.count (omega arith)) in omega arith
