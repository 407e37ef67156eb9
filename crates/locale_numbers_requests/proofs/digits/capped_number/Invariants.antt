use Rattle.std.proofs.Common.{◌≡◌, min, take}
use Rattle.fixed_decimal.specs.NumberText.{spelled}
use Rattle.locale_numbers_requests.proofs.digits.capped_number.Given as goal

abbrev pub invariant-loop-digit : goal.invariant-loop-digit
invariant-loop-digit l = l.number ≡ min (spelled (take l.digit-index l.digits)) 65536
