-- Whether a number has a fraction: a digit is shown below the ones.
-- Defined in docs/command.md, "Digits".
-- Cited by `say` through Sayings.antt.
use Rattle.std.specs.Prelude.{Bool, nat_lt}
use Rattle.fixed_decimal.specs.Number.{Number}

abbrev pub has_fraction : Number → Bool
has_fraction value = nat_lt value.low 32768
