use Rattle.std.proofs.Common.{◌≡◌, length}
use Rattle.locale_numbers_formats.specs.Cutting.{cut_at}
use Rattle.locale_numbers_formats.specs.ExponentWords.{exponent_options, read_options, slash}
use Rattle.locale_numbers_formats.proofs.exponents.exponent_options.Given as goal

abbrev pub invariant-loop-next : goal.invariant-loop-next
invariant-loop-next l = read_options l.notation (cut_at slash l.rest) l.exponents ≡ exponent_options l.notation l.text

abbrev pub decreases-loop-next : goal.decreases-loop-next
decreases-loop-next l = length l.rest
