use Rattle.std.proofs.Common.{◌≡◌, drop}
use Rattle.std.specs.List.{list_all}
use Rattle.locale_numbers_requests.specs.Digits.{is_digit}
use Rattle.locale_numbers_requests.proofs.digits.are_digits.Given as goal

abbrev pub invariant-loop-byte : goal.invariant-loop-byte
invariant-loop-byte l = list_all is_digit l.word ≡ list_all is_digit (drop l.byte-index l.word)
