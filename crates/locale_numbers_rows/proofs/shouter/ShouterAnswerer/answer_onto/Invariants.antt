use Rattle.std.proofs.Common.{◌≡◌, ◌++◌, take, string_bytes}
use Rattle.locale_numbers_rows.specs.Shouting.{shout}
use Rattle.locale_numbers_rows.proofs.shouter.ShouterAnswerer.answer_onto.Given as goal

-- the bytes before this one were answered
abbrev pub invariant-loop-byte : goal.invariant-loop-byte
invariant-loop-byte l = string_bytes l.out ≡ string_bytes l.initial.out ++ shout (take l.byte-index l.line)
