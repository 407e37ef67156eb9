use Rattle.std.proofs.Common.{◌≡◌, drop}
use Rattle.legumeyet_columns.specs.Places.{after_all}
use Rattle.legumeyet_columns.proofs.dialect.Dialect.after_all.Given as goal

-- the bytes that are left lead to the same place
abbrev pub invariant-loop-byte : goal.invariant-loop-byte
invariant-loop-byte l = after_all l.self l.place (drop l.byte-index l.bytes) ≡ after_all l.self l.initial.place l.bytes
