-- A write fails where it answers an error, and where it takes no byte of a piece that has one.
-- Defined in docs/requests.md, "Readers and writers".
-- Cited by `ByteWriter::write`.
use Rattle.std.specs.Prelude.{ℕ, Bool, true, ◌&&◌, ◌==◌, nat_lt, List, length, Result, Ok, Err}

-- whether a write of this piece failed
abbrev pub write_fails : {E : Type 0} → Result ℕ E → List ℕ → Bool
write_fails (Ok taken) piece = taken == 0 && nat_lt 0 (length piece)
write_fails (Err fault) piece = true
