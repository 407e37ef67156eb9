use Rattle.std.proofs.Common.{◌≡◌, ℕ, List, Option, Some}
use Rattle.std.specs.Prelude.{◌||◌}
use Rattle.std.specs.Io.Buffered.{reader_remaining}
use Rattle.std.specs.Io.KnownBytes.{Appends}
use Rattle.legumeyet_columns.specs.RowsWritten.{table_refused, table_written}
use Rattle.legumeyet_columns.proofs.table.put_rows.Given as goal

-- once what is written for the input that is left is, that of the whole input is; what is refused so far or of what is left is what is of the whole
abbrev pub invariant-loop-turn : goal.invariant-loop-turn
invariant-loop-turn g l =
    (input : List ℕ) → reader_remaining g.R.Read.remaining l.initial.reader ≡ Some input
    → (rest : List ℕ) × (reader_remaining g.R.Read.remaining l.reader ≡ Some rest)
    × ((l.is_refused
    || table_refused l.asked (g.S.FieldSayer.is_chosen l.sayer) (g.S.FieldSayer.said l.sayer) (g.S.FieldSayer.misses l.sayer) rest)
    ≡ table_refused l.asked (g.S.FieldSayer.is_chosen l.sayer) (g.S.FieldSayer.said l.sayer) (g.S.FieldSayer.misses l.sayer) input)
    × ((end : Option (List ℕ))
    → Appends (g.W.Write.contents l.out) end
    (table_written l.asked (g.S.FieldSayer.is_chosen l.sayer) (g.S.FieldSayer.said l.sayer) (g.S.FieldSayer.misses l.sayer) rest)
    → Appends (g.W.Write.contents l.initial.out) end
    (table_written l.asked (g.S.FieldSayer.is_chosen l.sayer) (g.S.FieldSayer.said l.sayer) (g.S.FieldSayer.misses l.sayer) input))
