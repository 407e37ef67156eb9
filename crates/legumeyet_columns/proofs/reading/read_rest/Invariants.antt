use Rattle.std.proofs.Common.{◌≡◌, ℕ, ◌+◌, ◌-◌, ◌≤◌, List, ◌++◌, Some, length}
use Rattle.std.specs.Io.Buffered.{reader_remaining}
use Rattle.legumeyet_columns.specs.Places.{left_after, rest_of}
use Rattle.legumeyet_columns.specs.declared.reading.TheConstants.{LONGEST}
use Rattle.legumeyet_columns.proofs.reading.read_rest.Given as goal

-- the lines that were read and the rest of the record are the whole, and what it leaves is the same
abbrev pub invariant-line : goal.invariant-line
invariant-line g l = record {
  longer : length l.initial.row.items ≤ length l.row.items;
  bytes : (bytes : List ℕ) → reader_remaining g.R.Read.remaining l.initial.reader ≡ Some bytes
      → (rest : List ℕ) × (reader_remaining g.R.Read.remaining l.reader ≡ Some rest)
      × (l.row.items ++ rest_of l.dialect l.place rest ≡ l.initial.row.items ++ rest_of l.dialect l.initial.place bytes)
      × (left_after l.dialect l.place rest ≡ left_after l.dialect l.initial.place bytes);
}

abbrev pub decreases-line : goal.decreases-line
decreases-line g l = (LONGEST + 1) - length l.row.items
