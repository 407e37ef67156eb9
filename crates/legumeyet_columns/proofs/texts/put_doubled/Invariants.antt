use Rattle.std.proofs.Common.{◌≡◌, ◌++◌, drop}
use Rattle.legumeyet_columns.specs.FieldTexts.{doubled}
use Rattle.legumeyet_columns.proofs.texts.put_doubled.Given as goal

-- what is put and the rest, doubled, are the whole, doubled
abbrev pub invariant-loop-byte : goal.invariant-loop-byte
invariant-loop-byte l = l.out.items ++ doubled (drop l.byte-index l.text) ≡ l.initial.out.items ++ doubled l.text
