use Rattle.std.proofs.Common.{◌≡◌, ℕ, List, Option, Some}
use Rattle.std.specs.Io.Buffered.{reader_remaining}
use Rattle.std.specs.Io.KnownBytes.{Appends}
use Rattle.legumeyet.specs.Output.{input_shown}
use Rattle.legumeyet.proofs.input.put_lines.Given as goal

-- once what is shown of the input that is left is written, that of the whole input is
abbrev pub invariant-loop-turn : goal.invariant-loop-turn
invariant-loop-turn g l =
    (input : List ℕ) → reader_remaining g.R.Read.remaining l.initial.reader ≡ Some input
    → (rest : List ℕ) × (reader_remaining g.R.Read.remaining l.reader ≡ Some rest)
    × ((end : Option (List ℕ))
    → Appends (g.W.Write.contents l.out) end (input_shown l.asked.invalid l.asked.has_parts l.asked.sayer.now rest)
    → Appends (g.W.Write.contents l.initial.out) end (input_shown l.asked.invalid l.asked.has_parts l.asked.sayer.now input))
