use Rattle.std.proofs.Common.{ℕ, List, Option, drop, map}
use Rattle.std.specs.Io.KnownBytes.{Appends}
use Rattle.legumeyet.specs.Output.{ReadNothing, texts_shown}
use Rattle.legumeyet.proofs.words.put_words.Given as goal

-- none of the numbers that are left stands for others, and once what is shown of them is written, that of all is
abbrev pub invariant-loop-number : goal.invariant-loop-number
invariant-loop-number g l =
    ReadNothing (map (λ number. number.now) l.numbers)
    → ReadNothing (map (λ number. number.now) (drop l.number-index l.numbers))
    × ((end : Option (List ℕ))
    → Appends (g.W.Write.contents l.out) end
    (texts_shown l.asked.invalid l.asked.has_parts l.asked.sayer.now (map (λ number. number.now) (drop l.number-index l.numbers)))
    → Appends (g.W.Write.contents l.initial.out) end
    (texts_shown l.asked.invalid l.asked.has_parts l.asked.sayer.now (map (λ number. number.now) l.numbers)))
