use Rattle.std.proofs.Common.{ℕ, List, Option, drop, map}
use Rattle.std.specs.Io.KnownBytes.{Appends}
use Rattle.legumeyet.specs.Output.{texts_shown}
use Rattle.legumeyet.proofs.numbers.put_texts.Given as goal

-- once what is shown of the texts that are left is written, that of all texts is
abbrev pub invariant-loop-text : goal.invariant-loop-text
invariant-loop-text g l = (end : Option (List ℕ))
    → Appends (g.W.Write.contents l.out) end
    (texts_shown l.asked.invalid l.asked.has_parts l.asked.sayer.now (map (λ text. text.now) (drop l.text-index l.texts)))
    → Appends (g.W.Write.contents l.initial.out) end
    (texts_shown l.asked.invalid l.asked.has_parts l.asked.sayer.now (map (λ text. text.now) l.texts))
