use Rattle.writeable.proofs.WritingLemmas.{no_text_is_left}
use Rattle.writeable.proofs.write.Writeable.write_to_string.Goals as goal

-- where the text is empty, no byte could be refused
pub returns-in-Err-clause-succeeds : goal.returns-in-Err-clause-succeeds
returns-in-Err-clause-succeeds g c = λ none.
    let begun = c.in-Err.ensures.begun in
    absurd (no_text_is_left (g.Self.Writeable.events c.args.self.now) begun.front begun.rest none begun.whole begun.short)
