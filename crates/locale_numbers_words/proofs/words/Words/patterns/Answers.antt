use Rattle.locale_numbers_words.proofs.words.Words.patterns.Goals as goal

pub returns : goal.returns
returns c = rw (← c.self.view_is) c.get.ensures.value
