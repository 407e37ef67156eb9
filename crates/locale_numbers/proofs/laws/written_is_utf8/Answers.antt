use Rattle.locale_numbers.proofs.laws.written_is_utf8.Goals as goal

pub returns : goal.returns
returns c = λ book asked tables value finds is. c.texts_are_utf8.ensures tables value finds.are is
