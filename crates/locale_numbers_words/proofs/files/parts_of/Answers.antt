use Rattle.locale_numbers_words.proofs.FilesLemmas.{second_of, third_of}
use Rattle.locale_numbers_words.proofs.files.parts_of.Goals as goal

pub returns-in-Some-clause-names : goal.returns-in-Some-clause-names
returns-in-Some-clause-names c =
    second_of _ _ _ _ _ c.in-Some.ensures c.into_iter-values.ensures.rest c.next_items-patterns.ensures.rest c.next_items-names.ensures.first

pub returns-in-Some-clause-units : goal.returns-in-Some-clause-units
returns-in-Some-clause-units c =
    third_of _ _ _ _ _ c.in-Some.ensures c.into_iter-values.ensures.rest c.next_items-patterns.ensures.rest _ c.next_items-names.ensures.rest c.next_items-units.ensures.first
