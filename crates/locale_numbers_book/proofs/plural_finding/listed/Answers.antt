use Rattle.locale_numbers_book.proofs.plural_finding.listed.Goals as goal

pub returns : goal.returns
returns c = rw (← c.found.view_is) c.as_slice.ensures.value
