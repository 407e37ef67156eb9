use Rattle.locale_numbers_book.specs.Arrays.{more_fault_in, units_fault_in}
use Rattle.locale_numbers_plurals.proofs.PluralsLemmas.{none_of_both}
use Rattle.locale_numbers_book.proofs.BookLemmas.{both_given}
use Rattle.locale_numbers_book.proofs.book.add_beside.Goals as goal

pub returns-in-Ok-add_more-clause-same : goal.returns-in-Ok-add_more-clause-same
returns-in-Ok-add_more-clause-same c = both_given c.args.book.now c.add_units.new.book c.add_more.new.book c.in-Ok.ensures.same c.in-Ok-add_more.ensures.same

pub returns-in-Ok-add_more-clause-sound : goal.returns-in-Ok-add_more-clause-sound
returns-in-Ok-add_more-clause-sound c = none_of_both (units_fault_in c.args.units) (more_fault_in c.args.more) c.in-Ok.ensures.sound c.in-Ok-add_more.ensures.sound
