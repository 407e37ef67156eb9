use Rattle.locale_numbers_plurals.proofs.PluralsLemmas.{none_of_both}
use Rattle.locale_numbers_book.specs.Arrays.{fault_beside, fault_in, value_of_arrays}
use Rattle.locale_numbers_book.proofs.BookLemmas.{with_beside}
use Rattle.locale_numbers_book.proofs.book.parts_of.Goals as goal

pub returns-in-Ok-add_beside-clause-value : goal.returns-in-Ok-add_beside-clause-value
returns-in-Ok-add_beside-clause-value c =
    let a = c.args.arrays in
    record {
      sound = none_of_both (fault_in a.book) (fault_beside a.units a.more) c.in-Ok.ensures.sound c.in-Ok-add_beside.ensures.sound;
      arrays = with_beside (value_of_arrays a.book) _ _ c.in-Ok-add_beside.ensures.same c.in-Ok.ensures.value;
      units = c.in-Ok-add_beside.ensures.units;
      plurals = c.in-Ok-add_beside.ensures.plurals;
      signs = c.in-Ok-add_beside.ensures.signs;
    }
