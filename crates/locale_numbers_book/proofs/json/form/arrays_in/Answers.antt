use Rattle.locale_numbers_book.proofs.FormLemmas.{arrays_taken}
use Rattle.locale_numbers_book.proofs.json.form.arrays_in.Goals as goal

pub returns : goal.returns
returns c =
    arrays_taken _ _ _ _ _ _ _ _ _ _ _ _ _ c.into_iter-values.ensures.rest c.next_items-first.ensures.rest c.next_items-second.ensures.rest c.next_items-third.ensures.rest c.next_items-fourth.ensures.rest c.next_items-fifth.ensures.rest
    c.next_items-first.ensures.first c.next_items-second.ensures.first c.next_items-third.ensures.first c.next_items-fourth.ensures.first c.next_items-fifth.ensures.first c.next_array-sixth.ensures.first c.requires
