use Rattle.locale_numbers_tables.proofs.KeyLemmas.{same_keys}
use Rattle.locale_numbers_book.proofs.laws.keys_are_one_where_equal.Goals as goal

pub returns : goal.returns
returns c = same_keys
