use Rattle.locale_numbers.proofs.ServingLemmas.{answered_alike}
use Rattle.locale_numbers.proofs.laws.served_books_answer_alike.Goals as goal

pub returns : goal.returns
returns c = answered_alike
