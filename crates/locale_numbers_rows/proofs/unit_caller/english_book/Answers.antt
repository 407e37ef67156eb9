use Rattle.locale_numbers_rows.proofs.EnglishLemmas.{finds, if_ok}
use Rattle.locale_numbers_rows.proofs.unit_caller.english_book.Goals as goal

pub returns : goal.returns
returns c = if_ok c.from_json.result (λ book says. finds _ book says c.requests_have_codes.ensures) c.from_json.ensures.value
