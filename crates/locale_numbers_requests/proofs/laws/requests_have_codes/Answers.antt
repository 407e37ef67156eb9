use Rattle.locale_numbers_requests.proofs.AskedLemmas.{have_codes}
use Rattle.locale_numbers_requests.proofs.laws.requests_have_codes.Goals as goal

pub returns : goal.returns
returns c = have_codes
