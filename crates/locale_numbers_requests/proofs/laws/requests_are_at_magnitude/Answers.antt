use Rattle.locale_numbers_requests.proofs.AskedLemmas.{requests_placed}
use Rattle.locale_numbers_requests.proofs.laws.requests_are_at_magnitude.Goals as goal

pub returns : goal.returns
returns c = requests_placed
