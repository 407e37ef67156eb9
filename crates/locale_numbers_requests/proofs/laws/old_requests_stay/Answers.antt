use Rattle.locale_numbers_requests.proofs.OldRequestsLemmas.{stay}
use Rattle.locale_numbers_requests.proofs.laws.old_requests_stay.Goals as goal

pub returns : goal.returns
returns c = stay
