use Rattle.locale_numbers.proofs.AnsweringLemmas.{so_on_err}
use Rattle.locale_numbers.proofs.FrontLemmas.{front_read}
use Rattle.locale_numbers.proofs.LineMemoryLemmas.{tag_taken}
use Rattle.locale_numbers_requests.specs.Request.{request_of}
use Rattle.locale_numbers.proofs.front.read_front.Goals as goal

pub returns-clause-value : goal.returns-clause-value
returns-clause-value c = front_read c.args.bytes.now _ _ _ _ c.in-Some.ensures c.in_ok-preferences.ensures.value c.hashed_key-key.ensures c.is_as_it_is-is_as_it_is.ensures

pub returns-in_err-preferences-clause-room : goal.returns-in_err-preferences-clause-room
returns-in_err-preferences-clause-room c = so_on_err c.from_residual.result _ (tag_taken (request_of c.args.bytes.now) _ c.in-Some.ensures c.in_err-preferences.ensures.room)
