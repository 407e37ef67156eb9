use Rattle.std.proofs.lemmas.Str.{is_utf8-from_IsUtf8}
use Rattle.locale_numbers_requests.proofs.RequestLemmas.{not_text}
use Rattle.locale_numbers_requests.proofs.request.as_text.Goals as goal

pub returns-in-Ok : goal.returns-in-Ok
returns-in-Ok c = (is_utf8-from_IsUtf8 c.args.bytes.now c.in-Ok.ensures.cases.1, c.in-Ok.ensures.cases.0)

pub returns-in-Err : goal.returns-in-Err
returns-in-Err c = not_text c.args.bytes.now c.in-Err.ensures.cases.0
