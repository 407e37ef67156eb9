use Rattle.std.proofs.Common.{◌∙◌}
use Rattle.locale_numbers_requests.proofs.RequestLemmas.{text_tells}
use Rattle.locale_numbers_requests.proofs.request.is_text.Goals as goal

pub returns : goal.returns
returns c = c.is_ok.ensures.value ∙ text_tells c.args.bytes.now _ _ c.from_utf8.result c.from_utf8.ensures.cases
