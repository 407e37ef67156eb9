use Rattle.std.proofs.Common.{◌+◌, None, Some}
use Rattle.locale_numbers_requests.proofs.RangeLemmas.{ends_found, rest_from}
use Rattle.locale_numbers_requests.proofs.range_text.cut_range.Goals as goal

pub returns-in-Some : goal.returns-in-Some
returns-in-Some c = rw (ends_found c.args.text.now (Some c.in-Some.place) c.in-Some.ensures, rest_from (c.in-Some.place + 2) c.args.text.now)

pub returns-in-None : goal.returns-in-None
returns-in-None c = ends_found c.args.text.now None c.in-None.ensures
