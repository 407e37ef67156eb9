use Rattle.std.proofs.Common.{◌<◌, arith}
use Rattle.std.proofs.lemmas.Bool.{le-leb, leb-true}
use Rattle.locale_numbers_formatter.proofs.DivisionLemmas.{whole_from}
use Rattle.locale_numbers_formatter.proofs.compact_digits.has_none_below.Goals as goal

pub returns : goal.returns
returns c =
    let fits : c.args.exponent < 256 = c.ranges.exponent.fits in
    let digits = whole_from c.args.number.now.count c.args.exponent c.last_place.result (omega (arith, fits)) c.last_place.ensures.zero c.last_place.ensures.value in
    (λ test. digits.0 (leb-true c.args.exponent c.last_place.result test), λ whole. le-leb c.args.exponent c.last_place.result (digits.1 whole))
