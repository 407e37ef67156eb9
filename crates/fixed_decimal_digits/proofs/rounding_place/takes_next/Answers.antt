use Rattle.std.proofs.Common.{◌+◌, ◌*◌, ◌/◌, ◌^◌, cond, sym, subst}
use Rattle.fixed_decimal_digits.specs.DigitList.{count_of}
use Rattle.fixed_decimal_digits.specs.Rounding.{IsRounded}
use Rattle.fixed_decimal_digits.proofs.PlaceLemmas.{place_rounded, part_left}
use Rattle.fixed_decimal_digits.proofs.rounding_place.takes_next.Goals as goal

pub returns : goal.returns
returns c =
    let count = count_of c.args.digits.now.items c.args.top in
    subst (λ up. IsRounded c.args.mode (10 ^ c.args.place) count ((count / 10 ^ c.args.place + cond up 1 0) * 10 ^ c.args.place)) (sym c.takes_upper.ensures)
    (place_rounded c.args.mode c.compare_after-half.result c.is_odd_tie-is_odd.result count c.args.place
    (part_left c.args.digits.now.items c.args.top c.args.place c.args.kept c.requires.trimmed c.requires.kept c.requires.rest) c.compare_after-half.ensures c.is_odd_tie-is_odd.ensures)
