use Rattle.std.proofs.Common.{◌-◌, take, drop, arith, rules}
use Rattle.tinystr.specs.SmallText.{IsSmall}
use Rattle.tinystr.proofs.SmallTextLemmas.{IsSmall-take, list_all-take}
use Rattle.tinystr.proofs.DecimalLemmas.{digits_are_text}
use Rattle.tinystr.proofs.ascii.TinyAsciiStr.new_unsigned_decimal.Goals as goal

pub of_text-requires : goal.of_text-requires
of_text-requires g c =
    let start = c.put_digits-start.result in
    let digits = c.put_digits-start.new.digits in
    let ascii = digits_are_text (drop start digits) c.put_digits-start.ensures.text.digits in
    let small : IsSmall g.row.N (take (10 - start) (drop start digits)) =
    record { short = omega arith; ascii = list_all-take (10 - start) (drop start digits) ascii } in
    search rules

pub of_text-requires-else-text : goal.of_text-requires-else-text
of_text-requires-else-text g c =
    let start = c.put_digits-start.result in
    let digits = c.put_digits-start.new.digits in
    let ascii = digits_are_text (drop start digits) c.put_digits-start.ensures.text.digits in
    let small : IsSmall g.row.N (take g.row.N (take (10 - start) (drop start digits))) =
    IsSmall-take g.row.N g.row.N (take (10 - start) (drop start digits)) (omega arith) (list_all-take (10 - start) (drop start digits) ascii) in
    search rules
