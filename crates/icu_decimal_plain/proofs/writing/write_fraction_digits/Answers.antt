use Rattle.std.proofs.Common.{◌-◌, subst, sym}
use Rattle.std.specs.Int.Digits.{AllBelowBase}
use Rattle.icu_decimal_plain.proofs.PlainTextLemmas.{fraction_run, tens_down}
use Rattle.icu_decimal_plain.proofs.writing.write_fraction_digits.Goals as goal

pub write_run-requires-clause-tens : goal.write_run-requires-clause-tens
write_run-requires-clause-tens g c =
    let v = c.args.number.now in
    subst (AllBelowBase 10) (sym c.fraction_digits-shown.ensures) (tens_down v.count v.low (32768 - v.low))

pub returns-clause-ok : goal.returns-clause-ok
returns-clause-ok g c =
    rw (sym (fraction_run c.args.table.now.chars.now c.args.number.now c.fraction_len.result c.fraction_digits-shown.result c.fraction_digits-shown.ensures c.fraction_len.ensures.value)) c.write_run.ensures.ok

pub returns-clause-begun : goal.returns-clause-begun
returns-clause-begun g c =
    rw (sym (fraction_run c.args.table.now.chars.now c.args.number.now c.fraction_len.result c.fraction_digits-shown.result c.fraction_digits-shown.ensures c.fraction_len.ensures.value)) c.write_run.ensures.begun
