use Rattle.std.proofs.Common.{rules}
use Rattle.std.specs.Str.{chars}
use Rattle.icu_decimal_reading.specs.PlainReading.{digits_of_text, fraction_in, whole_in}
use Rattle.icu_decimal_reading.proofs.GatheredLemmas.{count_grows, many_both, number_is}
use Rattle.icu_decimal_reading.proofs.scanning.number_in.Goals as goal

pub returns-in_err-gather_all-clause-memory : goal.returns-in_err-gather_all-clause-memory
returns-in_err-gather_all-clause-memory c = λ _.
    many_both c.args.table.now (chars c.args.separator.now) (chars c.args.text.now) (chars c.in_ok-fraction.fraction.now) c.in_ok-gathered.gathered c.gather_whole.new.gathered
    c.in_ok-gathered.ensures.value c.in_ok-fraction.ensures.value c.in_ok-fraction.ensures.fraction c.in_err-gather_all.ensures.room

pub into_number-requires-clause-shown : goal.into_number-requires-clause-shown
into_number-requires-clause-shown c =
    count_grows c.gather_whole.new.gathered c.gather_all.new.gathered (digits_of_text c.args.table.now (chars c.in_ok-fraction.fraction.now)) c.count-whole.result
    c.in_ok-gather_all.ensures.value c.count-whole.ensures

pub returns-in-Some-clause-value : goal.returns-in-Some-clause-value
returns-in-Some-clause-value c =
    number_is (whole_in c.args.table.now (chars c.args.separator.now) (chars c.args.text.now)) (fraction_in c.args.table.now (chars c.args.separator.now) (chars c.args.text.now))
    c.in_ok-gathered.gathered c.gather_whole.new.gathered c.gather_all.new.gathered c.in_ok-gathered.ensures.value c.in_ok-fraction.ensures.value
    (search rules) c.count-whole.result c.in-Some.number c.new.result c.count-whole.ensures (search rules) c.in-Some.ensures.within c.in-Some.ensures.value c.new.ensures.sign c.new.ensures.value
