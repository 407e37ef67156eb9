use Rattle.std.proofs.Common.{length, refl}
use Rattle.fixed_decimal_digits.specs.DigitList.{count_of}
use Rattle.fixed_decimal_unsigned.specs.BorrowedParts.{parts_of}
use Rattle.fixed_decimal_unsigned.specs.NumberText.{number_of}
use Rattle.fixed_decimal_unsigned.proofs.ShortTextLemmas.{short_reads}
use Rattle.fixed_decimal_unsigned.proofs.reading.read_text.Goals as goal

pub returns-in-Some-clause-value : goal.returns-in-Some-clause-value
returns-in-Some-clause-value c =
    let s = c.in-Some.short in
    short_reads c.args.text.now s.word s.above s.below (record { count = count_of c.read_short.new.digits.items c.read_short.result.top; low = c.read_short.result.low; high = c.read_short.result.high }) c.in-Some.ensures c.read_short.ensures.value

pub returns-clause-memory : goal.returns-clause-memory
returns-clause-memory c = λ e.
    let parts = parts_of c.in-Some-of.parts in
    record {
      number = number_of parts;
      reads = record { parts = parts; spells = c.in-Some-of.ensures.some; within = c.read_parts.ensures.memory_within e; is = refl };
      long = c.read_parts.ensures.memory e;
    }

pub returns-clause-kept : goal.returns-clause-kept
returns-clause-kept c = λ e other low holds.
    let parts = parts_of c.in-Some-of.parts in
    record {
      number = number_of parts;
      reads = record { parts = parts; spells = c.in-Some-of.ensures.some; within = c.read_parts.ensures.memory_within e; is = refl };
      longer = record { low = low; places = length c.args.digits.now.items; holds = holds; more = c.read_parts.ensures.kept e };
    }
