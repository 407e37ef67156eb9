use Rattle.std.specs.Str.{chars}
use Rattle.writeable.specs.Taking.{on_err}
use Rattle.icu_decimal_reading.proofs.StepLemmas.{whole_many}
use Rattle.icu_decimal_reading.proofs.scanning.gather_whole.Goals as goal

pub returns-in_err-push-clause-room : goal.returns-in_err-push-clause-room
returns-in_err-push-clause-room c =
    on_err c.from_residual.result
    (whole_many c.args.table.now (chars c.args.separator.now) (chars c.loop-character.left.now) (chars c.in-Some.rest.now) (chars c.args.text.now) c.in-Some.character c.in-Some-digit_in.digit c.loop-character.gathered c.args.gathered.now
    c.in-Some.ensures.some c.in-Some-digit_in.ensures.value c.loop-character.invariant.value c.in_err-push.ensures.room)
