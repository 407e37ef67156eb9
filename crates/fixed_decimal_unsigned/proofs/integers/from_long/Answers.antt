use Rattle.std.proofs.Common.{◌<◌, ◌+◌, ◌-◌, length, arith, ap}
use Rattle.writeable.specs.Taking.{on_err}
use Rattle.fixed_decimal_unsigned.proofs.LongLemmas.{long_count}
use Rattle.fixed_decimal_unsigned.proofs.IntegerLemmas.{left_few, integer_made, some_digits, stripped_tight}
use Rattle.fixed_decimal_unsigned.proofs.integers.from_long.Goals as goal

pub overflow_add-ends-2 : goal.overflow_add-ends-2
overflow_add-ends-2 c =
    let few : length c.push_number.new.digits.items < 40 =
    left_few c.push_number.new.digits.items c.args.number c.strip_zeros-left.result.0 c.strip_zeros-left.result.1 c.in_ok-push_number.ensures.value c.strip_zeros-left.ensures.value (omega arith) c.in_ok-push_number.ensures.first in
    let at = c.len.ensures.value in let zeros = c.strip_zeros-left.ensures.few in omega arith

pub overflow_cast-ends-2 : goal.overflow_cast-ends-2
overflow_cast-ends-2 c =
    let few : length c.push_number.new.digits.items < 40 =
    left_few c.push_number.new.digits.items c.args.number c.strip_zeros-left.result.0 c.strip_zeros-left.result.1 c.in_ok-push_number.ensures.value c.strip_zeros-left.ensures.value (omega arith) c.in_ok-push_number.ensures.first in
    let at = c.len.ensures.value in let zeros = c.strip_zeros-left.ensures.few in omega arith

pub assembled-requires-clause-tight : goal.assembled-requires-clause-tight
assembled-requires-clause-tight c =
    stripped_tight c.push_number.new.digits.items c.strip_zeros-left.result.0 c.in_ok-push_number.ensures.tens c.in_ok-push_number.ensures.first c.in_ok-push_number.ensures.value
    c.strip_zeros-left.ensures.last

pub returns-clause-value : goal.returns-clause-value
returns-clause-value c =
    let items = c.push_number.new.digits.items in let zeros = c.strip_zeros-left.result.1 in let left = c.strip_zeros-left.result.0 in
    integer_made items c.args.number left zeros c.assembled.result.count c.assembled.result.low c.assembled.result.high (32768 + zeros + c.len.result - 1)
    (omega arith) c.in_ok-push_number.ensures.value c.strip_zeros-left.ensures.value
    (stripped_tight items left c.in_ok-push_number.ensures.tens c.in_ok-push_number.ensures.first c.in_ok-push_number.ensures.value c.strip_zeros-left.ensures.last)
    c.assembled.ensures.count c.assembled.ensures.low c.assembled.ensures.high
    (some_digits items left c.in_ok-push_number.ensures.value c.strip_zeros-left.ensures.last)
    (ap (λ n. 32768 + zeros + n - 1) c.len.ensures.value)

pub returns-in_err-push_number-clause-room : goal.returns-in_err-push_number-clause-room
returns-in_err-push_number-clause-room c =
    let left = c.strip_zeros-left.result in
    on_err c.from_residual.result (long_count left.0 left.1 c.args.number c.strip_zeros-left.ensures.value c.strip_zeros-left.ensures.last c.in_err-push_number.ensures.room)
