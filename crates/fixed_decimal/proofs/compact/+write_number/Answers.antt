use Rattle.std.proofs.Common.{◌++◌, ◌+◌, ◌/◌, ◌%◌, map, OnOk, OnErr, rules, arith, refl, sym, subst}
use Rattle.std.specs.Char.{encode_utf8}
use Rattle.std.specs.Int.Digits.{digits_of}
use Rattle.writeable.specs.AnnotatedText.{bytes}
use Rattle.writeable.specs.Taking.{HasBegun}
use Rattle.fixed_decimal_signed.specs.NumberText.{character}
use Rattle.fixed_decimal.proofs.CompactWritingLemmas.{next_digit}
use Rattle.fixed_decimal.proofs.compact.+write_number.Goals as goal

pub returns-clause-ok : goal.returns-clause-ok
returns-clause-ok g t c =
    let n = c.args.number in
    let pieces : OnOk c.write_char.result (g.S.Sink.takes c.args.sink.now (bytes (map character (digits_of 10 (n / 10))) ++ bytes (encode_utf8 (48 + n % 10))) c.write_char.new.self) = search rules in
    subst (λ es. OnOk c.write_char.result (g.S.Sink.takes c.args.sink.now es c.write_char.new.self)) (sym (next_digit n (48 + n % 10) (omega arith) refl)) pieces

pub returns-clause-begun : goal.returns-clause-begun
returns-clause-begun g t c =
    let n = c.args.number in
    let pieces : OnErr c.write_char.result (HasBegun {S = g.row.S.Denot} g.S.Sink.takes g.S.Sink.lacks_room c.args.sink.now (bytes (map character (digits_of 10 (n / 10))) ++ bytes (encode_utf8 (48 + n % 10))) c.write_char.new.self) =
    g.met.S.Sink.stops_in_second c.write_char.result c.args.sink.now c.write_number.new.sink c.write_char.new.self (bytes (map character (digits_of 10 (n / 10)))) (bytes (encode_utf8 (48 + n % 10)))
    (search rules) (search rules) (search rules) in
    subst (λ es. OnErr c.write_char.result (HasBegun {S = g.row.S.Denot} g.S.Sink.takes g.S.Sink.lacks_room c.args.sink.now es c.write_char.new.self)) (sym (next_digit n (48 + n % 10) (omega arith) refl)) pieces

pub returns-in_err-write_number-clause-begun : goal.returns-in_err-write_number-clause-begun
returns-in_err-write_number-clause-begun g t c =
    let n = c.args.number in
    let pieces : OnErr c.from_residual.result (HasBegun {S = g.row.S.Denot} g.S.Sink.takes g.S.Sink.lacks_room c.args.sink.now (bytes (map character (digits_of 10 (n / 10))) ++ bytes (encode_utf8 (48 + n % 10))) c.write_number.new.sink) = search rules in
    subst (λ es. OnErr c.from_residual.result (HasBegun {S = g.row.S.Denot} g.S.Sink.takes g.S.Sink.lacks_room c.args.sink.now es c.write_number.new.sink)) (sym (next_digit n (48 + n % 10) (omega arith) refl)) pieces
