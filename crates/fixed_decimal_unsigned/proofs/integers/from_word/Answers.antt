use Rattle.std.proofs.Common.{◌≡◌, ◌+◌, ◌-◌, length, sym, ap, ◌∙◌, arith}
use Rattle.fixed_decimal_digits.proofs.WordLemmas.{word_length}
use Rattle.fixed_decimal_unsigned.proofs.IntegerLemmas.{word_integer, word_tight}
use Rattle.fixed_decimal_unsigned.proofs.integers.from_word.Goals as goal

pub returns : goal.returns
returns c =
    let cut = c.cut_word-cut.result in
    word_integer c.assign_word.new.self.items c.args.number c.word_of_number.result cut.word cut.count cut.zeros c.assembled.result.count c.assembled.result.low c.assembled.result.high (32768 + cut.zeros + cut.count - 1)
    c.requires.some c.word_of_number.ensures.value c.cut_word-cut.ensures.cut c.cut_word-cut.ensures.last c.assign_word.ensures c.assembled.ensures.count c.assembled.ensures.low c.assembled.ensures.high (omega arith)

pub assembled-requires-clause-tight : goal.assembled-requires-clause-tight
assembled-requires-clause-tight c =
    let cut = c.cut_word-cut.result in
    word_tight c.assign_word.new.self.items c.word_of_number.result cut.word cut.count cut.zeros c.cut_word-cut.ensures.cut c.cut_word-cut.ensures.last c.assign_word.ensures

pub assembled-requires-clause-room : goal.assembled-requires-clause-room
assembled-requires-clause-room c =
    let cut = c.cut_word-cut.result in
    let size : length c.assign_word.new.self.items ≡ cut.count = ap length c.assign_word.ensures ∙ word_length cut.count cut.word in
    omega (arith, size)
