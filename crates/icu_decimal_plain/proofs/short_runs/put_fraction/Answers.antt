use Rattle.std.proofs.Common.{◌-◌, ◌++◌, ◌∙◌, IsUtf8, ap, arith, length, subst, sym, take}
use Rattle.std.proofs.lemmas.Str.{IsUtf8-append, IsUtf8-had}
use Rattle.std.specs.Int.Digits.{AllBelowBase}
use Rattle.fixed_decimal.proofs.DigitsLemmas.{below_take}
use Rattle.icu_decimal_plain.specs.BorrowedTables.{borrowed_tables}
use Rattle.icu_decimal_plain.proofs.DigitChunkLemmas.{length_down}
use Rattle.icu_decimal_plain.proofs.PieceLemmas.{utf8_digits}
use Rattle.icu_decimal_plain.proofs.PlainTextLemmas.{fraction_shown, tens_down}
use Rattle.icu_decimal_plain.proofs.ShortRunLemmas.{fraction_put, front_shown}
use Rattle.icu_decimal_plain.proofs.short_runs.put_fraction.Goals as goal

pub block_of-block-requires-clause-few : goal.block_of-block-requires-clause-few
block_of-block-requires-clause-few c =
    let v = c.args.number.now in
    let long = ap length c.fraction_digits-digits.ensures ∙ length_down v.count v.low (32768 - v.low) in
    let few = c.requires.few in
    omega (arith, long, few)

pub block_of-block-requires-clause-tens : goal.block_of-block-requires-clause-tens
block_of-block-requires-clause-tens c =
    let v = c.args.number.now in
    subst (AllBelowBase 10) (sym c.fraction_digits-digits.ensures) (tens_down v.count v.low (32768 - v.low))

pub returns-clause-text : goal.returns-clause-text
returns-clause-text c =
    let t = borrowed_tables c.args.tables.now in
    let v = c.args.number.now in
    let count = c.fraction_len-count.result in
    let ds = c.fraction_digits-digits.result in
    let separator = take c.args.separator.len c.args.separator.bytes in
    let value = c.fraction_len-count.ensures.value in
    let some = c.if-count-eq0.false in
    let long = ap length c.fraction_digits-digits.ensures ∙ length_down v.count v.low (32768 - v.low) in
    let shown = front_shown ds c.block_of-block.result count (omega (arith, long, value)) c.block_of-block.ensures.front in
    fraction_put count t.digits ds c.block_of-block.result separator (take c.args.len c.args.text.now) (take c.put_piece-from.result c.put_piece-from.new.waiting) (take c.put_front.result c.put_front.new.text)
    shown c.put_piece-from.ensures.text c.put_front.ensures.text
    ∙ ap (λ text. take c.args.len c.args.text.now ++ text) (sym (fraction_shown t v count ds separator c.fraction_digits-digits.ensures value (omega (arith, some)) c.requires.separator.is))

pub returns-clause-utf8 : goal.returns-clause-utf8
returns-clause-utf8 c =
    let t = borrowed_tables c.args.tables.now in
    let table = c.args.tables.now.digits in
    let v = c.args.number.now in
    let count = c.fraction_len-count.result in
    let ds = c.fraction_digits-digits.result in
    let separator = take c.args.separator.len c.args.separator.bytes in
    let value = c.fraction_len-count.ensures.value in
    let long = ap length c.fraction_digits-digits.ensures ∙ length_down v.count v.low (32768 - v.low) in
    let tens = subst (AllBelowBase 10) (sym c.fraction_digits-digits.ensures) (tens_down v.count v.low (32768 - v.low)) in
    let shown = front_shown ds c.block_of-block.result count (omega (arith, long, value)) c.block_of-block.ensures.front in
    let text = fraction_put count t.digits ds c.block_of-block.result separator (take c.args.len c.args.text.now) (take c.put_piece-from.result c.put_piece-from.new.waiting) (take c.put_front.result c.put_front.new.text)
    shown c.put_piece-from.ensures.text c.put_front.ensures.text in
    let fine = subst IsUtf8 (sym c.requires.separator.is) (IsUtf8-had _ c.requires.separator.utf8) in
    ∣ rw text (IsUtf8-append _ _ (IsUtf8-had _ c.requires.utf8)
    (IsUtf8-append _ _ fine (utf8_digits t.digits (take count ds) (λ d below. IsUtf8-had _ (table.held d below).utf8) (below_take count ds tens)))) ∣₁
