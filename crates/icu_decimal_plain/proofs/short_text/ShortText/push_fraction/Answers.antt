use Rattle.std.proofs.Common.{◌≡◌, ◌-◌, ◌++◌, ◌∙◌, ap, append_assoc, arith, length, map, subst, sym, take}
use Rattle.std.specs.Int.Digits.{AllBelowBase}
use Rattle.fixed_decimal.proofs.DigitsLemmas.{below_take}
use Rattle.icu_decimal_plain.specs.BorrowedTables.{borrowed_tables}
use Rattle.icu_decimal_plain.specs.PlainText.{chained, digit_text}
use Rattle.icu_decimal_plain.proofs.DigitChunkLemmas.{length_down}
use Rattle.icu_decimal_plain.proofs.PieceLemmas.{held_itself}
use Rattle.icu_decimal_plain.proofs.PlainTextLemmas.{fraction_shown, tens_down}
use Rattle.icu_decimal_plain.proofs.short_text.ShortText.push_fraction.Goals as goal

pub few_digits-chunk-requires-clause-enough : goal.few_digits-chunk-requires-clause-enough
few_digits-chunk-requires-clause-enough c =
    let v = c.args.number.now in
    let long = ap length c.fraction_digits-digits.ensures ∙ length_down v.count v.low (32768 - v.low) in
    omega (arith, long)

pub push-requires-clause-piece : goal.push-requires-clause-piece
push-requires-clause-piece c = held_itself c.args.separator _ c.requires.separator

pub push_front-requires : goal.push_front-requires
push_front-requires c =
    let v = c.args.number.now in
    let shown = subst (AllBelowBase 10) (sym c.fraction_digits-digits.ensures) (tens_down v.count v.low (32768 - v.low)) in
    subst (AllBelowBase 10) (sym c.few_digits-chunk.ensures.chunk) (below_take c.fraction_len-count.result c.fraction_digits-digits.result shown)

pub returns : goal.returns
returns c =
    let t = borrowed_tables c.args.tables.now in
    let v = c.args.number.now in
    let count = c.fraction_len-count.result in
    let ds = c.fraction_digits-digits.result in
    let separator = take c.args.separator.len c.args.separator.bytes in
    let shown = c.if-count-eq0.false in
    let digits = chained (map (digit_text t.digits) (take count c.few_digits-chunk.result)) in
    let joined : c.push.new.self ++ digits ≡ c.args.self.now ++ (separator ++ chained (map (digit_text t.digits) (take count ds)))
    = ap (λ text. text ++ digits) c.push.ensures
    ∙ append_assoc c.args.self.now separator digits
    ∙ ap (λ list. c.args.self.now ++ (separator ++ chained (map (digit_text t.digits) list))) c.few_digits-chunk.ensures.chunk in
    rw (fraction_shown t v count ds separator c.fraction_digits-digits.ensures c.fraction_len-count.ensures.value (omega (arith, shown)) c.requires.separator.is)
    (rw joined at c.push_front.ensures)
