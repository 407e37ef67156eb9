use Rattle.std.proofs.Common.{◌+◌, ◌++◌, ◌∙◌, ap, append-nil, append_assoc, arith, drop, map, slice_index, sym, take}
use Rattle.icu_decimal_plain.specs.PlainText.{chained, digit_text}
use Rattle.icu_decimal_plain.proofs.PieceLemmas.{ten_at, text_next, text_past}
use Rattle.icu_decimal_plain.proofs.text_pieces.put_digit_pieces.Goals as goal

pub loop-at-preserved : goal.loop-at-preserved
loop-at-preserved g c =
    let table = c.args.table.now.chars.now in
    let digits = c.args.digits.now in
    let at = c.loop-at.at in
    let piece = c.args.table.now.held (slice_index digits at) (ten_at digits at c.loop-at-test.true c.requires.tens) in
    record {
      at = let going = c.loop-at-test.true in omega (arith, going);
      text = ap (λ front. front ++ chained (map (digit_text table) (drop (at + 1) digits))) c.put_piece-len.ensures.text
          ∙ append_assoc (take c.loop-at.len c.loop-at.waiting) _ (chained (map (digit_text table) (drop (at + 1) digits)))
          ∙ ap (λ text. take c.loop-at.len c.loop-at.waiting ++ (text ++ chained (map (digit_text table) (drop (at + 1) digits)))) piece.is
          ∙ ap (λ text. take c.loop-at.len c.loop-at.waiting ++ text) (sym (text_next table digits at c.loop-at-test.true))
          ∙ c.loop-at.invariant.text;
      room = let before = c.loop-at.invariant.room in let put = c.put_piece-len.ensures.room in omega (arith, before, put);
    }

pub returns-clause-text : goal.returns-clause-text
returns-clause-text g c =
    sym (append-nil (take c.loop-at.len c.loop-at.waiting))
    ∙ ap (λ text. take c.loop-at.len c.loop-at.waiting ++ text) (sym (text_past c.args.table.now.chars.now c.args.digits.now c.loop-at.at (let past = c.loop-at-test.false in omega (arith, past))))
    ∙ c.loop-at.invariant.text
