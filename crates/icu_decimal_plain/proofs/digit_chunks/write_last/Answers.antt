use Rattle.std.proofs.Common.{◌+◌, ◌*◌, ◌≤◌, ◌∙◌, IsUtf8, ap, arith, length, subst, sum, sym, take}
use Rattle.std.proofs.lemmas.List.{drop_all, take_all}
use Rattle.std.proofs.lemmas.Result.{on_ok_weaker}
use Rattle.std.proofs.lemmas.Str.{IsUtf8-had}
use Rattle.std.specs.Int.Digits.{AllBelowBase}
use Rattle.icu_decimal_plain.specs.LaterGroups.{groups_ahead}
use Rattle.icu_decimal_plain.specs.PlainText.{digit_text}
use Rattle.icu_decimal_plain.proofs.PieceLemmas.{utf8_groups}
use Rattle.icu_decimal_plain.proofs.digit_chunks.write_last.Goals as goal

pub put_groups-len-requires : goal.put_groups-len-requires
put_groups-len-requires g c =
    let count = c.len-count.result in
    let all = c.few_digits-chunk.ensures.chunk ∙ take_all count c.args.digits.now (omega arith) in
    let size = ap length all in
    let few = c.requires.room in
    let whole = c.requires.whole in
    let room : 0 + 4 * (length (take count c.few_digits-chunk.result) + length c.args.sizes.now) ≤ 384 = omega (arith, size, few) in
    (omega arith, (room, (whole ∙ sym size, (c.new-piece.ensures.long, (c.new-piece.ensures.short, subst (AllBelowBase 10) (sym all) c.requires.tens)))))

pub write_waiting-requires-clause-utf8 : goal.write_waiting-requires-clause-utf8
write_waiting-requires-clause-utf8 g c =
    let piece = c.new-piece.result in
    let count = c.len-count.result in
    let all = c.few_digits-chunk.ensures.chunk ∙ take_all count c.args.digits.now (omega arith) in
    subst IsUtf8 (sym c.put_groups-len.ensures.text)
    (utf8_groups (take piece.len piece.bytes) c.args.table.now.chars.now c.args.sizes.now (take count c.few_digits-chunk.result)
    (subst IsUtf8 (sym c.new-piece.ensures.is) (IsUtf8-had _ c.new-piece.ensures.utf8)) (λ d below. IsUtf8-had _ (c.args.table.now.held d below).utf8) (subst (AllBelowBase 10) (sym all) c.requires.tens))

pub returns-clause-digits : goal.returns-clause-digits
returns-clause-digits g c =
    let whole = c.requires.whole in
    let none = c.few_digits-chunk.ensures.digits (omega arith) ∙ sym (drop_all (sum c.args.sizes.now) c.args.digits.now (omega (arith, whole))) in
    on_ok_weaker c.write_waiting.result (λ _. none) c.write_waiting.ensures.ok

pub returns-clause-ok : goal.returns-clause-ok
returns-clause-ok g c =
    let table = c.args.table.now.chars.now in
    let count = c.len-count.result in
    let all = c.few_digits-chunk.ensures.chunk ∙ take_all count c.args.digits.now (omega arith) in
    let text = c.put_groups-len.ensures.text
    ∙ ap (λ separator. groups_ahead separator (digit_text table) c.args.sizes.now (take count c.few_digits-chunk.result)) c.new-piece.ensures.is
    ∙ ap (groups_ahead c.args.separator.now (digit_text table) c.args.sizes.now) all in
    rw (← text) c.write_waiting.ensures.ok

pub returns-clause-begun : goal.returns-clause-begun
returns-clause-begun g c =
    let table = c.args.table.now.chars.now in
    let count = c.len-count.result in
    let all = c.few_digits-chunk.ensures.chunk ∙ take_all count c.args.digits.now (omega arith) in
    let text = c.put_groups-len.ensures.text
    ∙ ap (λ separator. groups_ahead separator (digit_text table) c.args.sizes.now (take count c.few_digits-chunk.result)) c.new-piece.ensures.is
    ∙ ap (groups_ahead c.args.separator.now (digit_text table) c.args.sizes.now) all in
    rw (← text) c.write_waiting.ensures.begun
