use Rattle.std.proofs.lemmas.List.{length-take-le, take_all}
use Rattle.std.proofs.lemmas.Str.{IsUtf8-had}
use Rattle.std.proofs.Common.{◌≡◌, ℕ, ◌+◌, ◌*◌, ◌≤◌, ◌∙◌, IsUtf8, List, ap, arith, length, length-drop, subst, sym, take}
use Rattle.std.specs.Int.Digits.{AllBelowBase}
use Rattle.writeable.specs.AnnotatedText.{bytes}
use Rattle.writeable.specs.Taking.{on_err}
use Rattle.writeable.proofs.WritingLemmas.{writing_goes_on, writing_stops}
use Rattle.fixed_decimal.proofs.DigitsLemmas.{below_drop, below_take}
use Rattle.icu_decimal_plain.specs.LaterGroups.{groups_ahead}
use Rattle.icu_decimal_plain.specs.PlainText.{digit_text}
use Rattle.icu_decimal_plain.proofs.PieceLemmas.{chunk_bytes, chunk_past, utf8_groups}
use Rattle.icu_decimal_plain.proofs.digit_chunks.write_chunks.Goals as goal

-- a whole chunk holds the digits taken, and no others
whole_chunk : (chunk ds : List ℕ) → length chunk ≡ 48 → take 48 chunk ≡ take 48 ds → chunk ≡ take 48 ds
whole_chunk chunk ds long held = sym (take_all 48 chunk (omega (arith, long))) ∙ held

pub put_groups-len-requires : goal.put_groups-len-requires
put_groups-len-requires g c =
    let was = c.loop-digits.digits in
    let enough = c.loop-digits-test.true in
    let len = c.len.ensures in
    let is = whole_chunk c.next_digits-chunk.result was c.next_digits-chunk.ensures.long c.next_digits-chunk.ensures.chunk in
    let size = ap length is ∙ length-take-le 48 was (omega (arith, enough, len)) in
    let few = c.in-Some.ensures.few in
    let room : 0 + 4 * (length c.next_digits-chunk.result + length c.in-Some.groups) ≤ 384 = omega (arith, size, few) in
    let tens = subst (AllBelowBase 10) (sym is) (below_take 48 was c.loop-digits.invariant.tens) in
    (omega arith, (room, (c.in-Some.ensures.whole ∙ sym size, (c.new-piece.ensures.long, (c.new-piece.ensures.short, tens)))))

pub write_waiting-requires-clause-utf8 : goal.write_waiting-requires-clause-utf8
write_waiting-requires-clause-utf8 g c =
    let piece = c.new-piece.result in
    let taken = c.in-Some.groups in
    let was = c.loop-digits.digits in
    let is = whole_chunk c.next_digits-chunk.result was c.next_digits-chunk.ensures.long c.next_digits-chunk.ensures.chunk in
    let tens = subst (AllBelowBase 10) (sym is) (below_take 48 was c.loop-digits.invariant.tens) in
    subst IsUtf8 (sym c.put_groups-len.ensures.text)
    (utf8_groups (take piece.len piece.bytes) c.args.table.now.chars.now taken c.next_digits-chunk.result
    (subst IsUtf8 (sym c.new-piece.ensures.is) (IsUtf8-had _ c.new-piece.ensures.utf8)) (λ d below. IsUtf8-had _ (c.args.table.now.held d below).utf8) tens)

pub loop-digits-smaller : goal.loop-digits-smaller
loop-digits-smaller g c =
    let left = ap length c.next_digits-chunk.ensures.digits ∙ length-drop 48 c.loop-digits.digits in
    let enough = c.loop-digits-test.true in
    let len = c.len.ensures in
    omega (arith, left, enough, len)

pub loop-digits-preserved : goal.loop-digits-preserved
loop-digits-preserved g c =
    let table = c.args.table.now.chars.now in
    let separator = c.args.separator.now in
    let taken = c.in-Some.groups in
    let was = c.loop-digits.digits in
    let after = c.next_digits-chunk.new.digits in
    let chunk = c.next_digits-chunk.result in
    let is = whole_chunk chunk was c.next_digits-chunk.ensures.long c.next_digits-chunk.ensures.chunk in
    let text = take c.put_groups-len.result c.put_groups-len.new.waiting in
    let put = c.put_groups-len.ensures.text ∙ ap (λ sep. groups_ahead sep (digit_text table) taken chunk) c.new-piece.ensures.is in
    let parts = chunk_bytes separator table c.loop-digits.sizes taken c.next_chunk.new.self was after chunk text c.in-Some.ensures.taken c.in-Some.ensures.whole is c.next_digits-chunk.ensures.digits put in
    record {
      tens = subst (AllBelowBase 10) (sym c.next_digits-chunk.ensures.digits) (below_drop 48 was c.loop-digits.invariant.tens);
      digits = chunk_past c.loop-digits.sizes taken c.next_chunk.new.self was after c.in-Some.ensures.taken c.in-Some.ensures.whole c.next_digits-chunk.ensures.digits ∙ c.loop-digits.invariant.digits;
      writing = writing_goes_on g.S.Sink.takes g.S.Sink.refused g.met.S.Sink.joins _ _ _ _ (bytes text) (bytes (groups_ahead separator (digit_text table) c.next_chunk.new.self after))
          (rw parts at c.loop-digits.invariant.writing) c.in_ok-write_waiting.ensures.ok c.in_ok-write_waiting.ensures.refused;
    }

pub returns-in_err-write_waiting-clause-begun : goal.returns-in_err-write_waiting-clause-begun
returns-in_err-write_waiting-clause-begun g c =
    let table = c.args.table.now.chars.now in
    let separator = c.args.separator.now in
    let taken = c.in-Some.groups in
    let was = c.loop-digits.digits in
    let after = c.next_digits-chunk.new.digits in
    let chunk = c.next_digits-chunk.result in
    let is = whole_chunk chunk was c.next_digits-chunk.ensures.long c.next_digits-chunk.ensures.chunk in
    let text = take c.put_groups-len.result c.put_groups-len.new.waiting in
    let put = c.put_groups-len.ensures.text ∙ ap (λ sep. groups_ahead sep (digit_text table) taken chunk) c.new-piece.ensures.is in
    let parts = chunk_bytes separator table c.loop-digits.sizes taken c.next_chunk.new.self was after chunk text c.in-Some.ensures.taken c.in-Some.ensures.whole is c.next_digits-chunk.ensures.digits put in
    on_err c.from_residual.result
    (writing_stops g.S.Sink.takes g.S.Sink.refused g.met.S.Sink.joins g.S.Sink.lacks_room g.met.S.Sink.lacks_more _ _ _ _ (bytes text) (bytes (groups_ahead separator (digit_text table) c.next_chunk.new.self after))
    (rw parts at c.loop-digits.invariant.writing) c.in_err-write_waiting.ensures.begun)
