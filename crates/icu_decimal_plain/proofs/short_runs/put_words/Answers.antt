use Rattle.std.proofs.Common.{◌≡◌, ◌+◌, ◌∙◌, ap, arith, length, sum, take}
use Rattle.std.proofs.lemmas.List.Sums.{sum_by-cons}
use Rattle.icu_decimal_plain.proofs.ShortRunLemmas.{words_next}
use Rattle.icu_decimal_plain.proofs.short_runs.put_words.Goals as goal

pub loop-size-preserved : goal.loop-size-preserved
loop-size-preserved c =
    let size = c.in-Some.size in
    let was = c.loop-size.sizes in
    let others = c.next.new.self in
    let next = c.in-Some.ensures.steps in
    let digits : sum was ≡ size + sum others = ap sum next ∙ sum_by-cons (λ x. x) size others in
    let groups = ap length next in
    let within = c.loop-size.invariant.within in
    let room = c.loop-size.invariant.room in
    let some = c.if-size-eq0.false in
    let few = c.if-size-gt4.false in
    let long = c.told-bytes in
    let point = c.put_piece-len.ensures.room in
    let end = c.put_piece-len-in-Some.ensures.room in
    record {
      within = omega (arith, within, digits);
      text = words_next (take c.args.separator.len c.args.separator.bytes) c.args.bytes.now was others (take c.loop-size.len c.loop-size.text) (take c.put_piece-len.result c.put_piece-len.new.waiting) (take c.put_piece-len-in-Some.result c.put_piece-len-in-Some.new.waiting) c.loop-size.at size
          next (omega (arith, within, digits, long)) (omega (arith, few)) c.put_piece-len.ensures.text c.put_piece-len-in-Some.ensures.text ∙ c.loop-size.invariant.text;
      room = omega (arith, room, digits, groups, some, point, end);
    }
