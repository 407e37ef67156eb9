use Rattle.std.proofs.Common.{◌≡◌, suc, ◌-◌, ◌*◌, ◌≤◌, ◌++◌, ◌∙◌, ap, arith, length, length-drop, length-take, rules, subst, sym, take}
use Rattle.icu_decimal_direct.proofs.PuttingLemmas.{group_put, rest_enough, size_enough, size_more}
use Rattle.icu_decimal_direct.proofs.putting.put_groups.Goals as goal

pub split_at-requires : goal.split_at-requires
split_at-requires g c = size_enough c.loop-left.left c.args.size _ (let going = c.loop-left-test.true in omega (arith, going)) c.loop-left.invariant.enough

pub loop-left-preserved : goal.loop-left-preserved
loop-left-preserved g c =
    let inv = c.loop-left.invariant in
    let left = c.loop-left.left in
    let going = c.loop-left-test.true in
    let ahead = c.loop-left.ahead.now in
    let within = inv.left in
    let more : left ≡ suc (left - 1) = omega (arith, going) in
    let first = c.split_at.ensures.front in
    let behind = c.split_at.ensures.back in
    let begun = c.put_bytes-begun in
    let end = c.put_bytes-end in
    let size = ap length first ∙ length-take c.args.size ahead in
    let room = inv.room in
    let begin = begun.ensures.room in
    let done = end.ensures.room in
    let short = c.requires.short in
    let product = size_more left (left - 1) c.args.size more in
    record {
      left = omega (arith, within);
      enough = subst (λ n. (left - 1) * c.args.size ≤ n) (sym (ap length behind ∙ length-drop c.args.size ahead)) (rest_enough left (left - 1) c.args.size (length ahead) more inv.enough);
      room = omega (arith, going, size, room, begin, done, short, product);
      text = group_put c.args.separator.now ahead (take c.loop-left.end c.loop-left.out) (take end.result end.new.out) (take begun.result begun.new.out) c.split_at.result.1.now c.args.size left (left - 1) more
          begun.ensures.text (end.ensures.text ∙ ap (λ group. take begun.result begun.new.out ++ group) first) behind ∙ inv.text;
    }

pub put_bytes-end-requires : goal.put_bytes-end-requires
put_bytes-end-requires g c =
    let left = c.loop-left.left in
    let going = c.loop-left-test.true in
    let size = ap length c.split_at.ensures.front ∙ length-take c.args.size c.loop-left.ahead.now in
    let product = size_more left (left - 1) c.args.size (omega (arith, going)) in
    let begin = c.put_bytes-begun.ensures.room in
    let kept = c.loop-left.invariant.room in
    let room = c.requires.room in
    let short = c.requires.short in
    (search rules, omega (arith, going, size, product, begin, kept, room, short))
