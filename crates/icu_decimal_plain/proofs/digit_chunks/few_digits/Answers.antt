use Rattle.std.proofs.Common.{◌≡◌, ◌++◌, ◌∙◌, ap, arith, drop, length, min, take}
use Rattle.std.proofs.lemmas.List.{drop-drop, drop_all, drop_min}
use Rattle.icu_decimal_plain.proofs.DigitChunkLemmas.{block_next, blocks_done}
use Rattle.icu_decimal_plain.proofs.digit_chunks.few_digits.Goals as goal

pub loop-at-preserved : goal.loop-at-preserved
loop-at-preserved c =
    let ds = c.args.digits.now in
    let at = c.loop-at.at in
    let was = c.loop-at.digits in
    let count = c.put_next.result in
    let here = c.loop-at.invariant.digits in
    let going = c.loop-at-test.true in
    let enough = c.requires.enough in
    record {
      even = let even = c.loop-at.invariant.even in omega (arith, even);
      within = omega (arith, going);
      long = c.put_next.array_long;
      digits = c.put_next.ensures.digits ∙ ap (λ n. drop n was) c.put_next.ensures.count ∙ drop_min 16 was ∙ ap (drop 16) here ∙ drop-drop 16 at ds;
      chunk = block_next ds c.loop-at.chunk c.put_next.new.chunk at count (omega (arith, going, enough))
          (c.put_next.ensures.count ∙ ap (λ list. min 16 (length list)) here) c.loop-at.invariant.chunk
          (c.put_next.ensures.chunk ∙ ap (λ list. take at c.loop-at.chunk ++ take count list) here);
    }

pub returns-clause-long : goal.returns-clause-long
returns-clause-long c = c.loop-at.invariant.long

pub returns-clause-chunk : goal.returns-clause-chunk
returns-clause-chunk c =
    let past = c.loop-at-test.false in
    blocks_done c.args.digits.now c.loop-at.chunk c.loop-at.at c.args.count (omega (arith, past)) c.requires.enough c.loop-at.invariant.chunk

pub returns-clause-digits : goal.returns-clause-digits
returns-clause-digits c =
    let past = c.loop-at-test.false in
    λ few. c.loop-at.invariant.digits ∙ drop_all c.loop-at.at c.args.digits.now (omega (arith, few, past))

pub returns-clause-blocks : goal.returns-clause-blocks
returns-clause-blocks c =
    let past = c.loop-at-test.false in
    let even = c.loop-at.invariant.even in
    let within = c.loop-at.invariant.within in
    λ whole. let all : c.loop-at.at ≡ c.args.count = omega (arith, past, even, within, whole) in
    c.loop-at.invariant.digits ∙ ap (λ n. drop n c.args.digits.now) all
