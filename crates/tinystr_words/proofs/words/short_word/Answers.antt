use Rattle.std.proofs.Common.{◌≡◌, ◌-◌, ◌≤◌, length, drop, ap, arith, ◌∙◌}
use Rattle.std.proofs.lemmas.List.{length-drop}
use Rattle.tinystr_words.specs.Words.{word_of}
use Rattle.tinystr_words.proofs.ShortLaws.{AreBytes-drop, filled_word, room_for_one}
use Rattle.tinystr_words.proofs.words.short_word.Goals as goal

pub overflow_mul-word : goal.overflow_mul-word
overflow_mul-word c =
    let rest = drop c.loop-left.left c.args.bytes.now in
    let few : length rest ≤ 7 = omega (arith, length-drop c.loop-left.left c.args.bytes.now, c.requires, c.loop-left-test.true, c.loop-left.invariant.0) in
    omega (arith, room_for_one rest (AreBytes-drop c.args.bytes.now c.loop-left.left (λ k. (c.type_inv.bytes k).fits)) few, c.loop-left.invariant.1)

pub overflow_add-word : goal.overflow_add-word
overflow_add-word c =
    let rest = drop c.loop-left.left c.args.bytes.now in
    let few : length rest ≤ 7 = omega (arith, length-drop c.loop-left.left c.args.bytes.now, c.requires, c.loop-left-test.true, c.loop-left.invariant.0) in
    let byte = (c.type_inv.bytes (c.loop-left.left - 1)).fits in
    omega (arith, room_for_one rest (AreBytes-drop c.args.bytes.now c.loop-left.left (λ k. (c.type_inv.bytes k).fits)) few, c.loop-left.invariant.1, byte)

pub returns : goal.returns
returns c =
    let none : c.loop-left.left ≡ 0 = omega (arith, c.loop-left-test.false) in
    filled_word c.args.bytes.now c.loop-left.word c.requires (λ k. (c.type_inv.bytes k).fits) (c.loop-left.invariant.1 ∙ ap (λ n. word_of (drop n c.args.bytes.now)) none)
