use Rattle.std.proofs.Common.{arith, ap, subst, sym, ◌∙◌}
use Rattle.std.proofs.lemmas.Str.{IsAscii-drop}
use Rattle.std.specs.Str.{IsAscii}
use Rattle.tinystr_words.specs.Words.{nuls_last, text_bytes}
use Rattle.tinystr_words.proofs.LengthLaws.{text_bytes_le}
use Rattle.tinystr_words.proofs.CutLaws.{nuls_last_cut, nuls_last-filled, text_bytes_cut}
use Rattle.tinystr_words.proofs.slices.text_len.Goals as goal

pub word_len-len-requires : goal.word_len-len-requires
word_len-len-requires c =
    let parts = nuls_last_cut c.loop-rest.rest.now c.split_at.result.0.now c.split_at.result.1.now c.split_at.ensures.by_index.0 c.loop-rest.invariant.last in
    record { last = ap nuls_last c.word_at.ensures ∙ nuls_last-filled c.split_at.result.0.now parts.0 }

pub overflow_add-len : goal.overflow_add-len
overflow_add-len c =
    let cut = text_bytes_cut c.loop-rest.rest.now c.split_at.result.0.now c.split_at.result.1.now c.split_at.ensures.by_index.0 in
    let counted = c.word_len-len.ensures ∙ ap text_bytes c.word_at.ensures in
    record { fits = omega (arith, cut, counted, c.loop-rest.invariant.count, text_bytes_le c.args.bytes.now) }

pub loop-rest-preserved : goal.loop-rest-preserved
loop-rest-preserved c =
    let whole = c.split_at.ensures.by_index.0 in
    let cut = text_bytes_cut c.loop-rest.rest.now c.split_at.result.0.now c.split_at.result.1.now whole in
    let counted = c.word_len-len.ensures ∙ ap text_bytes c.word_at.ensures in
    record {
      ascii = subst IsAscii (sym c.split_at.ensures.back) (IsAscii-drop c.loop-rest.rest.now c.min.result c.loop-rest.invariant.ascii);
      last = (nuls_last_cut c.loop-rest.rest.now c.split_at.result.0.now c.split_at.result.1.now whole c.loop-rest.invariant.last).1;
      count = omega (arith, cut, counted, c.loop-rest.invariant.count);
    }
