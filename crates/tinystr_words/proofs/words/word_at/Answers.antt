use Rattle.std.proofs.Common.{◌≡◌, ap, ◌∙◌}
use Rattle.std.specs.Int.{w64, from_le_bytes}
use Rattle.std.proofs.lemmas.Nat.{le_bytes_8}
use Rattle.tinystr_words.specs.Words.{word_bytes, filled}
use Rattle.tinystr_words.proofs.CutLaws.{put_fills, filled_below, length-filled}
use Rattle.tinystr_words.proofs.words.word_at.Goals as goal

pub returns : goal.returns
unfolding word_bytes
returns c =
    let made : c.put_at.new.bytes ≡ filled c.args.bytes.now = put_fills c.args.bytes.now c.put_at.new.bytes c.requires c.put_at.ensures in
    le_bytes_8 (filled c.args.bytes.now) c.from_le_bytes.result (length-filled c.args.bytes.now c.requires)
    (filled_below c.args.bytes.now (λ k. (c.type_inv.bytes k).fits)) (c.from_le_bytes.ensures ∙ ap (from_le_bytes w64) made)
