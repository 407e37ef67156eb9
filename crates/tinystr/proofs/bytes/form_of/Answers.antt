use Rattle.std.proofs.Common.{◌∙◌, arith}
use Rattle.tinystr_words.specs.Words.{word_bytes, filled}
use Rattle.tinystr.proofs.SmallTextLemmas.{put_first_gives_form, word_gives_form}
use Rattle.tinystr.proofs.bytes.form_of.Goals as goal

pub returns-then-this-le8 : goal.returns-then-this-le8
unfolding word_bytes filled
returns-then-this-le8 g c =
    word_gives_form g.row.N g.row.N c.args.text.now c.to_le_bytes.result c.put_at.new.bytes c.if-this-le8.true (omega arith) c.requires.short
    (c.to_le_bytes.ensures ∙ c.short_word.ensures) c.put_at.ensures

pub returns-else-this-le8 : goal.returns-else-this-le8
returns-else-this-le8 g c = put_first_gives_form g.row.N c.args.text.now c.put_at-else-this-le8.new.bytes c.requires.short c.put_at-else-this-le8.ensures
