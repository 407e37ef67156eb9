use Rattle.std.proofs.Common.{◌∙◌}
use Rattle.tinystr_words.specs.Words.{word_bytes}
use Rattle.tinystr.specs.SmallText.{text_of}
use Rattle.tinystr.proofs.WordLemmas.{form_widened, IsSmall-wider, word_of_8}
use Rattle.tinystr.proofs.int_ops.making.word_of.Goals as goal

pub returns : goal.returns
unfolding word_bytes
returns g c =
    let text = text_of c.args.src.now in
    let small = IsSmall-wider g.row.N 8 text c.requires.fits c.requires.form.small in
    let form = form_widened g.row.N 8 c.args.src.now c.put_ascii.new.bytes c.requires.form c.requires.fits c.put_ascii.ensures in
    word_of_8 text c.put_ascii.new.bytes c.from_le_bytes.result small form c.from_le_bytes.ensures ∙ form
