use Rattle.std.proofs.Common.{length, ap, ◌∙◌}
use Rattle.tinystr_words.specs.Words.{word_bytes}
use Rattle.tinystr.proofs.FormWords.{form_nuls_last, form_text_bytes}
use Rattle.tinystr.proofs.int_ops.aligned.Aligned.len.Goals as goal

pub word_len-requires : goal.word_len-requires
word_len-requires g c = record { last = form_nuls_last 8 (word_bytes c.self.inside.word) c.self.invariant.0 }

pub returns : goal.returns
returns g c = c.word_len.ensures ∙ form_text_bytes 8 (word_bytes c.self.inside.word) c.self.invariant.0 ∙ ap length c.self.view_is
