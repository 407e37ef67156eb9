use Rattle.std.proofs.Common.{length, arith, ◌∙◌}
use Rattle.tinystr_words.proofs.LengthLaws.{text_bytes_le}
use Rattle.tinystr.proofs.FormWords.{form_ascii, form_nuls_last, form_text_bytes}
use Rattle.tinystr.proofs.bytes.text_len.Goals as goal

pub text_len-requires-clause-ascii : goal.text_len-requires-clause-ascii
text_len-requires-clause-ascii c = form_ascii (length c.args.bytes.now) c.args.bytes.now c.requires

pub text_len-requires-clause-last : goal.text_len-requires-clause-last
text_len-requires-clause-last c = form_nuls_last (length c.args.bytes.now) c.args.bytes.now c.requires

pub returns-clause-value : goal.returns-clause-value
returns-clause-value c = c.text_len.ensures ∙ form_text_bytes (length c.args.bytes.now) c.args.bytes.now c.requires

pub returns-clause-bound : goal.returns-clause-bound
returns-clause-bound c = omega (arith, c.text_len.ensures, text_bytes_le c.args.bytes.now)
