use Rattle.std.proofs.lemmas.Str.{IsUtf8-from_ascii}
use Rattle.locale_numbers_answers.proofs.compact_answer.ascii_text.Goals as goal

pub from_utf8_unchecked-requires : goal.from_utf8_unchecked-requires
from_utf8_unchecked-requires c = IsUtf8-from_ascii c.args.characters.now c.requires
