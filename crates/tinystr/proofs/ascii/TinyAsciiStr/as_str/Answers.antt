use Rattle.std.proofs.lemmas.Str.{IsUtf8-from_ascii}
use Rattle.tinystr.proofs.SmallTextLemmas.{IsAscii-text}
use Rattle.tinystr.proofs.ascii.TinyAsciiStr.as_str.Goals as goal

pub from_utf8_unchecked-requires : goal.from_utf8_unchecked-requires
from_utf8_unchecked-requires g c = IsUtf8-from_ascii _ (IsAscii-text _ c.as_utf8.ensures.small.ascii)
