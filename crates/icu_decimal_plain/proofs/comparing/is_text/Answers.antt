use Rattle.std.proofs.lemmas.Str.{IsUtf8-had}
use Rattle.icu_decimal_plain.proofs.comparing.is_text.Goals as goal

pub is_front-requires-clause-utf8 : goal.is_front-requires-clause-utf8
is_front-requires-clause-utf8 c = IsUtf8-had _ c.in-Some.ensures.utf8
