use Rattle.std.proofs.lemmas.Str.{IsUtf8-had}
use Rattle.icu_decimal_plain.proofs.text_writing.write_unsigned_text.Goals as goal

pub write_waiting-requires-clause-utf8 : goal.write_waiting-requires-clause-utf8
write_waiting-requires-clause-utf8 g c = IsUtf8-had _ c.in-Some.ensures.utf8
