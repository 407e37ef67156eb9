use Rattle.std.proofs.Common.{subst, sym}
use Rattle.std.specs.Str.{IsAscii}
use Rattle.fixed_decimal_unsigned.proofs.WritingLemmas.{text_ascii}
use Rattle.fixed_decimal_unsigned.proofs.writing.write_short.Goals as goal

pub ascii_text-requires : goal.ascii_text-requires
ascii_text-requires g c = subst IsAscii (sym c.spell_text-length.ensures.text) (text_ascii c.args.number.now)
