use Rattle.std.proofs.Common.{refl, arith}
use Rattle.std.specs.Prelude.{bit_xor}
use Rattle.std.specs.Char.{to_ascii_uppercase, is_ascii_lowercase}
use Rattle.tinystr_words.proofs.Lanes.{tried_same}
use Rattle.tinystr_words.proofs.FlagLaws.{turn}
use Rattle.tinystr_words.proofs.PartLaws.{turned_by_twice}
use Rattle.tinystr_words.proofs.changes.ToUppercaseWordChange.changed_part.Goals as goal

pub returns : goal.returns
returns c =
    turned_by_twice is_ascii_lowercase to_ascii_uppercase c.args.word c.twice_within.result c.ranges.word.fits c.requires.ascii c.twice_within.ensures
    (λ b l. grind arith) (tried_same 128 (λ b. bit_xor b (turn (is_ascii_lowercase b))) to_ascii_uppercase refl)
