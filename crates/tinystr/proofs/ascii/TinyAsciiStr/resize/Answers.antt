use Rattle.std.proofs.Common.{◌≤◌, take, arith, rules}
use Rattle.tinystr.specs.SmallText.{IsSmall}
use Rattle.tinystr.proofs.SmallTextLemmas.{IsSmall-take}
use Rattle.tinystr.proofs.ascii.TinyAsciiStr.resize.Goals as goal

pub of_text-requires : goal.of_text-requires
of_text-requires g c =
    let within : c.min.result ≤ g.row.M = omega arith in
    let small : IsSmall g.row.M (take c.min.result c.as_utf8-text.result.now) =
    IsSmall-take c.min.result g.row.M c.as_utf8-text.result.now within c.as_utf8-text.ensures.small.ascii in
    search rules
