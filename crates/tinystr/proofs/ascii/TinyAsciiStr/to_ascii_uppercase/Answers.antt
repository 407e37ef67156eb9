use Rattle.std.proofs.Common.{◌≡◌, rules, ap, ◌∙◌}
use Rattle.tinystr.specs.SmallText.{IsForm, padded}
use Rattle.tinystr.specs.Case.{uppercase}
use Rattle.tinystr.proofs.SmallTextLemmas.{IsForm-of, text_of-of}
use Rattle.tinystr.proofs.CaseLemmas.{upper_padded, IsSmall-uppercase}
use Rattle.tinystr.proofs.ascii.TinyAsciiStr.to_ascii_uppercase.Goals as goal

pub from_utf8_unchecked-requires : goal.from_utf8_unchecked-requires
from_utf8_unchecked-requires g c =
    let same : c.change.new.bytes ≡ padded g.row.N (uppercase c.args.self) =
    c.change.ensures ∙ ap uppercase c.all_bytes.ensures.value ∙ upper_padded g.row.N c.args.self in
    let small = IsSmall-uppercase g.row.N c.args.self c.all_bytes.ensures.small in
    let form : IsForm g.row.N c.change.new.bytes = IsForm-of g.row.N (uppercase c.args.self) c.change.new.bytes small same in
    search rules

pub returns : goal.returns
returns g c =
    let same : c.change.new.bytes ≡ padded g.row.N (uppercase c.args.self) =
    c.change.ensures ∙ ap uppercase c.all_bytes.ensures.value ∙ upper_padded g.row.N c.args.self in
    let small = IsSmall-uppercase g.row.N c.args.self c.all_bytes.ensures.small in
    c.from_utf8_unchecked.ensures ∙ text_of-of g.row.N (uppercase c.args.self) c.change.new.bytes small same
