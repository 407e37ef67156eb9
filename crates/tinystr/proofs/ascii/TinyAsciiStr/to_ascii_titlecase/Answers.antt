use Rattle.std.proofs.Common.{◌≡◌, rules, ap, ◌∙◌}
use Rattle.tinystr.specs.SmallText.{IsForm, padded}
use Rattle.tinystr.specs.Case.{titlecase}
use Rattle.tinystr.proofs.SmallTextLemmas.{IsForm-of, text_of-of}
use Rattle.tinystr.proofs.CaseLemmas.{title_padded, IsSmall-titlecase}
use Rattle.tinystr.proofs.ascii.TinyAsciiStr.to_ascii_titlecase.Goals as goal

pub from_utf8_unchecked-requires : goal.from_utf8_unchecked-requires
from_utf8_unchecked-requires g c =
    let same : c.make_title.new.bytes ≡ padded g.row.N (titlecase c.args.self) =
    c.make_title.ensures ∙ ap titlecase c.all_bytes.ensures.value ∙ title_padded g.row.N c.args.self in
    let small = IsSmall-titlecase g.row.N c.args.self c.all_bytes.ensures.small in
    let form : IsForm g.row.N c.make_title.new.bytes = IsForm-of g.row.N (titlecase c.args.self) c.make_title.new.bytes small same in
    search rules

pub returns : goal.returns
returns g c =
    let same : c.make_title.new.bytes ≡ padded g.row.N (titlecase c.args.self) =
    c.make_title.ensures ∙ ap titlecase c.all_bytes.ensures.value ∙ title_padded g.row.N c.args.self in
    let small = IsSmall-titlecase g.row.N c.args.self c.all_bytes.ensures.small in
    c.from_utf8_unchecked.ensures ∙ text_of-of g.row.N (titlecase c.args.self) c.make_title.new.bytes small same
