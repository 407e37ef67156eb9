use Rattle.std.proofs.Common.{rules, ◌∙◌}
use Rattle.tinystr.specs.SmallText.{IsForm}
use Rattle.tinystr.proofs.SmallTextLemmas.{IsForm-of, text_of-of, front_gives_form}
use Rattle.tinystr.proofs.ascii.TinyAsciiStr.try_from_utf16.Goals as goal

pub from_utf8_unchecked-requires : goal.from_utf8_unchecked-requires
from_utf8_unchecked-requires g c =
    let form : IsForm g.row.N c.narrow.new.bytes =
    IsForm-of g.row.N c.args.code_units.now c.narrow.new.bytes c.in-Ok.ensures (front_gives_form g.row.N c.args.code_units.now c.narrow.new.bytes c.narrow.ensures) in
    search rules

pub returns-in-Ok-clause-value : goal.returns-in-Ok-clause-value
returns-in-Ok-clause-value g c =
    c.from_utf8_unchecked.ensures ∙ text_of-of g.row.N c.args.code_units.now c.narrow.new.bytes c.in-Ok.ensures (front_gives_form g.row.N c.args.code_units.now c.narrow.new.bytes c.narrow.ensures)
