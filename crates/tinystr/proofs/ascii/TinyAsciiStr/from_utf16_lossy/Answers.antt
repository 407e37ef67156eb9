use Rattle.std.proofs.Common.{map, take, rules, ◌∙◌}
use Rattle.tinystr.specs.SmallText.{IsForm}
use Rattle.tinystr.specs.Lossy.{kept_or_replacement}
use Rattle.tinystr.proofs.SmallTextLemmas.{IsForm-of, text_of-of}
use Rattle.tinystr.proofs.LossyLemmas.{IsSmall-lossy, first_units, lossy_written}
use Rattle.tinystr.proofs.ascii.TinyAsciiStr.from_utf16_lossy.Goals as goal

pub from_utf8_unchecked-requires : goal.from_utf8_unchecked-requires
from_utf8_unchecked-requires g c =
    let same = first_units g.row.N c.min.result c.args.code_units.now c.min.ensures in
    let form : IsForm g.row.N c.put_lossy_utf16.new.bytes =
    IsForm-of g.row.N (map (kept_or_replacement c.args.replacement) (take g.row.N c.args.code_units.now)) c.put_lossy_utf16.new.bytes
    (IsSmall-lossy g.row.N c.args.replacement c.args.code_units.now c.requires)
    (lossy_written g.row.N c.min.result c.args.replacement c.args.code_units.now c.put_lossy_utf16.new.bytes same c.put_lossy_utf16.ensures) in
    search rules

pub returns : goal.returns
returns g c =
    let same = first_units g.row.N c.min.result c.args.code_units.now c.min.ensures in
    c.from_utf8_unchecked.ensures ∙
    text_of-of g.row.N (map (kept_or_replacement c.args.replacement) (take g.row.N c.args.code_units.now)) c.put_lossy_utf16.new.bytes
    (IsSmall-lossy g.row.N c.args.replacement c.args.code_units.now c.requires)
    (lossy_written g.row.N c.min.result c.args.replacement c.args.code_units.now c.put_lossy_utf16.new.bytes same c.put_lossy_utf16.ensures)
