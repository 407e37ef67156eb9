use Rattle.std.proofs.Common.{◌+◌, refl}
use Rattle.std.proofs.lemmas.List.{take_rest}
use Rattle.locale_numbers_lines.proofs.FeedLemmas.{line_found, none_found}
use Rattle.legumeyet_c_values.proofs.columns.split_line.Goals as goal

pub returns-in-Some : goal.returns-in-Some
returns-in-Some c = record { parts = line_found c.args.bytes.now _ _ c.in-Some.at c.in-Some.ensures refl (take_rest c.args.bytes.now (c.in-Some.at + 1)) }

pub returns-in-None : goal.returns-in-None
returns-in-None c = record { parts = none_found _ c.in-None.ensures }
