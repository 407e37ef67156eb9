use Rattle.std.proofs.Common.{rules, ◌≡◌, true}
use Rattle.std.specs.List.{list_all}
use Rattle.legumeyet_c_values.specs.Words.{is_zero}
use Rattle.legumeyet_c.specs.Kinds.{format_in}
use Rattle.legumeyet_c.specs.Opened.{opened}
use Rattle.legumeyet_c.proofs.DirectLemmas.{words_asked}
use Rattle.legumeyet_c.proofs.asking.rules_asked.Goals as goal

pub returns-in-Some-rules : goal.returns-in-Some-rules
returns-in-Some-rules c =
    let zeros : list_all is_zero c.args.words.now ≡ true = search rules in
    words_asked (format_in (opened c.args.content)) c.in-Some.held.now c.args.words.now c.in-Some-rules.rules.now c.in-Some.ensures c.in-Some-rules.ensures zeros
