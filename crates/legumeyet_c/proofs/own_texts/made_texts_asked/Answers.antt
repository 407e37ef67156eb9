use Rattle.std.proofs.Common.{rules, ◌≡◌, true}
use Rattle.std.specs.List.{list_all}
use Rattle.icu_decimal_direct.specs.TextTables.{text_tables}
use Rattle.legumeyet_c_values.specs.Words.{is_zero}
use Rattle.legumeyet_c.specs.Kinds.{format_in}
use Rattle.legumeyet_c.specs.Opened.{opened}
use Rattle.legumeyet_c.proofs.DirectLemmas.{plainly_asked}
use Rattle.legumeyet_c.proofs.own_texts.made_texts_asked.Goals as goal

pub returns-in-Some-made_texts : goal.returns-in-Some-made_texts
returns-in-Some-made_texts c =
    let zeros : list_all is_zero c.args.words.now ≡ true = search rules in
    plainly_asked (format_in (opened c.args.content)) c.in-Some.held.now c.args.words.now (text_tables c.in-Some-made_texts.texts) c.in-Some.ensures c.in-Some-made_texts.ensures zeros
