use Rattle.std.proofs.Common.{rules, ◌≢◌, [], sym, subst}
use Rattle.legumeyet_c_values.specs.Columns.{given_in}
use Rattle.legumeyet_c_values.specs.declared.columns.Column.{Column}
use Rattle.legumeyet_c_values.proofs.ColumnLemmas.{texts_some}
use Rattle.legumeyet_c_values.proofs.columns.Column.is_empty.Goals as goal

pub returns-in-Texts-clause-some : goal.returns-in-Texts-clause-some
returns-in-Texts-clause-some c = λ no. subst (λ (k : Column). given_in k ≢ []) (sym c.in-Texts.is) (texts_some c.in-Texts.lines.now (search rules))
