use Rattle.std.proofs.Common.{◌++◌, ap, sym, ◌∙◌}
use Rattle.legumeyet_columns.proofs.PlacesLemmas.{doubled_plain}
use Rattle.legumeyet_columns.proofs.texts.put_doubled.Goals as goal

-- nothing of it is doubled
pub returns-then-not-has_quote : goal.returns-then-not-has_quote
returns-then-not-has_quote c = record {
  text = c.in_ok-extend_from_slice.ensures.items ∙ ap (λ t. c.args.out.now.items ++ t) (sym (doubled_plain c.args.text.now cc));
}
