use Rattle.std.proofs.Common.{Ok, ap, sym}
use Rattle.legumeyet_options.proofs.categories.CategorySayer.range_category_of.Goals as goal

pub returns-in-Ok-clause-value : goal.returns-in-Ok-clause-value
returns-in-Ok-clause-value c = rw (c.in-Some.is, c.in-Some-rules.is) (ap Ok (sym c.in-Ok.ensures))
