use Rattle.std.proofs.Common.{◌∙◌}
use Rattle.legumeyet_columns.proofs.PlacesLemmas.{quote_search}
use Rattle.legumeyet_columns.proofs.dialect.has_quote.Goals as goal

pub returns : goal.returns
returns c = record { value = c.is_some.ensures ∙ quote_search c.args.bytes.now c.memchr.result c.memchr.ensures }
