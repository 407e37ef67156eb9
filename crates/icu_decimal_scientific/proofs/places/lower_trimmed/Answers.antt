use Rattle.std.proofs.Common.{◌-◌, ◌∙◌, ap, max}
use Rattle.icu_decimal_scientific.proofs.ProductLemmas.{trimmed_low}
use Rattle.icu_decimal_scientific.proofs.places.lower_trimmed.Goals as goal

pub lower-requires : goal.lower-requires
lower-requires c = trimmed_low c.args.number.now c.trim_end.new.self c.args.by c.trim_end.ensures c.requires.whole c.requires.by

pub returns-clause-count : goal.returns-clause-count
returns-clause-count c = c.lower.ensures.count ∙ c.trim_end.ensures.count

pub returns-clause-high : goal.returns-clause-high
returns-clause-high c = c.lower.ensures.high ∙ ap (λ k. max 32768 (k - c.args.by)) c.trim_end.ensures.high
