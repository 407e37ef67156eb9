use Rattle.std.proofs.Common.{[], ◌∷◌, rules}
use Rattle.locale_numbers_requests.proofs.RequestLemmas.{more_than}
use Rattle.locale_numbers_requests.specs.Request.{tab}
use Rattle.locale_numbers_requests.proofs.request.six_fields.Goals as goal

pub returns-in_default-Some-clause-six : goal.returns-in_default-Some-clause-six
returns-in_default-Some-clause-six c =
    (λ no. cc, λ six. absurd (more_than tab c.args.line.now c.in_default-Some.field-0-1.now (c.cut_field.result.0.now ∷ c.cut_field-2.result.0.now ∷ c.cut_field-3.result.0.now ∷ c.cut_field-4.result.0.now ∷ c.cut_field-5.result.0.now ∷ c.cut_field-6.result.0.now ∷ []) (search rules) six))
