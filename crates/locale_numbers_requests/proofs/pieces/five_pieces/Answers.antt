use Rattle.std.proofs.Common.{[], ◌∷◌, rules}
use Rattle.locale_numbers_requests.proofs.RequestLemmas.{more_than}
use Rattle.locale_numbers_requests.proofs.pieces.five_pieces.Goals as goal

pub returns-in_default-Some-clause-five : goal.returns-in_default-Some-clause-five
returns-in_default-Some-clause-five c =
    (λ no. cc, λ five. absurd (more_than c.args.separator c.args.field.now c.in_default-Some.field-0-1.now (c.cut_field.result.0.now ∷ c.cut_field-2.result.0.now ∷ c.cut_field-3.result.0.now ∷ c.cut_field-4.result.0.now ∷ c.cut_field-5.result.0.now ∷ []) (search rules) five))
