use Rattle.std.proofs.Common.{[], ◌∷◌, rules}
use Rattle.locale_numbers_requests.proofs.RequestLemmas.{more_than}
use Rattle.locale_numbers_requests.proofs.pieces.two_pieces.Goals as goal

pub returns-in_default-Some-clause-two : goal.returns-in_default-Some-clause-two
returns-in_default-Some-clause-two c =
    (λ no. cc, λ two. absurd (more_than c.args.separator c.args.field.now c.in_default-Some.field-0-1.now (c.cut_field.result.0.now ∷ c.cut_field-2.result.0.now ∷ []) (search rules) two))
