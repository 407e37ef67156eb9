use Rattle.std.proofs.Common.{Option, ℕ, ap, ◌∙◌, take}
use Rattle.locale_numbers_formats.specs.Stems.{optioned, slashed_at}
use Rattle.locale_numbers_formats.proofs.PieceLemmas.{rest_of}
use Rattle.locale_numbers_formats.proofs.stems.slashed.Goals as goal

pub returns-in-None : goal.returns-in-None
returns-in-None c = ap (λ (o : Option ℕ). slashed_at o c.args.word.now) c.in-None.ensures

pub returns-in-Some : goal.returns-in-Some
returns-in-Some c =
    c.optioned.ensures
    ∙ ap (optioned (take c.in-Some.end c.args.word.now)) (rest_of c.args.word.now c.in-Some.end)
    ∙ ap (λ (o : Option ℕ). slashed_at o c.args.word.now) c.in-Some.ensures
