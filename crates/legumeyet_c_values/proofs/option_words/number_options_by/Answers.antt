use Rattle.std.proofs.Common.{◌∙◌, Some, ap, sym}
use Rattle.legumeyet_c_values.proofs.WordLemmas.{zeros_ask}
use Rattle.legumeyet_c_values.proofs.option_words.number_options_by.Goals as goal

pub returns-then-are_zeros : goal.returns-then-are_zeros
returns-then-are_zeros c =
    ap (λ o. Some o) c.usual_options.ensures.value ∙ sym (zeros_ask c.args.words.now (sym c.are_zeros.ensures ∙ c.if-are_zeros.true))
