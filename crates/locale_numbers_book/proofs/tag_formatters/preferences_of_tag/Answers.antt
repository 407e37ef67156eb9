use Rattle.std.proofs.Common.{subst, sym}
use Rattle.std.proofs.lemmas.Bool.{false≢true}
use Rattle.icu_locale_core.specs.Pieces.{pieces}
use Rattle.icu_locale_core.specs.SingleVariant.{MeansSingle}
use Rattle.locale_numbers_book.proofs.tag_formatters.preferences_of_tag.Goals as goal

pub returns-in-Err-clause-single : goal.returns-in-Err-clause-single
returns-in-Err-clause-single c = λ m means _.
    false≢true (c.in-Err.ensures.single m (subst (λ text. MeansSingle (pieces text) m) (sym c.as_bytes.ensures.value) means))
