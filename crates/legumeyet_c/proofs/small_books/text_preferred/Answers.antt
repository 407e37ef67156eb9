use Rattle.std.proofs.Common.{ap, ◌∙◌}
use Rattle.locale_numbers.specs.SelectedText.{selected_text}
use Rattle.locale_numbers.specs.declared.BookTexts.{BookTexts}
use Rattle.legumeyet_c.proofs.small_books.text_preferred.Goals as goal

pub returns-in-Ok-clause-value : goal.returns-in-Ok-clause-value
returns-in-Ok-clause-value c =
    ap (λ v. v.items) c.into_bytes.ensures.value
    ∙ c.in-Ok.ensures.text
    ∙ ap (λ (t : BookTexts). selected_text t c.args.preferences.now) c.texts_asked.ensures
