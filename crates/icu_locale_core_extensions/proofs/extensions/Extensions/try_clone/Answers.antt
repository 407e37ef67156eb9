use Rattle.std.proofs.Common.{ap, ◌∙◌}
use Rattle.std.proofs.lemmas.Bool.{false≢true}
use Rattle.icu_locale_core_extensions.specs.ExtensionsValue.{ExtensionsValue}
use Rattle.icu_locale_core_extensions.proofs.extensions.Extensions.try_clone.Goals as goal

pub returns-in_err-unicode-clause-succeeds : goal.returns-in_err-unicode-clause-succeeds
returns-in_err-unicode-clause-succeeds c = λ none. absurd (false≢true (c.in_err-unicode.ensures.succeeds (ap (λ (e : ExtensionsValue). e.blocks.unicode) (c.self.view_is ∙ none))))

pub returns-in_err-transform-clause-succeeds : goal.returns-in_err-transform-clause-succeeds
returns-in_err-transform-clause-succeeds c = λ none. absurd (false≢true (c.in_err-transform.ensures.succeeds (ap (λ (e : ExtensionsValue). e.blocks.transform) (c.self.view_is ∙ none))))

pub returns-in_err-private-clause-succeeds : goal.returns-in_err-private-clause-succeeds
returns-in_err-private-clause-succeeds c = λ none. absurd (false≢true (c.in_err-private.ensures.succeeds (ap (λ (e : ExtensionsValue). e.own) (c.self.view_is ∙ none))))
