-- Steps of a head and entries.
use Rattle.std.proofs.Common.{◌≡◌, Bool, Option, None, sym, subst}
use Rattle.icu_locale_core_grammar.specs.Subtags.{Text}
use Rattle.icu_locale_core_grammar.specs.Stepping.{InHead, headed_after}
use Rattle.icu_locale_core_keywords_fields.specs.declared.headed.HeadedStage.{HeadedStage}
use Rattle.icu_locale_core_subtags.specs.declared.step.Step.{Step}
use Rattle.icu_locale_core_subtags.specs.declared.step.Step.TheVariants.{Refused}
use Rattle.icu_locale_core_keywords_fields.specs.HeadedView.{headed_view, ends_anywhere}
use Rattle.icu_locale_core_keywords_fields.specs.Steps.{IsStep}

module _ {H K : Type 0} (step : H → Text → Option H) (test : Text → Bool) (needs : Bool) (p : Text) (result : Step (HeadedStage H K)) where
  abbrev StepsFrom : H → Type 0
  StepsFrom head = IsStep (headed_after step ends_anywhere test needs) headed_view (InHead head) p result

  -- a head that refuses the piece stays as it was: so the step after it is the step of the whole
  pub refused_within : (before head : H) (told : Step H) → told ≡ Refused head → IsStep step (λ t. t) before p told
      → ((again : H → Text → Option H) → again head p ≡ None → IsStep (headed_after again ends_anywhere test needs) headed_view (InHead head) p result) → StepsFrom before
  refused_within before head told is taken goes_on =
      let refused : IsStep step (λ t. t) before p (Refused head) = subst (IsStep step (λ t. t) before p) is taken in
      subst StepsFrom refused.1 (goes_on step (subst (λ h. step h p ≡ None) (sym refused.1) refused.0))
