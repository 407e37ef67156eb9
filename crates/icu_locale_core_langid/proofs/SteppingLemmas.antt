-- The step of a language part, by what its three tests answered.
use Rattle.std.proofs.Common.{◌≡◌, Bool, true, false, List, [], ◌∷◌, ◌++◌, Option, None, Some, option_map, refl, sym, ap, ◌∙◌, append_assoc}
use Rattle.std.specs.Prelude.{if◌then◌else◌}
use Rattle.icu_locale_core_grammar.specs.Subtags.{Text, is_language}
use Rattle.icu_locale_core_grammar.specs.LanguagePart.{LanguageId}
use Rattle.icu_locale_core_grammar.specs.TagStages.{fits_script, fits_region, fits_variant, with_script, with_region, with_variant, with_piece, only_language, language_after}
use Rattle.icu_locale_core_grammar.specs.Stepping.{run}
use Rattle.icu_locale_core_grammar.proofs.CallerLemmas.{run_more}
use Rattle.icu_locale_core_langid.specs.LanguageStep.{StopsAfter, StopsWith}

pub failed : (b : Bool) (t : Text) → None ≡ (if b then Some t else None) → b ≡ false
failed true t e = cc
failed false t e = refl

pub passed : (b : Bool) (t u : Text) → Some u ≡ (if b then Some t else None) → b ≡ true
passed true t u e = refl
passed false t u e = cc

pub found : (b : Bool) (t u : Text) → Some u ≡ (if b then Some t else None) → u ≡ t
found true t u e = cc
found false t u e = cc

-- by the three tests
pub by_tests : (id : LanguageId) (p : Text) (a b c : Bool) → fits_script id p ≡ a → fits_region id p ≡ b → fits_variant id p ≡ c
    → with_piece id p ≡ (if a then Some (with_script id p) else (if b then Some (with_region id p) else (if c then Some (with_variant id p) else None)))
unfolding with_piece
by_tests id p a b c e f g = λ i. if e i then Some (with_script id p) else (if f i then Some (with_region id p) else (if g i then Some (with_variant id p) else None))

-- ---- a loop over the pieces

-- the steps took these pieces, from nothing, and reached the stage
abbrev pub TookBy : (Option LanguageId → Text → Option (Option LanguageId)) → List Text → Option LanguageId → List Text → Type 0
TookBy step ps s left = (taken : List Text) × (ps ≡ taken ++ left) × (run step (Some None) taken ≡ Some s)

pub one_more_taken : (step : Option LanguageId → Text → Option (Option LanguageId)) (ps left more : List Text) (s t : Option LanguageId) (p : Text) → TookBy step ps s left → left ≡ p ∷ more
    → step s p ≡ Some t → TookBy step ps t more
one_more_taken step ps left more s t p took first next =
    (took.0 ++ p ∷ [], took.1 ∙ ap (λ l. took.0 ++ l) first ∙ sym (append_assoc took.0 (p ∷ []) more), run_more step None s t took.0 p took.2 next)

-- the steps took these pieces from the stage `was`, and reached the stage `now`
abbrev pub TookAfter : LanguageId → List Text → LanguageId → List Text → Type 0
TookAfter was ps now left = (taken : List Text) × (ps ≡ taken ++ left) × (run language_after (Some (Some was)) taken ≡ Some (Some now))

pub one_more_after : (was now new : LanguageId) (ps left more : List Text) (p : Text) → TookAfter was ps now left → left ≡ p ∷ more
    → with_piece now p ≡ Some new → TookAfter was ps new more
one_more_after was now new ps left more p took first next = (
  took.0 ++ p ∷ [],
  took.1 ∙ ap (λ l. took.0 ++ l) first ∙ sym (append_assoc took.0 (p ∷ []) more),
  run_more language_after (Some was) (Some now) (Some new) took.0 p took.2 (ap (option_map Some) next),
)

-- after a language the steps go on from it alone
pub stops_in_front : (ps more rest : List Text) (p : Text) (was now : LanguageId) → ps ≡ p ∷ more → is_language p ≡ true → was ≡ only_language p
    → StopsAfter was more now rest → StopsWith ps (Some now) rest
stops_in_front ps more rest p was now first is alone stops = record {
  taken = p ∷ stops.taken;
  parts = first ∙ ap (λ l. p ∷ l) stops.parts;
  reached = ap (λ b. run language_after (if b then Some (Some (only_language p)) else None) stops.taken) is
      ∙ ap (λ id. run language_after (Some (Some id)) stops.taken) (sym alone) ∙ stops.reached;
  stuck = stops.stuck;
}
