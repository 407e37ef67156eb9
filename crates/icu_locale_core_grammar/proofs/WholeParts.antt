-- What a front and bodies must show, so that the stages of a whole are a right reader.
use Rattle.std.proofs.Common.{◌≡◌, true, false, List, Option, None, Some, Bool}
use Rattle.icu_locale_core_grammar.specs.Subtags.{Text, is_single}
use Rattle.icu_locale_core_grammar.specs.Stepping.{CanEnd, IsReader}

-- front and bodies are read right; a piece of one character belongs to neither, and nothing else opens a body or is `x`
pub record AreParts {L I B V : Type 0} (step_front : L → Text → Option L) (start : L) (front_ends : L → Option I) (MeansFront : List Text → I → Type 0)
    (step_body : B → Text → Option B) (body_ends : B → Option V) (opens : Text → Option B) (MeansBody : Text → List Text → V → Type 0) (is_x is_own : Text → Bool) : Type 0 where
  pub front : IsReader step_front start front_ends MeansFront
  pub body : (s : Text) (b : B) → opens s ≡ Some b → IsReader step_body b body_ends (MeansBody s)
  pub body_goes_on : CanEnd step_body body_ends
  pub body_begins : (b : B) → (p : Text) × (c : B) × (step_body b p ≡ Some c)
  pub opened_by : (s : Text) (ps : List Text) (v : V) → MeansBody s ps v → (b : B) × (opens s ≡ Some b)
  pub front_closed : (l : L) (p : Text) → is_single p ≡ true → step_front l p ≡ None
  pub body_closed : (b : B) (p : Text) → is_single p ≡ true → step_body b p ≡ None
  pub opens_single : (p : Text) (b : B) → opens p ≡ Some b → is_single p ≡ true
  pub opens_no_x : (p : Text) (b : B) → opens p ≡ Some b → is_x p ≡ false
  pub x_single : (p : Text) → is_x p ≡ true → is_single p ≡ true
  pub some_own : (p : Text) × (is_own p ≡ true)
