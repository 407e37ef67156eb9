-- A reading loop: what was taken so far led to the stage, and what is left comes after.
use Rattle.std.proofs.Common.{◌≡◌, ◌==◌, Bool, true, false, List, [], ◌∷◌, ◌++◌, Option, None, Some, Result, Ok, Err, length, refl, sym, ap, subst, ◌∙◌, append_assoc}
use Rattle.std.specs.Prelude.{if◌then◌else◌, MatchOption, MatchResult}
use Rattle.std.specs.Result.{result_ok}
use Rattle.icu_locale_core_grammar.specs.Subtags.{Text, is_value, is_true, lower}
use Rattle.icu_locale_core_grammar.specs.Pieces.{pieces}
use Rattle.icu_locale_core_grammar.specs.PartReaders.{listed, value_after}
use Rattle.icu_locale_core_grammar.specs.Stepping.{run, IsReader}
use Rattle.icu_locale_core_grammar.proofs.CallerLemmas.{run_more, none_left, read_whole, refused_unmeant, cut_unmeant}

pub record IsReading {S : Type 0} (step : S → Text → Option S) (start : S) (ps left : List Text) (s : S) : Type 0 where
  pub taken : List Text
  pub parts : ps ≡ taken ++ left
  pub reached : run step (Some start) taken ≡ Some s

module _ {S : Type 0} (step : S → Text → Option S) (start : S) (ps : List Text) where
  pub reading_begins : (left : List Text) (s : S) → ps ≡ left → s ≡ start → IsReading step start ps left s
  reading_begins left s same first = record { taken = []; parts = same; reached = ap (λ t. Some t) (sym first) }

  -- the list of the pieces that are left, by whatever name, has one piece less
  pub reading_goes_on : (now left : List Text) (p : Text) (s t : S) → now ≡ p ∷ left → IsReading step start ps now s → step s p ≡ Some t → IsReading step start ps left t
  reading_goes_on now left p s t cut so_far e = record {
    taken = so_far.taken ++ p ∷ [];
    parts = so_far.parts ∙ ap (λ l. so_far.taken ++ l) cut ∙ sym (append_assoc so_far.taken (p ∷ []) left);
    reached = run_more step start s t so_far.taken p so_far.reached e;
  }

module _ {S M : Type 0} {step : S → Text → Option S} {start : S} {ends : S → Option M} {Means : List Text → M → Type 0} (right : IsReader step start ends Means) (ps : List Text) where
  pub reading_meant : (left : List Text) (s : S) (m : M) → left ≡ [] → IsReading step start ps left s → ends s ≡ Some m → Means ps m
  reading_meant left s m none so_far e =
      read_whole right ps so_far.taken s m (none_left ps so_far.taken (so_far.parts ∙ ap (λ l. so_far.taken ++ l) none)) so_far.reached e

  pub reading_refused : (now left : List Text) (p : Text) (s : S) → now ≡ p ∷ left → IsReading step start ps now s → step s p ≡ None → (m : M) → Means ps m → ⊥
  reading_refused now left p s cut so_far e = refused_unmeant right ps so_far.taken left s p (so_far.parts ∙ ap (λ l. so_far.taken ++ l) cut) so_far.reached e

  pub reading_cut : (left : List Text) (s : S) → left ≡ [] → IsReading step start ps left s → ends s ≡ None → (m : M) → Means ps m → ⊥
  reading_cut left s none so_far e = cut_unmeant right ps so_far.taken s (none_left ps so_far.taken (so_far.parts ∙ ap (λ l. so_far.taken ++ l) none)) so_far.reached e

-- a text that is not empty is listed as its pieces
pub listed_filled : (text : Text) (b : Bool) (left : List Text) → b ≡ (length text == 0) → b ≡ false → left ≡ pieces text → listed text ≡ left
listed_filled [] b left e f g = cc
listed_filled (c ∷ cs) b left e f g = sym g

-- a piece that a value takes
pub was_value : (p : Text) (vs t : List Text) → value_after vs p ≡ Some t → is_value p ≡ true
was_value p vs t e = by (is_value p) refl e
  where
    by : (b : Bool) → is_value p ≡ b → (if b then Some (if is_true p then vs else vs ++ lower p ∷ []) else None) ≡ Some t → is_value p ≡ true
    by true is f = is
    by false is f = cc

-- a subtag of a rule whose normal case is lower case, its fault left out
pub read_lower : {E : Type 0} (accepts : Text → Bool) (normal : Text → Text) (fault : E) (piece : Text) (r : Result Text E) (o : Option Text)
    → ((t : Text) → normal t ≡ lower t) → o ≡ result_ok r
    → MatchResult r (λ s. (accepts piece ≡ true) × (s ≡ normal piece)) (λ e. (accepts piece ≡ false) × (e ≡ fault))
    → MatchOption o (accepts piece ≡ false) (λ s. (accepts piece ≡ true) × (s ≡ lower piece))
read_lower accepts normal fault piece (Ok s) o low is read =
    subst (λ p. MatchOption p (accepts piece ≡ false) (λ t. (accepts piece ≡ true) × (t ≡ lower piece))) (sym is) (read.0, read.1 ∙ low piece)
read_lower accepts normal fault piece (Err e) o low is read =
    subst (λ p. MatchOption p (accepts piece ≡ false) (λ t. (accepts piece ≡ true) × (t ≡ lower piece))) (sym is) read.0
