-- The five arrays of units: `specs/Units.antt`.
use Rattle.std.proofs.Common.{◌≡◌, Bool, true, ◌||◌, Option, None, refl, sym, subst}
use Rattle.std.specs.Prelude.{Result, Ok, Err, IfErr, IsErrAnd}
use Rattle.std.specs.Option.{option_or}
use Rattle.std.proofs.lemmas.Bool.{or_left, or_right}
use Rattle.locale_numbers_tables.specs.declared.BookError.{BookError}
use Rattle.locale_numbers_tables.specs.Telling.{IsTold}
use Rattle.locale_numbers_tables.proofs.FaultLemmas.{told_at, told_first}

-- one of the arrays begins so
module _ (a b c d e : Bool) where
  pub or_second : b ≡ true → (a || b || c || d || e) ≡ true
  or_second h = or_left _ e (or_left _ d (or_left _ c (or_right a b h)))

  pub or_third : c ≡ true → (a || b || c || d || e) ≡ true
  or_third h = or_left _ e (or_left _ d (or_right _ c h))

  pub or_fourth : d ≡ true → (a || b || c || d || e) ≡ true
  or_fourth h = or_left _ e (or_right _ d h)

  pub or_fifth : e ≡ true → (a || b || c || d || e) ≡ true
  or_fifth h = or_right _ e h

-- an error that is passed on
pub passed_on : {T : Type 0} (r : Result T BookError) (e : BookError) (P : BookError → Type 0) → IsErrAnd r (λ f. f ≡ e) → P e → IfErr r P
passed_on (Ok x) e P same told = tt
passed_on (Err f) e P same told = subst P (sym same) told

-- the first fault of several, after those before it are none
module _ (p c a s d : Option BookError) (e : BookError) where
  abbrev pub first_of_five : Option BookError
  first_of_five = option_or p (option_or c (option_or a (option_or s d)))

  pub told_second : p ≡ None → IsTold c e → IsTold first_of_five e
  told_second h told = told_at _ first_of_five e (rw h refl) (told_first c (option_or a (option_or s d)) e told)

  pub told_third : p ≡ None → c ≡ None → IsTold a e → IsTold first_of_five e
  told_third h i told = told_at _ first_of_five e (rw (h, i) refl) (told_first a (option_or s d) e told)

  pub told_fourth : p ≡ None → c ≡ None → a ≡ None → IsTold s e → IsTold first_of_five e
  told_fourth h i j told = told_at _ first_of_five e (rw (h, i, j) refl) (told_first s d e told)

  pub told_fifth : p ≡ None → c ≡ None → a ≡ None → s ≡ None → IsTold d e → IsTold first_of_five e
  told_fifth h i j k told = told_at _ first_of_five e (rw (h, i, j, k) refl) told

pub none_of_five : (p c a s d : Option BookError) → p ≡ None → c ≡ None → a ≡ None → s ≡ None → d ≡ None
    → option_or p (option_or c (option_or a (option_or s d))) ≡ None
none_of_five p c a s d h i j k l = rw (h, i, j, k) l
