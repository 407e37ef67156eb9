-- The three arrays of words: `specs/Words.antt`.
use Rattle.std.proofs.Common.{◌≡◌, Bool, true, ◌||◌, Option, None, refl, sym}
use Rattle.std.specs.Prelude.{Result, Ok, Err, IfErr, OnOk}
use Rattle.std.specs.Option.{option_or}
use Rattle.std.proofs.lemmas.Bool.{or_left, or_right}
use Rattle.locale_numbers_words.specs.declared.error.WordsError.{WordsError}
use Rattle.locale_numbers_words.specs.Faults.{IsTold}
use Rattle.locale_numbers_words.proofs.FaultLemmas.{option_or_none, told_at}

module _ (a b : Bool) where
  pub or_first : a ≡ true → (a || b) ≡ true
  or_first h = or_left a b h

  pub or_last : b ≡ true → (a || b) ≡ true
  or_last h = or_right a b h

-- what the second of two arrays says, where the first one has no fault
module _ {T : Type 0} (r : Result T WordsError) (p q : Option WordsError) (none : p ≡ None) where
  pub sound_on : OnOk r (q ≡ None) → OnOk r (option_or p q ≡ None)
  sound_on = by r
    where
      by : (s : Result T WordsError) → OnOk s (q ≡ None) → OnOk s (option_or p q ≡ None)
      by (Ok x) sound = rw none sound
      by (Err f) sound = tt

  pub told_on : IfErr r (λ f. IsTold q f) → IfErr r (λ f. IsTold (option_or p q) f)
  told_on = by r
    where
      by : (s : Result T WordsError) → IfErr s (λ f. IsTold q f) → IfErr s (λ f. IsTold (option_or p q) f)
      by (Ok x) told = tt
      by (Err f) told = told_at q (option_or p q) f (sym (option_or_none p q none)) told
