-- Both arrays: `specs/Plurals.antt`.
use Rattle.std.proofs.Common.{◌≡◌, Bool, true, ◌||◌, Option, None, refl}
use Rattle.std.specs.Option.{option_or}
use Rattle.std.proofs.lemmas.Bool.{or_left, or_right}
use Rattle.locale_numbers_faults.specs.declared.BookError.{BookError}
use Rattle.locale_numbers_tables.specs.Telling.{IsTold}
use Rattle.locale_numbers_tables.proofs.FaultLemmas.{told_at}

pub or_first : (a b : Bool) → a ≡ true → (a || b) ≡ true
or_first a b h = or_left a b h

pub or_second : (a b : Bool) → b ≡ true → (a || b) ≡ true
or_second a b h = or_right a b h

-- the fault of the second array, after the first has none
pub told_second : (a b : Option BookError) (e : BookError) → a ≡ None → IsTold b e → IsTold (option_or a b) e
told_second a b e none told = told_at b (option_or a b) e (rw none refl) told

pub none_of_both : (a b : Option BookError) → a ≡ None → b ≡ None → option_or a b ≡ None
none_of_both a b h i = rw h i
