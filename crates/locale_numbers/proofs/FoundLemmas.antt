-- What is found, by the formatter that was made.
use Rattle.std.proofs.Common.{◌≡◌, Result, Ok, Err, subst, sym, ap, ◌∙◌}
use Rattle.icu_decimal.specs.declared.error.DataError.{DataError}

abbrev made_or : {T : Type 0} → T → Result T DataError → T
made_or other (Ok tables) = tables
made_or other (Err error) = other

-- the tables of a formatter are those found
pub found_are : {T : Type 0} (P : T → Type 0) (found : Result T DataError) (made tables : T) → found ≡ Ok made → found ≡ Ok tables → P made → P tables
found_are P found made tables one other held = subst P (ap (made_or made) (sym one ∙ other)) held

-- where none was made, none are found
pub none_found : {T : Type 0} (P : T → Type 0) (found : Result T DataError) (error : DataError) (tables : T) → found ≡ Err error → found ≡ Ok tables → P tables
none_found P found error tables one other = absurd (cc)
