use Rattle.std.proofs.Common.{◌≡◌, ◌∙◌, ℕ, List, Result, Ok, Err, IfOk, Some, ap, codes, refl, subst}
use Rattle.icu_locale_core.specs.Stepping.{headed_after, whole_after}
use Rattle.icu_locale_core.specs.TagStages.{with_piece, body_after}
use Rattle.locale_numbers.specs.Book.{BookTables}
use Rattle.locale_numbers.specs.Program.{Says}
use Rattle.locale_numbers.specs.RequestLaws.{HasCode, RequestsHaveCodes}
use Rattle.locale_numbers.specs.TagReading.{tag_of}
use Rattle.locale_numbers.specs.UnitLaws.{loaded}
use Rattle.locale_numbers.specs.Wanted.{wanted_of}
use Rattle.locale_numbers_rows.specs.EnglishLines.{FindsEnglishUnits, english}

english_is : wanted_of (codes "en") ≡ Some english
unfolding tag_of whole_after headed_after body_after with_piece
english_is = refl

pub finds : (text : List ℕ) (book : BookTables) → Says text book → RequestsHaveCodes → FindsEnglishUnits book
finds text book says have line asked unit tables is tag of found = record {
  preferences = english;
  tag = ap wanted_of tag ∙ english_is;
  found = found;
  texts = loaded says.0 says.2 (subst HasCode (ap (λ s. s.unit) of) (have line asked is));
}

pub if_ok : {T E : Type 0} {P Q : T → Type 0} (result : Result T E) → ((t : T) → P t → Q t) → IfOk result P → IfOk result Q
if_ok (Ok value) step holds = step value holds
if_ok (Err error) step holds = holds
