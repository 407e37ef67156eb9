-- The ends of a range that is asked for, and why there is none.
use Rattle.std.proofs.Common.{◌≡◌, ◌≢◌, ℕ, List, Option, Some, None, Result, Ok, Err, refl, subst, ap, sym, ◌∙◌, inl, inr}
use Rattle.locale_numbers_formatter.specs.FormatText.{FormatTables, fractions_in}
use Rattle.legumeyet_c_values.specs.Numbers.{Given}
use Rattle.legumeyet_c_values.specs.Putting.{IsPut}
use Rattle.legumeyet_c_values.specs.declared.CallError.{CallError}
use Rattle.legumeyet_c_values.specs.declared.CallError.TheVariants.{TooSmall}
use Rattle.legumeyet_c_values.proofs.NumbersLemmas.{change_fault_other}
use Rattle.legumeyet_c.specs.HeldFormats.{Plurals, Wording}
use Rattle.legumeyet_c.specs.Worded.{Ends, IsRange, IsRangeBy, IsRangeFault, IsRangeFaultBy}
use Rattle.legumeyet_c.specs.Writing.{AreEndsRefused, Asked, GivesEnds, IsWritingFault, Writes, range_asked_by}
use Rattle.legumeyet_c.proofs.AskedLemmas.{range_worded, ungiven, written}
use Rattle.legumeyet_c.proofs.WordedLemmas.{put_wording}

-- no fault of an end is that a text is too long
pub ends_other : (first second : Given) (asked : Asked) (error : CallError) → AreEndsRefused first second asked error → error ≢ TooSmall
ends_other first second asked error (inl refused) = change_fault_other asked.options (fractions_in asked.wording.tables) first error refused
ends_other first second asked error (inr later) = change_fault_other asked.options (fractions_in asked.wording.tables) second error later.refused

module _ (first second : Given) (asked : Asked) (plurals : Plurals) (known : Some plurals ≡ asked.wording.plurals) where
  -- the word of both ends
  pub range_put : (f : FormatTables) (ends : Ends) (before after : List ℕ) (was told : ℕ) (outcome : Result (Unit {0}) CallError) → f ≡ asked.wording.tables
      → GivesEnds first second asked ends → IsPut (IsRangeBy (Some plurals) f ends) (IsRangeFaultBy (Some plurals) f ends) before after was told outcome
      → IsPut (Writes IsRange (GivesEnds first second) (range_asked_by (Ok asked))) (IsWritingFault IsRangeFault (GivesEnds first second) (AreEndsRefused first second) (range_asked_by (Ok asked)))
      before after was told outcome
  range_put f ends before after was told outcome is given put =
      range_worded IsRange IsRangeFault (GivesEnds first second) (AreEndsRefused first second) asked plurals before after was told outcome known
      (written IsRange IsRangeFault (GivesEnds first second) (AreEndsRefused first second) asked ends before after was told outcome given
      (put_wording (λ p f text. IsRangeBy p f ends text) (λ p f error. IsRangeFaultBy p f ends error) asked.wording f (Some plurals) before after was told outcome is known put))

  -- an end is refused
  pub range_refused : (out : List ℕ) (told : ℕ) (error : CallError) → AreEndsRefused first second asked error
      → IsPut (Writes IsRange (GivesEnds first second) (range_asked_by (Ok asked))) (IsWritingFault IsRangeFault (GivesEnds first second) (AreEndsRefused first second) (range_asked_by (Ok asked)))
      out out told told (Err error)
  range_refused out told error refused =
      range_worded IsRange IsRangeFault (GivesEnds first second) (AreEndsRefused first second) asked plurals out out told told (Err error) known
      (ungiven IsRange IsRangeFault (GivesEnds first second) (AreEndsRefused first second) asked out told error (ends_other first second asked error refused) refused)

-- what is lent is what is held
pub lent_ends : (first second : Given) (lent asked : Asked) (ends : Ends) → lent ≡ asked → GivesEnds first second lent ends → GivesEnds first second asked ends
lent_ends first second lent asked ends is given = subst (λ (a : Asked). GivesEnds first second a ends) is given

pub lent_refused : (first second : Given) (lent asked : Asked) (error : CallError) → lent ≡ asked → AreEndsRefused first second lent error → AreEndsRefused first second asked error
lent_refused first second lent asked error is refused = subst (λ (a : Asked). AreEndsRefused first second a error) is refused
