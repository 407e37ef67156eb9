-- What is read and answered by what a handle has open, and faults that are not that a text is too long.
use Rattle.std.proofs.Common.{◌≡◌, ◌≢◌, ℕ, List, Option, Some, None, Result, subst}
use Rattle.icu_decimal.specs.PlainReading.{PlainReading}
use Rattle.locale_numbers.specs.Book.{BookTables}
use Rattle.legumeyet_c_values.specs.Putting.{IsPut}
use Rattle.legumeyet_c_values.specs.declared.CallError.{CallError}
use Rattle.legumeyet_c_values.specs.declared.CallError.TheVariants.{TooSmall}
use Rattle.legumeyet_c.specs.Answering.{IsAnswerFault}
use Rattle.legumeyet_c.specs.HeldFormats.{HeldFormat}
use Rattle.legumeyet_c.specs.Reading.{IsReadFault, IsUnread, SaysRead}

-- no fault of a line is that a text is too long
pub answer_fault_other : (book : Option BookTables) (error : CallError) → IsAnswerFault book error → error ≢ TooSmall
answer_fault_other None error is = λ same. absurd (cc (is, same))
answer_fault_other (Some book) error is = λ same. absurd (cc (is, same))

-- nor of a text that is read back
pub unread_other : (read : HeldFormat → List ℕ → PlainReading) (allocates : HeldFormat → List ℕ → Type 0) (held : HeldFormat) (text : List ℕ) (error : CallError)
    → IsUnread read allocates held text error → error ≢ TooSmall
unread_other read allocates held text error caused = λ same. subst (λ (e : CallError). IsUnread read allocates held text e) same caused

-- what is read by what is shown is read by what is open
pub read_open : (read : HeldFormat → List ℕ → PlainReading) (allocates : HeldFormat → List ℕ → Type 0) {shown open_format : Option HeldFormat} (text before after : List ℕ) (was told : ℕ)
    (outcome : Result (Unit {0}) CallError) → shown ≡ open_format
    → IsPut (SaysRead read shown text) (IsReadFault read allocates shown text) before after was told outcome
    → IsPut (SaysRead read open_format text) (IsReadFault read allocates open_format text) before after was told outcome
read_open read allocates text before after was told outcome is put =
    subst (λ (o : Option HeldFormat). IsPut (SaysRead read o text) (IsReadFault read allocates o text) before after was told outcome) is put
