-- What a call that writes a text leaves in the bytes of its caller.
-- Defined in include/legumeyet.h, and docs/annotated-text.md, "Bytes of the caller's".
-- Cited by the exports that write a text.
use Rattle.std.specs.Prelude.{◌≡◌, ◌≢◌, ℕ, ℤ, ◌<◌, ◌-◌, ◌^◌, ◌++◌, min, List, length, take, drop, Result, IsOk, IfErr, IsErrOf}
use Rattle.legumeyet_c_values.specs.CallErrors.{status_of}
use Rattle.legumeyet_c_values.specs.declared.call_error.CallError.{CallError}
use Rattle.legumeyet_c_values.specs.declared.call_error.CallError.TheVariants.{TooSmall}

-- the text is at the front, and after it what was there
pub record IsWhole (says : List ℕ → Type 0) (before after : List ℕ) (told : ℕ) : Type 0 where
  pub text : List ℕ
  pub said : says text
  pub bytes : after ≡ text ++ drop (length text) before
  pub length : told ≡ length text

-- the text is longer than the bytes, which are its first ones
pub record IsCut (says : List ℕ → Type 0) (before after : List ℕ) (told : ℕ) : Type 0 where
  pub text : List ℕ
  pub said : says text
  pub longer : length before < length text
  pub bytes : length text < 2 ^ 64 → after ≡ take (length before) text
  pub length : told ≡ min (length text) (2 ^ 64 - 1)

-- nothing was written
pub record IsUntouched (fault : Type 0) (before after : List ℕ) (was told : ℕ) : Type 0 where
  pub cause : fault
  pub bytes : after ≡ before
  pub length : told ≡ was

-- the three outcomes: a text that is said, one that is too long, or a fault
pub record IsPut (says : List ℕ → Type 0) (fault : CallError → Type 0) (before after : List ℕ) (was told : ℕ) (outcome : Result (Unit {0}) CallError) : Type 0 where
  pub whole : IsOk outcome → IsWhole says before after told
  pub cut : IsErrOf outcome TooSmall → IsCut says before after told
  pub refused : IfErr outcome (λ error. error ≢ TooSmall → IsUntouched (fault error) before after was told)

-- a call answers the number of an outcome of which this holds
pub record Answers (holds : Result (Unit {0}) CallError → Type 0) (status : ℤ) : Type 0 where
  pub outcome : Result (Unit {0}) CallError
  pub number : status ≡ status_of outcome
  pub held : holds outcome
