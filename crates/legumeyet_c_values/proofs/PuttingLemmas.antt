-- Outcomes of calls that write, one by the other.
use Rattle.std.proofs.Common.{◌≡◌, ◌≢◌, ℕ, ◌-◌, ◌<◌, ◌≤◌, ◌^◌, List, ◌++◌, length, take, drop, min, Result, Ok, Err, refl}
use Rattle.std.proofs.Math.Nat.{lt_of_not-le}
use Rattle.legumeyet_c_values.specs.Putting.{IsPut}
use Rattle.legumeyet_c_values.specs.declared.call_error.CallError.{CallError}
use Rattle.legumeyet_c_values.specs.declared.call_error.CallError.TheVariants.{TooSmall}

-- a call that is refused before it writes
pub put_refused : (says : List ℕ → Type 0) (fault : CallError → Type 0) (out : List ℕ) (told : ℕ) (error : CallError)
    → error ≢ TooSmall → fault error → IsPut says fault out out told told (Err error)
put_refused says fault out told error other cause = record {
  whole = λ none. absurd (cc none);
  cut = λ same. absurd (other (cc same));
  refused = λ _. record { cause = cause; bytes = refl; length = refl };
}

-- the text was written
pub put_whole : (says : List ℕ → Type 0) (fault : CallError → Type 0) (text before after : List ℕ) (was told : ℕ) → says text
    → after ≡ text ++ drop (length text) before → told ≡ length text → IsPut says fault before after was told (Ok tt)
put_whole says fault text before after was told said bytes is = record {
  whole = λ _. record { text = text; said = said; bytes = bytes; length = is };
  cut = λ none. absurd (cc none);
  refused = tt;
}

-- the text is too long
pub put_cut : (says : List ℕ → Type 0) (fault : CallError → Type 0) (text before after : List ℕ) (was told : ℕ) → says text
    → (length text ≤ length before → ⊥) → (length text < 2 ^ 64 → after ≡ take (length before) text) → told ≡ min (length text) (2 ^ 64 - 1)
    → IsPut says fault before after was told (Err TooSmall)
put_cut says fault text before after was told said long bytes is = record {
  whole = λ none. absurd (cc none);
  cut = λ _. record { text = text; said = said; longer = lt_of_not-le long; bytes = bytes; length = is };
  refused = λ other. absurd (other refl);
}

-- what says less, with more faults
pub put_by : {says saying : List ℕ → Type 0} {fault faulty : CallError → Type 0} (before after : List ℕ) (was told : ℕ) (outcome : Result (Unit {0}) CallError)
    → ((text : List ℕ) → says text → saying text) → ((error : CallError) → fault error → faulty error)
    → IsPut says fault before after was told outcome → IsPut saying faulty before after was told outcome
put_by before after was told (Ok done) text cause put = record {
  whole = λ ok. let whole = put.whole ok in
      record { text = whole.text; said = text whole.text whole.said; bytes = whole.bytes; length = whole.length };
  cut = λ none. absurd (cc none);
  refused = tt;
}
put_by before after was told (Err error) text cause put = record {
  whole = λ none. absurd (cc none);
  cut = λ same. let cut = put.cut same in
      record { text = cut.text; said = text cut.text cut.said; longer = cut.longer; bytes = cut.bytes; length = cut.length };
  refused = λ other. let untouched = put.refused other in
      record { cause = cause error untouched.cause; bytes = untouched.bytes; length = untouched.length };
}
