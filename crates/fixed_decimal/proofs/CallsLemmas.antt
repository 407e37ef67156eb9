-- A call of a list that may want memory, and where a run's first text is not read.
use Rattle.std.proofs.Common.{◌≡◌, ℕ, zero, suc, ◌+◌, ◌<◌, ◌↔◌, List, [], ◌∷◌, length, get_or, drop, Result, Ok, Err, refl, ap, subst, arith, inl, inr}
use Rattle.std.specs.Prelude.{IsErrOf}
use Rattle.fixed_decimal_signed.specs.Number.{Number}
use Rattle.fixed_decimal.specs.Calls.{Makes, Run, MayGrowBy, MayGrowIn}
use Rattle.fixed_decimal.specs.RefusalNumbers.{calls_error_number}
use Rattle.fixed_decimal_signed.specs.SignedText.{ReadsSigned, ReadsLongSigned, ReadsNothing}
use Rattle.fixed_decimal_signed.specs.SignedValue.{SignedValue}
use Rattle.fixed_decimal.specs.declared.call.Call.{Call}
use Rattle.fixed_decimal.specs.declared.call.CallsError.{CallsError}
use Rattle.fixed_decimal.specs.declared.call.CallsError.TheVariants.{Parse, Write, Memory}

pub grows_here : (calls : List Call) (i : ℕ) (other : Call) (d : SignedValue Number) → i < length calls → MayGrowBy (get_or calls i other) d → MayGrowIn (drop i calls) d
grows_here [] i other d l h = absurd (omega arith)
grows_here (first ∷ calls) zero other d l h = inl h
grows_here (first ∷ calls) (suc i) other d l h = grows_here calls i other d (omega arith) h

next_one : (i : ℕ) → i + 1 ≡ suc i
next_one i = omega arith

-- what is left of the calls after one goes on from what that one makes
runs_after : (calls : List Call) (i : ℕ) (other : Call) (d next new : SignedValue Number) → i < length calls → Makes (get_or calls i other) d next → Run (drop (suc i) calls) next new → Run (drop i calls) d new
runs_after [] i other d next new l m h = absurd (omega arith)
runs_after (first ∷ calls) zero other d next new l m h = (next, (m, h))
runs_after (first ∷ calls) (suc i) other d next new l m h = runs_after calls i other d next new (omega arith) m h

grows_after : (calls : List Call) (i : ℕ) (other : Call) (d next : SignedValue Number) → i < length calls → Makes (get_or calls i other) d next → MayGrowIn (drop (suc i) calls) next → MayGrowIn (drop i calls) d
grows_after [] i other d next l m h = absurd (omega arith)
grows_after (first ∷ calls) zero other d next l m h = inr (next, (m, h))
grows_after (first ∷ calls) (suc i) other d next l m h = grows_after calls i other d next (omega arith) m h

pub runs_on : (calls : List Call) (i : ℕ) (other : Call) (d next new : SignedValue Number) → i < length calls → Makes (get_or calls i other) d next → Run (drop (i + 1) calls) next new → Run (drop i calls) d new
runs_on calls i other d next new l m h = runs_after calls i other d next new l m (subst (λ k. Run (drop k calls) next new) (next_one i) h)

pub grows_on : (calls : List Call) (i : ℕ) (other : Call) (d next : SignedValue Number) → i < length calls → Makes (get_or calls i other) d next → MayGrowIn (drop (i + 1) calls) next → MayGrowIn (drop i calls) d
grows_on calls i other d next l m h = grows_after calls i other d next l m (subst (λ k. MayGrowIn (drop k calls) next) (next_one i) h)

abbrev Answer : Type 0
Answer = Result (Unit {0}) CallsError

-- the number of a refusal, 0 of none
abbrev number_in : Answer → ℕ
number_in (Ok _) = 0
number_in (Err refused) = calls_error_number refused

-- a text that was read: no answer but `Parse` is `Parse`
pub read_not_parse : (text : List ℕ) (v : SignedValue Number) (r : Answer) → ReadsSigned text v → ¬ (number_in r ≡ 1) → IsErrOf r Parse ↔ ReadsNothing text
read_not_parse text v r h other = ((λ e. absurd (other (ap number_in e))), (λ nothing. absurd (nothing v h)))

-- a refusal of the reading is `Parse` exactly where the text spells nothing
pub refused_is_parse : (text : List ℕ) (refused : CallsError) → (refused ≡ Parse → ReadsNothing text) → ¬ (refused ≡ Write) → (refused ≡ Memory → ReadsLongSigned text)
    → IsErrOf {T = Unit {0}} {E = CallsError} (Err refused) Parse ↔ ReadsNothing text
refused_is_parse text Parse nothing w m = ((λ _. nothing refl), (λ _. refl))
refused_is_parse text Write nothing w m = absurd (w refl)
refused_is_parse text Memory nothing w m = let long = m refl in read_not_parse text long.number (Err Memory) long.reads (λ e. absurd (omega arith))
