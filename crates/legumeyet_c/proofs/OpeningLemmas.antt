-- Outcomes of calls that open, one by the other.
use Rattle.std.proofs.Common.{◌≡◌, ℕ, List, Option, Some, None, Result, Ok, Err, refl, sym, subst}
use Rattle.locale_numbers.specs.Book.{BookTables}
use Rattle.legumeyet_c_values.specs.declared.CallError.{CallError}
use Rattle.legumeyet_c_values.specs.declared.CallError.TheVariants.{Memory}
use Rattle.legumeyet_c.specs.declared.asked_format.AskedFormat.{AskedFormat}
use Rattle.legumeyet_c.specs.declared.content.Content.{Content}
use Rattle.legumeyet_c.specs.HeldFormats.{HeldFormat}
use Rattle.legumeyet_c.specs.Kinds.{format_in}
use Rattle.legumeyet_c.specs.Opening.{FindsFormat, IsFindingFault, IsOpening, IsTagFault, format_found}

-- a call that is refused before it opens
pub opening_refused : {T : Type 0} (seen : Option Content → Option T) (is_found : T → Type 0) (fault : CallError → Type 0) (handle : Option Content) (error : CallError)
    → fault error → IsOpening seen is_found fault handle handle (Err error)
opening_refused seen is_found fault handle error cause = record { opened = λ none. absurd (cc none); unkept = λ none. absurd (cc none); cause = cause; same = refl }

-- what finds more, with more faults
pub opening_by : {T : Type 0} (seen : Option Content → Option T) {finds found : T → Type 0} {fault faulty : CallError → Type 0} (before after : Option Content) (outcome : Result (Unit {0}) CallError)
    → ((x : T) → finds x → found x) → ((error : CallError) → fault error → faulty error)
    → IsOpening seen finds fault before after outcome → IsOpening seen found faulty before after outcome
opening_by seen before after (Ok done) text cause opening = record {
  opened = λ ok. let opened = opening.opened ok in (opened.0, text opened.0 opened.1, opened.2);
  unkept = opening.unkept;
  cause = tt;
  same = tt;
}
opening_by seen before after (Err error) text cause opening = record {
  opened = λ none. absurd (cc none);
  unkept = λ none. absurd (cc none);
  cause = cause error opening.cause;
  same = opening.same;
}

-- where something is found, out of memory is a fault
pub memory_misses : (book : Option BookTables) (asked : Result AskedFormat CallError) (tag : List ℕ) (held : HeldFormat) → FindsFormat book asked tag held
    → (error : CallError) → error ≡ Memory → IsFindingFault book asked tag error
memory_misses None asked tag held found error is = absurd found
memory_misses (Some book) (Err fault) tag held found error is = absurd found
memory_misses (Some book) (Ok format) tag held found error is = subst (λ (e : CallError). IsTagFault (format_found book format tag) tag e) (sym is) tt

-- the same of what is asked, which is known to be another one
pub opening_asked : (book : Option BookTables) (asked known : Result AskedFormat CallError) (tag : List ℕ) (before after : Option Content) (outcome : Result (Unit {0}) CallError)
    → asked ≡ known → IsOpening format_in (FindsFormat book asked tag) (IsFindingFault book asked tag) before after outcome
    → IsOpening format_in (FindsFormat book known tag) (IsFindingFault book known tag) before after outcome
opening_asked book asked known tag before after outcome is opening =
    subst (λ (a : Result AskedFormat CallError). IsOpening format_in (FindsFormat book a tag) (IsFindingFault book a tag) before after outcome) is opening
