-- Outcomes of calls that write a text with its parts, one by the other.
use Rattle.std.proofs.Common.{◌≡◌, ◌≢◌, ℕ, List, length, map, Result, Ok, Err, refl, sym, ap, ◌∙◌}
use Rattle.std.proofs.lemmas.List.{length-map}
use Rattle.std.proofs.lemmas.Simd.{map-map}
use Rattle.writeable.specs.AnnotatedText.{AnnotatedText, Interval as PartInterval}
use Rattle.writeable.specs.ListedParts.{interval_of}
use Rattle.writeable.specs.declared.part.Part.{Part}
use Rattle.legumeyet_c_values.specs.declared.intervals.Interval.{Interval}
use Rattle.legumeyet_c_values.specs.Parts.{Given, HasRoom, IsPutInParts, as_interval, given, listed_as, over, written_over}
use Rattle.legumeyet_c_values.specs.declared.call_error.CallError.{CallError}
use Rattle.legumeyet_c_values.specs.declared.call_error.CallError.TheVariants.{TooSmall}

-- the parts that a sink lists, as C has them
listed_parts : (listed : List (ℕ × ℕ × Part)) (parts : List PartInterval) → map interval_of listed ≡ parts → map listed_as listed ≡ map as_interval parts
listed_parts listed parts is = sym (map-map as_interval interval_of listed) ∙ ap (λ xs. map as_interval xs) is

-- what was written over each place, as one
pub written_is : (text : AnnotatedText) (listed : List (ℕ × ℕ × Part)) (bytes new_bytes : List ℕ) (told new_told : ℕ) (places new_places : List Interval) (count new_count : ℕ)
    → map interval_of listed ≡ text.parts → new_bytes ≡ over text.text bytes → new_told ≡ length text.text → new_places ≡ over (map listed_as listed) places
    → new_count ≡ length listed → given new_bytes new_told new_places new_count ≡ written_over text (given bytes told places count)
written_is text listed bytes new_bytes told new_told places new_places count new_count parts laid whole put counted =
    ap (λ (x : List ℕ). given x new_told new_places new_count) laid
    ∙ ap (λ (x : ℕ). given (over text.text bytes) x new_places new_count) whole
    ∙ ap (λ (x : List Interval). given (over text.text bytes) (length text.text) x new_count) (put ∙ ap (λ xs. over xs places) (listed_parts listed text.parts parts))
    ∙ ap (λ (x : ℕ). given (over text.text bytes) (length text.text) (over (map as_interval text.parts) places) x)
    (counted ∙ sym (length-map listed interval_of) ∙ ap length parts)

-- a call that is refused before it writes
pub parts_refused : (says : AnnotatedText → Type 0) (fault : CallError → Type 0) (given : Given) (error : CallError) → error ≢ TooSmall → fault error
    → IsPutInParts says fault given given (Err error)
parts_refused says fault given error other cause = record {
  whole = λ none. absurd (cc none);
  cut = λ same. absurd (other (cc same));
  refused = λ _. (cause, refl);
}

-- both have room
pub parts_whole : (says : AnnotatedText → Type 0) (fault : CallError → Type 0) (text : AnnotatedText) (before after : Given) → says text → HasRoom text before
    → after ≡ written_over text before → IsPutInParts says fault before after (Ok tt)
parts_whole says fault text before after said room is = record {
  whole = λ _. record { text = text; said = said; room = room; is = is };
  cut = λ none. absurd (cc none);
  refused = tt;
}

-- one has not
pub parts_cut : (says : AnnotatedText → Type 0) (fault : CallError → Type 0) (text : AnnotatedText) (before after : Given) → says text → ¬ (HasRoom text before)
    → after ≡ written_over text before → IsPutInParts says fault before after (Err TooSmall)
parts_cut says fault text before after said room is = record {
  whole = λ none. absurd (cc none);
  cut = λ _. record { text = text; said = said; room = room; is = is };
  refused = λ other. absurd (other refl);
}

-- what says less, with more faults
pub parts_by : {says saying : AnnotatedText → Type 0} {fault faulty : CallError → Type 0} (before after : Given) (outcome : Result (Unit {0}) CallError)
    → ((text : AnnotatedText) → says text → saying text) → ((error : CallError) → fault error → faulty error)
    → IsPutInParts says fault before after outcome → IsPutInParts saying faulty before after outcome
parts_by before after (Ok done) text cause put = record {
  whole = λ ok. let whole = put.whole ok in record { text = whole.text; said = text whole.text whole.said; room = whole.room; is = whole.is };
  cut = λ none. absurd (cc none);
  refused = tt;
}
parts_by before after (Err error) text cause put = record {
  whole = λ none. absurd (cc none);
  cut = λ same. let cut = put.cut same in record { text = cut.text; said = text cut.text cut.said; room = cut.room; is = cut.is };
  refused = λ other. let untouched = put.refused other in (cause error untouched.0, untouched.1);
}
