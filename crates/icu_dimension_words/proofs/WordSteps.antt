-- What a call answers that reads a text under words.
use Rattle.std.proofs.Common.{Bor, ◌≡◌, ◌≢◌, ◌==◌, ◌+◌, ◌<◌, ◌≤◌, ℕ, cond, List, [], ◌∷◌, ◌++◌, drop, get_or, length, Option, None, Some, Result, Ok, Err, IfNone, IfSome, add-one, refl, sym, ap, subst, ◌∙◌}
use Rattle.std.proofs.Math.ListN.{drop_of_length-le}
use Rattle.std.proofs.Math.Seq.{drop-cons}
use Rattle.std.specs.Option.{option_copied}
use Rattle.fixed_decimal.specs.Number.{Number}
use Rattle.fixed_decimal.specs.SignedValue.{SignedValue}
use Rattle.icu_decimal_symbols.specs.Symbols.{Symbols}
use Rattle.icu_decimal_plain.specs.PlainText.{Tables}
use Rattle.icu_decimal_reading.specs.DecimalOfText.{IsAnswered, decimal, not_written}
use Rattle.icu_decimal_reading.specs.declared.error.ReadError.{ReadError}
use Rattle.icu_dimension_lenient.specs.Agreement.{IsAdded, agreed_after}
use Rattle.icu_dimension_lenient.specs.LenientUnits.{back_of_some}
use Rattle.icu_dimension_lenient.proofs.AgreementSteps.{answered_as, refused_after}
use Rattle.icu_dimension_lenient.proofs.EndLemmas.{back_some, front_some}
use Rattle.icu_dimension_lenient.proofs.TypedUnitLemmas.{between_again}
use Rattle.icu_dimension_words.specs.Words.{Pair}
use Rattle.icu_dimension_words.specs.WordsLaws.{digit_alone}
use Rattle.icu_dimension_words.specs.WordsText.{between}
use Rattle.icu_dimension_words.specs.LenientWords.{LenientWords, folded_ways, read_inner, read_number, read_word, typed_words_reading}
use Rattle.icu_dimension_words.specs.TypedWords.{TypedWord}
use Rattle.icu_dimension_words.specs.WordReadings.{inner_of}

-- ---- what is between a pair

pub inner_there : (pair : Pair) (inner : List ℕ) → inner_of pair (between pair inner) ≡ Some inner
inner_there pair inner = ap (back_of_some pair.after) (front_some pair.before (inner ++ pair.after)) ∙ back_some pair.after inner

pub inner_again : (pair : Pair) (text inner : List ℕ) → inner_of pair text ≡ Some inner → between pair inner ≡ text
inner_again pair text inner is = between_again (record { before = pair.before; after = pair.after }) text inner is

pub inner_is : (r : Option (Bor (List ℕ))) (before after text : List ℕ) (pair : Pair) → before ≡ pair.before → after ≡ pair.after
    → IfSome r (λ x. text ≡ before ++ (x.now ++ after)) → IfNone r ((inner : List ℕ) → text ≢ before ++ (inner ++ after)) → option_copied r ≡ inner_of pair text
inner_is (Some x) before after text pair front back some none =
    sym (ap (inner_of pair) (some ∙ ap (λ b. b ++ (x.now ++ after)) front ∙ ap (λ a. pair.before ++ (x.now ++ a)) back) ∙ inner_there pair x.now)
inner_is None before after text pair front back some none = by (inner_of pair text) refl
  where
    by : (o : Option (List ℕ)) → inner_of pair text ≡ o → None ≡ inner_of pair text
    by None is = sym is
    by (Some inner) is =
        absurd (none inner (sym (ap (λ b. b ++ (inner ++ after)) front ∙ ap (λ a. pair.before ++ (inner ++ a)) back ∙ inner_again pair text inner is)))

-- ---- what is read of it

pub number_read : (r : Result (SignedValue Number) ReadError) (folded : Symbols) (pair : Pair) (number : Option ℕ) (inner : List ℕ)
    → None ≡ number → IsAnswered r (read_number folded pair inner) → IsAnswered r (read_inner folded pair number (Some inner))
number_read r folded pair number inner is answered = subst (λ o. IsAnswered r (read_inner folded pair o (Some inner))) is answered

pub named_read : (r : Result (SignedValue Number) ReadError) (folded : Symbols) (pair : Pair) (number : Option ℕ) (n : ℕ) (inner : List ℕ)
    → Some n ≡ number → IsAnswered r (cond (length inner == 0) (decimal (digit_alone n)) not_written) → IsAnswered r (read_inner folded pair number (Some inner))
named_read r folded pair number n inner is answered = subst (λ o. IsAnswered r (read_inner folded pair o (Some inner))) is answered

pub inner_read : (r : Result (SignedValue Number) ReadError) (folded : Symbols) (text : List ℕ) (w : TypedWord) (inner : List ℕ)
    → Some inner ≡ inner_of w.pair text → IsAnswered r (read_inner folded w.pair w.number (Some inner)) → IsAnswered r (read_word folded text w)
inner_read r folded text w inner is answered = subst (λ o. IsAnswered r (read_inner folded w.pair w.number o)) is answered

pub inner_missing : (folded : Symbols) (text : List ℕ) (w : TypedWord) → None ≡ inner_of w.pair text → read_word folded text w ≡ not_written
inner_missing folded text w none = sym (ap (read_inner folded w.pair w.number) none)

-- by the tables that a reader has
pub kept_answers : (a : LenientWords) (kept : Tables) (text : List ℕ) (r : Result (SignedValue Number) ReadError)
    → kept ≡ a.settings.tables → IsAnswered r (typed_words_reading kept a.typed text) → IsAnswered r (typed_words_reading a.settings.tables a.typed text)
kept_answers a kept text r same answered = subst (λ t. IsAnswered r (typed_words_reading t a.typed text)) same answered

-- ---- one way after another

module _ (folded : Symbols) (words : List TypedWord) (text : List ℕ) where
  next_way : (i : ℕ) (w : TypedWord) → i < length words → w ≡ get_or words i w → folded_ways folded (drop i words) text ≡ read_word folded text w ∷ folded_ways folded (drop (i + 1) words) text
  next_way i w within is =
      let step : drop i words ≡ get_or words i w ∷ drop (i + 1) words = rw (add-one, drop-cons words i w) refl in
      ap (λ ws. folded_ways folded ws text) step ∙ ap (λ x. read_word folded text x ∷ folded_ways folded (drop (i + 1) words) text) (sym is)

  -- what is found so far, and the ways that are left
  abbrev pub AreLeft : Option (SignedValue Number) → Option (SignedValue Number) → ℕ → Type 0
  AreLeft first found i = agreed_after first (folded_ways folded words text) ≡ agreed_after found (folded_ways folded (drop i words) text)

  pub way_added : (i : ℕ) (w : TypedWord) (first found next : Option (SignedValue Number)) → i < length words → w ≡ get_or words i w → AreLeft first found i
      → IsAdded (Ok next) found (read_word folded text w) (folded_ways folded (drop (i + 1) words) text) → AreLeft first next (i + 1)
  way_added i w first found next within is left added = left ∙ ap (agreed_after found) (next_way i w within is) ∙ added

  pub way_refused : (i : ℕ) (w : TypedWord) (first found : Option (SignedValue Number)) (e : ReadError) → i < length words → w ≡ get_or words i w → AreLeft first found i
      → IsAdded (Err e) found (read_word folded text w) (folded_ways folded (drop (i + 1) words) text) → IsAnswered (Err e) (agreed_after first (folded_ways folded words text))
  way_refused i w first found e within is left added =
      answered_as (Err e) _ _ (left ∙ ap (agreed_after found) (next_way i w within is)) (refused_after e found (read_word folded text w) (folded_ways folded (drop (i + 1) words) text) added)

  pub ways_end : (i : ℕ) (first found : Option (SignedValue Number)) (r : Result (SignedValue Number) ReadError) → length words ≤ i → AreLeft first found i
      → IsAnswered r (agreed_after found []) → IsAnswered r (agreed_after first (folded_ways folded words text))
  ways_end i first found r past left answered =
      answered_as r _ _ (left ∙ ap (λ ws. agreed_after found (folded_ways folded ws text)) (drop_of_length-le words past)) answered
