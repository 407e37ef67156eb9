-- What is read of a typed text with words is a spelling of that decimal, and never unreadable.
use Rattle.std.proofs.Common.{◌≡◌, ◌⊎◌, inl, inr, ◌==◌, ℕ, Bool, true, false, cond, List, [], ◌∷◌, length, Option, None, Some, refl, sym, ap, subst, ◌∙◌, arith}
use Rattle.std.proofs.lemmas.Bool.{and_parts, eqb-true, false≢true}
use Rattle.std.specs.Str.{trim}
use Rattle.fixed_decimal.specs.Number.{Number}
use Rattle.fixed_decimal.specs.SignedValue.{SignedValue}
use Rattle.icu_decimal_symbols.specs.declared.options.GroupingStrategy.TheVariants.{Never, Always}
use Rattle.icu_decimal_symbols.specs.Symbols.{Symbols}
use Rattle.icu_decimal_plain.specs.PlainText.{Tables}
use Rattle.icu_decimal_reading.specs.DecimalOfText.{PlainReading, decimal, not_written, unreadable}
use Rattle.icu_decimal_reading.specs.PlainReading.{plain_reading}
use Rattle.icu_decimal_reading.specs.Readable.{is_readable_by}
use Rattle.icu_decimal_reading.specs.ReadingLaws.{AreTables}
use Rattle.icu_decimal_reading.proofs.LawLemmas.{plain_found, unreadable_is}
use Rattle.icu_decimal_lenient.specs.Folding.{folded_symbols, folded_tables}
use Rattle.icu_decimal_lenient.specs.LenientReading.{IsGroupedText, IsTypedText, IsUnreadable, filled_text, is_leniently_readable_by, lenient_reading, read_either, trimmed_fold, with_folded}
use Rattle.icu_decimal_lenient.proofs.FoldingLemmas.{are_folded}
use Rattle.icu_decimal_lenient.proofs.LenientLemmas.{else_readable, from_else, lenient_is_typed, lenient_is_unreadable}
use Rattle.icu_decimal_lenient.proofs.TypedLemmas.{from_takes}
use Rattle.icu_dimension_lenient.specs.Agreement.{DoDiffer, IsOneOf, agreed_reading, is_no_other}
use Rattle.icu_dimension_lenient.proofs.TypedUnitLemmas.{all_agree, none_or_two, same_decimal}
use Rattle.icu_dimension_words.specs.Words.{Pair}
use Rattle.icu_dimension_words.specs.WordsLaws.{digit_alone}
use Rattle.icu_dimension_words.specs.WordsText.{between}
use Rattle.icu_dimension_words.specs.LenientWords.{folded_ways, read_inner, read_number, read_word, word_ways}
use Rattle.icu_dimension_words.specs.TypedWords.{TypedWord}
use Rattle.icu_dimension_words.specs.WordReadings.{inner_of}
use Rattle.icu_dimension_words.specs.WordSpellings.{IsBetween, IsFoldedSpelling, IsSpelledBy, IsTypedInner}
use Rattle.icu_dimension_words.proofs.WordSteps.{inner_again}

no_missing : (v : SignedValue Number) → not_written ≡ decimal v → ⊥
no_missing v e = cc

no_unreadable : (v : SignedValue Number) → unreadable ≡ decimal v → ⊥
no_unreadable v e = cc

missing_apart : not_written ≡ unreadable → ⊥
missing_apart e = cc

nothing_is : (xs : List ℕ) → (length xs == 0) ≡ true → xs ≡ []
nothing_is [] e = refl
nothing_is (x ∷ xs) e = let none : length (x ∷ xs) ≡ 0 = eqb-true (length (x ∷ xs)) 0 e in absurd (omega arith)

-- ---- spellings

module _ (t : Tables) (are : AreTables t) where
  abbrev folded : Symbols
  folded = folded_symbols t

  from_either : (text : List ℕ) (v : SignedValue Number) → read_either folded text ≡ decimal v → IsGroupedText folded text v
  from_either text v e = by (from_else v (plain_reading (folded_tables Never t) text) (plain_reading (folded_tables Always t) text) e)
    where
      by : (plain_reading (folded_tables Never t) text ≡ decimal v) ⊎ (plain_reading (folded_tables Always t) text ≡ decimal v) → IsGroupedText folded text v
      by (inl is) = inl (plain_found (folded_tables Never t) text v (are_folded t Never are) is)
      by (inr is) = inr (plain_found (folded_tables Always t) text v (are_folded t Always are) is)

  abbrev full : List ℕ → List ℕ
  full inner = filled_text folded.strings.decimal_separator (trim inner)

  number_is : (pair : Pair) (inner : List ℕ) (v : SignedValue Number) → read_number folded pair inner ≡ decimal v → IsTypedInner folded pair (trim inner) v
  number_is pair inner v e = by (from_else v (read_either folded (trim inner)) (cond (length pair.before == 0) (read_either folded (full inner)) not_written) e)
    where
      by : (read_either folded (trim inner) ≡ decimal v) ⊎ (cond (length pair.before == 0) (read_either folded (full inner)) not_written ≡ decimal v) → IsTypedInner folded pair (trim inner) v
      by (inl is) = inl (from_either (trim inner) v is)
      by (inr is) =
          let parts = from_takes (length pair.before == 0) (read_either folded (full inner)) v is in
          inr (nothing_is pair.before parts.0, from_either (full inner) v parts.1)

  inner_spelled : (pair : Pair) (number : Option ℕ) (text : List ℕ) (v : SignedValue Number) (o : Option (List ℕ)) → inner_of pair text ≡ o → read_inner folded pair number o ≡ decimal v → IsSpelledBy folded text v pair number
  inner_spelled pair number text v None is e = absurd (no_missing v e)
  inner_spelled pair None text v (Some inner) is e = record { inner = inner; between = inner_again pair text inner is; number = number_is pair inner v e }
  inner_spelled pair (Some n) text v (Some inner) is e =
      let parts = from_takes (length inner == 0) (decimal (digit_alone n)) v e in
      (ap (between pair) (sym (nothing_is inner parts.0)) ∙ inner_again pair text inner is, sym (same_decimal (digit_alone n) v parts.1))

  spelled : (words : List TypedWord) (text : List ℕ) (v : SignedValue Number) → IsOneOf (folded_ways folded words text) v → IsFoldedSpelling folded words text v
  spelled [] text v is = absurd is
  spelled (w ∷ ws) text v (inl is) = inl (inner_spelled w.pair w.number text v (inner_of w.pair text) refl is)
  spelled (w ∷ ws) text v (inr is) = inr (spelled ws text v is)

  pub way_is_typed : (words : List TypedWord) (text : List ℕ) (v : SignedValue Number) → IsOneOf (word_ways t words text) v → IsTypedText t text v ⊎ IsFoldedSpelling folded words (trimmed_fold t text) v
  way_is_typed words text v (inl is) = inl (lenient_is_typed t text v are is)
  way_is_typed words text v (inr is) = inr (spelled words (trimmed_fold t text) v is)

-- ---- readings that are not unreadable

abbrev AreRead : List PlainReading → Type 0
AreRead [] = Unit {0}
AreRead (r ∷ rs) = (r ≡ unreadable → ⊥) × AreRead rs

unless_read : (v : SignedValue Number) (b : Bool) → cond b (decimal v) not_written ≡ unreadable → ⊥
unless_read v true e = no_unreadable v (sym e)
unless_read v false e = missing_apart e

cond_read : (b : Bool) (r : PlainReading) → (r ≡ unreadable → ⊥) → cond b r not_written ≡ unreadable → ⊥
cond_read true r read e = read e
cond_read false r read e = missing_apart e

agreed_read : (rs : List PlainReading) → AreRead rs → agreed_reading rs ≡ unreadable → ⊥
agreed_read [] read e = missing_apart e
agreed_read (unreadable ∷ rs) read e = read.0 refl
agreed_read (not_written ∷ rs) read e = agreed_read rs read.1 e
agreed_read (decimal v ∷ rs) read e = unless_read v _ e

-- what one way reads and none reads as another decimal
agreed_is : (rs : List PlainReading) (v : SignedValue Number) → AreRead rs → IsOneOf rs v → ((w : SignedValue Number) → IsOneOf rs w → w ≡ v) → agreed_reading rs ≡ decimal v
agreed_is rs v read one same = by (agreed_reading rs) refl
  where
    two : ((w : SignedValue Number) → ¬ (IsOneOf rs w)) ⊎ DoDiffer rs → agreed_reading rs ≡ decimal v
    two (inl none) = absurd (none v one)
    two (inr differ) = absurd (differ.differ (same differ.one differ.first ∙ sym (same differ.two differ.second)))

    by : (r : PlainReading) → agreed_reading rs ≡ r → agreed_reading rs ≡ decimal v
    by unreadable e = absurd (agreed_read rs read e)
    by not_written e = two (none_or_two rs e)
    by (decimal w) e = e ∙ ap decimal (sym (all_agree rs w v e one))

either_read : (symbols : Symbols) (text : List ℕ) → is_readable_by (with_folded Never symbols) ≡ true → read_either symbols text ≡ unreadable → ⊥
either_read symbols text readable =
    else_readable (plain_reading (with_folded Never symbols) text) (plain_reading (with_folded Always symbols) text)
    (λ e. false≢true (sym (unreadable_is (with_folded Never symbols) text e) ∙ readable))
    (λ e. false≢true (sym (unreadable_is (with_folded Always symbols) text e) ∙ readable))

inner_read : (symbols : Symbols) (pair : Pair) (number : Option ℕ) (o : Option (List ℕ)) → is_readable_by (with_folded Never symbols) ≡ true → read_inner symbols pair number o ≡ unreadable → ⊥
inner_read symbols pair number None readable e = missing_apart e
inner_read symbols pair None (Some inner) readable e =
    let full : List ℕ = filled_text symbols.strings.decimal_separator (trim inner) in
    else_readable (read_either symbols (trim inner)) (cond (length pair.before == 0) (read_either symbols full) not_written) (either_read symbols (trim inner) readable)
    (cond_read (length pair.before == 0) (read_either symbols full) (either_read symbols full readable)) e
inner_read symbols pair (Some n) (Some inner) readable e = unless_read (digit_alone n) (length inner == 0) e

words_read : (symbols : Symbols) (words : List TypedWord) (text : List ℕ) → is_readable_by (with_folded Never symbols) ≡ true → AreRead (folded_ways symbols words text)
words_read symbols [] text readable = tt
words_read symbols (w ∷ ws) text readable = (inner_read symbols w.pair w.number (inner_of w.pair text) readable, words_read symbols ws text readable)

ways_read : (t : Tables) (words : List TypedWord) (text : List ℕ) → is_leniently_readable_by t ≡ true → AreRead (word_ways t words text)
ways_read t words text readable = (plain, words_read (folded_symbols t) words (trimmed_fold t text) parts.1)
  where
    parts : (is_readable_by t ≡ true) × (is_readable_by (with_folded Never (folded_symbols t)) ≡ true)
    parts = and_parts (is_readable_by t) (is_readable_by (with_folded Never (folded_symbols t))) readable

    by : IsUnreadable t text → ⊥
    by (inl lacks) = false≢true (sym lacks ∙ parts.0)
    by (inr lacks) = false≢true (sym lacks.0 ∙ readable)

    plain : lenient_reading t text ≡ unreadable → ⊥
    plain e = by ((lenient_is_unreadable t text).0 e)

pub ways_never : (t : Tables) (words : List TypedWord) (text : List ℕ) → is_leniently_readable_by t ≡ true → agreed_reading (word_ways t words text) ≡ unreadable → ⊥
ways_never t words text readable = agreed_read (word_ways t words text) (ways_read t words text readable)

pub ways_agreed : (t : Tables) (words : List TypedWord) (text : List ℕ) (v : SignedValue Number) → is_leniently_readable_by t ≡ true → IsOneOf (word_ways t words text) v
    → ((w : SignedValue Number) → IsOneOf (word_ways t words text) w → w ≡ v) → agreed_reading (word_ways t words text) ≡ decimal v
ways_agreed t words text v readable one same = agreed_is (word_ways t words text) v (ways_read t words text readable) one same
