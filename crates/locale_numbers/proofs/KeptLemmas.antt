-- What the formatter of a key answers is what is found for it, and where nothing is found, or a rule is missing, the word `table`.
use Rattle.std.proofs.Common.{◌≡◌, ◌⊎◌, inl, inr, ℕ, Bool, List, [], ◌∷◌, Option, Some, None, Result, Ok, Err, is_ok, is_some, true, false, true≢false, refl, ap, ap₂, ◌∙◌, slice_get, sym, subst}
use Rattle.std.specs.Map.{keys_of}
use Rattle.std.specs.Prelude.{option_map, ◌&&◌, IfSome, MatchOption}
use Rattle.fixed_decimal.specs.CompactText.{CompactValue}
use Rattle.fixed_decimal.specs.Number.{Number}
use Rattle.fixed_decimal.specs.SignedValue.{SignedValue}
use Rattle.icu_decimal.specs.Rules.{Rules}
use Rattle.icu_decimal.specs.declared.error.DataError.{DataError}
use Rattle.icu_locale_core.specs.TagPreferences.{Preferences}
use Rattle.icu_plurals.specs.declared.PluralRange.{PluralRange}
use Rattle.icu_plurals.specs.declared.PluralRuleType.{PluralRuleType}
use Rattle.locale_numbers_answers.specs.Answers.{exact_with, read_found, typed_found, written_found}
use Rattle.locale_numbers_answers.specs.CategoryAnswer.{category_found, range_found}
use Rattle.locale_numbers_answers.specs.NumberAnswer.{number_answer}
use Rattle.locale_numbers_answers.specs.NumberReading.{number, reading_of}
use Rattle.locale_numbers_answers.specs.ReadAnswer.{read_answer}
use Rattle.locale_numbers_book.specs.Book.{BookTables}
use Rattle.locale_numbers_cache.specs.Cached.{Cached, IsFirst}
use Rattle.locale_numbers_formats.specs.Changed.{changed}
use Rattle.locale_numbers_formats.specs.declared.NumberOptions.{NumberOptions}
use Rattle.locale_numbers_formats.specs.declared.Rounding.{Rounding}
use Rattle.locale_numbers_formatter.specs.FormatText.{FormatTables, HasNoUnit, compact_tables, digits_tables, fractions_in, plain_tables, scientific_tables, unit_tables}
use Rattle.locale_numbers_formatter.specs.FormatTyped.{format_typed_reading, reading_by_typed, typed_of}
use Rattle.locale_numbers_requests.specs.declared.Refusal.TheVariants as refusal
use Rattle.locale_numbers.specs.Answer.{found_for, plural_rules_for, refused, second_for}
use Rattle.locale_numbers.specs.FormatterKeys.{finds, finds_rules, rules_for}
use Rattle.locale_numbers.specs.Front.{PutsTogether, as_usual, is_as_it_is}
use Rattle.locale_numbers.specs.KeptFormatters.{IsMadeFor, IsSameFormatter, Kept, reader_is_kept, rules_found, typed_is_kept}
use Rattle.locale_numbers.specs.declared.formatter_key.FormatterKey.{FormatterKey}
use Rattle.locale_numbers.specs.declared.formatter_key.Purpose.TheVariants.{ReadsTyped, Writes}
use Rattle.locale_numbers.proofs.TextDigitsLemmas.{leaves_so}

-- the key of the first entry is the first key
pub first_key : {K F : Type 0} (cache : Cached K F) (key : K) (kept : F) → slice_get cache.entries 0 ≡ Some (key, kept) → IsFirst key cache
first_key {K = K} {F = F} cache key kept first = at cache.entries first
  where
    at : (entries : List (K × F)) → slice_get entries 0 ≡ Some (key, kept) → slice_get (keys_of entries) 0 ≡ Some key
    at [] none = cc
    at (entry ∷ entries) is = ap (option_map (λ e. e.0)) is

-- ---- where nothing is found

no_written : (found : Result FormatTables DataError) (options : NumberOptions) (value : SignedValue Number) → is_ok found ≡ false → written_found found options value ≡ refused refusal.Table
no_written (Ok format) options value none = absurd (cc)
no_written (Err error) options value none = refl

no_exact : (found : Result FormatTables DataError) (form : CompactValue) → is_ok found ≡ false → exact_with found form ≡ refused refusal.Table
no_exact (Ok format) form none = absurd (cc)
no_exact (Err error) form none = refl

no_read : (found : Result FormatTables DataError) (rounding : Rounding) (text : List ℕ) → is_ok found ≡ false → read_found found rounding text ≡ refused refusal.Table
no_read (Ok format) rounding text none = absurd (cc)
no_read (Err error) rounding text none = refl

no_typed : (found : Result FormatTables DataError) (second : FormatTables → Option FormatTables) (text : List ℕ) → is_ok found ≡ false → typed_found found second text ≡ refused refusal.Table
no_typed (Ok format) second text none = absurd (cc)
no_typed (Err error) second text none = refl

no_category : (found : Result FormatTables DataError) (there : Bool) (rules : Option (Rules × List PluralRange)) (options : NumberOptions) (value : SignedValue Number)
    → (is_ok found && there) ≡ false → (there ≡ false → rules ≡ None) → category_found found rules options value ≡ refused refusal.Table
no_category (Ok format) there rules options value missing none = ap (λ held. category_found (Ok format) held options value) (none missing)
no_category (Err error) there rules options value missing none = refl

no_range : (found : Result FormatTables DataError) (there : Bool) (rules : Option (Rules × List PluralRange)) (options : NumberOptions) (first second : SignedValue Number)
    → (is_ok found && there) ≡ false → (there ≡ false → rules ≡ None) → range_found found rules options first second ≡ refused refusal.Table
no_range (Ok format) there rules options first second missing none = ap (λ held. range_found (Ok format) held options first second) (none missing)
no_range (Err error) there rules options first second missing none = refl

-- rules that are not there
not_there : (rules : Option (Rules × List PluralRange)) → is_some rules ≡ false → rules ≡ None
not_there None missing = refl
not_there (Some held) missing = absurd (cc)

no_rules : (book : BookTables) (preferences : Preferences) (needed : Option PluralRuleType) → finds_rules book preferences needed ≡ false → rules_found book preferences needed ≡ None
no_rules book preferences None missing = absurd (cc)
no_rules book preferences (Some rule_type) missing = not_there (plural_rules_for rule_type book preferences) missing

module _ (book : BookTables) (key : FormatterKey) where
  abbrev found_by_key : Result FormatTables DataError
  found_by_key = found_for key.shape book key.preferences

  -- where no rules are needed, the tables are missing
  no_tables : (found : Result FormatTables DataError) (needed : Option PluralRuleType) → needed ≡ None → (is_ok found && finds_rules book key.preferences needed) ≡ false → is_ok found ≡ false
  no_tables (Ok format) needed ruleless none = absurd (true≢false (sym (ap (λ n. finds_rules book key.preferences n) ruleless) ∙ none))
  no_tables (Err error) needed ruleless none = refl

  pub none_written : (options : NumberOptions) (value : SignedValue Number) → rules_for key.purpose ≡ None → finds book key ≡ false → written_found found_by_key options value ≡ refused refusal.Table
  none_written options value ruleless none = no_written found_by_key options value (no_tables found_by_key (rules_for key.purpose) ruleless none)

  pub none_exact : (form : CompactValue) → rules_for key.purpose ≡ None → finds book key ≡ false → exact_with found_by_key form ≡ refused refusal.Table
  none_exact form ruleless none = no_exact found_by_key form (no_tables found_by_key (rules_for key.purpose) ruleless none)

  pub none_read : (rounding : Rounding) (text : List ℕ) → rules_for key.purpose ≡ None → finds book key ≡ false → read_found found_by_key rounding text ≡ refused refusal.Table
  none_read rounding text ruleless none = no_read found_by_key rounding text (no_tables found_by_key (rules_for key.purpose) ruleless none)

  pub none_typed : (text : List ℕ) → key.purpose ≡ ReadsTyped → finds book key ≡ false → typed_found found_by_key (second_for key.shape book key.preferences) text ≡ refused refusal.Table
  none_typed text typed none = no_typed found_by_key (second_for key.shape book key.preferences) text (no_tables found_by_key (rules_for key.purpose) (ap rules_for typed) none)

  pub none_category : (options : NumberOptions) (value : SignedValue Number) → finds book key ≡ false
      → category_found found_by_key (rules_found book key.preferences (rules_for key.purpose)) options value ≡ refused refusal.Table
  none_category options value none =
      no_category found_by_key (finds_rules book key.preferences (rules_for key.purpose)) (rules_found book key.preferences (rules_for key.purpose)) options value
      none (no_rules book key.preferences (rules_for key.purpose))

  pub none_range : (options : NumberOptions) (first second : SignedValue Number) → finds book key ≡ false
      → range_found found_by_key (rules_found book key.preferences (rules_for key.purpose)) options first second ≡ refused refusal.Table
  none_range options first second none =
      no_range found_by_key (finds_rules book key.preferences (rules_for key.purpose)) (rules_found book key.preferences (rules_for key.purpose)) options first second
      none (no_rules book key.preferences (rules_for key.purpose))

-- ---- where the formatter has what is found

module _ (book : BookTables) (key : FormatterKey) (kept : Kept) (made : IsMadeFor book key kept) where
  pub written_by : (options : NumberOptions) (value : SignedValue Number)
      → written_found (found_for key.shape book key.preferences) options value ≡ number_answer kept.formatter (changed options (fractions_in kept.formatter) value)
  written_by options value = ap (λ found. written_found found options value) made.found

  -- what it reads typed texts with is what is found in turn
  pub typed_by : key.purpose ≡ ReadsTyped → typed_of kept.formatter kept.second ≡ typed_of kept.formatter (second_for key.shape book key.preferences kept.formatter)
  typed_by typed = ap (typed_of kept.formatter) (made.second typed)

  pub typed_answer : key.purpose ≡ ReadsTyped → (text : List ℕ)
      → typed_found (found_for key.shape book key.preferences) (second_for key.shape book key.preferences) text ≡ read_answer (format_typed_reading kept.formatter kept.second text)
  typed_answer typed text =
      ap (λ found. typed_found found (second_for key.shape book key.preferences) text) made.found
      ∙ ap (λ tables. read_answer (reading_by_typed tables text)) (sym (typed_by typed))

  -- what it tells of a number, and of a range
  pub category_by : (options : NumberOptions) (value : SignedValue Number)
      → category_found (found_for key.shape book key.preferences) (rules_found book key.preferences (rules_for key.purpose)) options value ≡ category_found (Ok kept.formatter) kept.rules options value
  category_by options value = ap₂ (λ found rules. category_found found rules options value) made.found (sym made.rules)

  pub range_by : (options : NumberOptions) (first second : SignedValue Number)
      → range_found (found_for key.shape book key.preferences) (rules_found book key.preferences (rules_for key.purpose)) options first second ≡ range_found (Ok kept.formatter) kept.rules options first second
  range_by options first second = ap₂ (λ found rules. range_found found rules options first second) made.found (sym made.rules)

-- ---- made

module _ (book : BookTables) (key : FormatterKey) where
  -- one that writes
  pub made_written : (kept : Kept) → found_for key.shape book key.preferences ≡ Ok kept.formatter → key.purpose ≡ Writes → kept.rules ≡ None → IsMadeFor book key kept
  made_written kept found writes rules = record {
    found = found;
    second = λ typed. absurd (let clash : Writes ≡ ReadsTyped = sym writes ∙ typed in cc);
    rules = rules ∙ sym (ap (λ purpose. rules_found book key.preferences (rules_for purpose)) writes);
    there = ap (λ purpose. finds_rules book key.preferences (rules_for purpose)) writes;
  }

  -- one that reads what people type
  pub made_typed : (kept : Kept) → found_for key.shape book key.preferences ≡ Ok kept.formatter → key.purpose ≡ ReadsTyped → kept.second ≡ second_for key.shape book key.preferences kept.formatter → kept.rules ≡ None
      → IsMadeFor book key kept
  made_typed kept found typed second rules = record {
    found = found;
    second = λ _. second;
    rules = rules ∙ sym (ap (λ purpose. rules_found book key.preferences (rules_for purpose)) typed);
    there = ap (λ purpose. finds_rules book key.preferences (rules_for purpose)) typed;
  }

  -- one that tells categories
  pub made_ruled : (kept : Kept) (rule_type : PluralRuleType) → found_for key.shape book key.preferences ≡ Ok kept.formatter → rules_for key.purpose ≡ Some rule_type
      → kept.rules ≡ plural_rules_for rule_type book key.preferences → is_some kept.rules ≡ true → IsMadeFor book key kept
  made_ruled kept rule_type found needs rules some = record {
    found = found;
    second = λ typed. absurd (let clash : ◌≡◌ {A = Option PluralRuleType} None (Some rule_type) = sym (ap rules_for typed) ∙ needs in cc);
    rules = rules ∙ sym (ap (rules_found book key.preferences) needs);
    there = ap (finds_rules book key.preferences) needs ∙ sym (ap is_some rules) ∙ some;
  }

  pub lacks_rules : (rule_type : PluralRuleType) → rules_for key.purpose ≡ Some rule_type → plural_rules_for rule_type book key.preferences ≡ None
      → finds_rules book key.preferences (rules_for key.purpose) ≡ false
  lacks_rules rule_type needs none = ap (finds_rules book key.preferences) needs ∙ ap is_some none

  -- where its tables are found, its rules say whether it is
  pub found_by_rules : (format : FormatTables) → found_for key.shape book key.preferences ≡ Ok format → finds book key ≡ finds_rules book key.preferences (rules_for key.purpose)
  found_by_rules format found = ap (λ f. is_ok f && finds_rules book key.preferences (rules_for key.purpose)) found

  pub finds_none : (error : DataError) → found_for key.shape book key.preferences ≡ Err error → finds book key ≡ false
  finds_none error found = ap (λ f. is_ok f && finds_rules book key.preferences (rules_for key.purpose)) found

  -- so one that was made is found, and where none was made none is
  is_found : (kept : Kept) → IsMadeFor book key kept → finds book key ≡ true
  is_found kept made = found_by_rules kept.formatter made.found ∙ made.there

  pub held_is_found : (made : Option Kept) → is_some made ≡ true → IfSome made (λ kept. IsMadeFor book key kept) → true ≡ finds book key
  held_is_found None some right = absurd (cc)
  held_is_found (Some kept) some right = sym (is_found kept right)

  pub made_is_found : (made : Option Kept) → MatchOption made (finds book key ≡ false) (λ kept. IsMadeFor book key kept) → is_some made ≡ finds book key
  made_is_found None none = sym none
  made_is_found (Some kept) made = sym (is_found kept made)

  pub found_made : (made : Option Kept) → MatchOption made (finds book key ≡ false) (λ kept. IsMadeFor book key kept)
      → MatchOption made (finds book key ≡ false) (λ kept. (finds book key ≡ true) × IsMadeFor book key kept)
  found_made None none = none
  found_made (Some kept) made = (is_found kept made, made)

-- one that keeps what it reads with is still the one of its key
pub still_made : (book : BookTables) (key : FormatterKey) (old new : Kept) → IsMadeFor book key old → IsSameFormatter old new → IsMadeFor book key new
still_made book key old new made same = record {
  found = made.found ∙ ap Ok (sym same.formatter);
  second = λ typed. same.second ∙ made.second typed ∙ ap (second_for key.shape book key.preferences) (sym same.formatter);
  rules = same.rules ∙ made.rules;
  there = made.there;
}

-- one of the book as it is afterwards is one of the book before
pub made_before : (after before : BookTables) (key : FormatterKey) (kept : Kept) → after ≡ before → IsMadeFor after key kept → IsMadeFor before key kept
made_before after before key kept same made = subst (λ b. IsMadeFor b key kept) same made

-- a number as it is given is as its formatter usually shows it
pub digits_by : (book : BookTables) (key : FormatterKey) (kept : Kept) → IsMadeFor book key kept → (options : NumberOptions) → is_as_it_is (record { shape = key.shape; options = options }) ≡ true
    → (text : List ℕ) (value : SignedValue Number) → reading_of text ≡ number value → changed options (fractions_in kept.formatter) value ≡ as_usual kept.formatter value
digits_by book key kept made options plain text value reads =
    leaves_so (record { shape = key.shape; options = options }) plain book key.preferences kept.formatter made.found value text reads

-- ---- what reads is kept, or it takes no memory to put it together

no_unit_or : (format : FormatTables) (held keeps : Bool) → (held ≡ true → keeps ≡ true) → ¬ (PutsTogether held (Ok format)) → HasNoUnit format ⊎ (keeps ≡ true)
no_unit_or (plain_tables t) held keeps same none = inl tt
no_unit_or (compact_tables t) held keeps same none = inl tt
no_unit_or (digits_tables t o) held keeps same none = inl tt
no_unit_or (scientific_tables s) held keeps same none = inl tt
no_unit_or (unit_tables u) true keeps same none = inr (same refl)
no_unit_or (unit_tables u) false keeps same none = absurd (none (refl, tt))

-- what was kept for the key before is the formatter that is found
reads_kept : (before : Option Kept) (kept : Kept) → ((held : Kept) → before ≡ Some held → held ≡ kept) → reader_is_kept before ≡ true → kept.keeps_reader ≡ true
reads_kept None kept same is = absurd (cc)
reads_kept (Some held) kept same is = sym (ap (λ (k : Kept). k.keeps_reader) (same held refl)) ∙ is

reads_typed_kept : (before : Option Kept) (kept : Kept) → ((held : Kept) → before ≡ Some held → held ≡ kept) → typed_is_kept before ≡ true → kept.keeps_typed ≡ true
reads_typed_kept None kept same is = absurd (cc)
reads_typed_kept (Some held) kept same is = sym (ap (λ (k : Kept). k.keeps_typed) (same held refl)) ∙ is

module _ (found : Result FormatTables DataError) (before : Option Kept) (kept : Kept) (is : found ≡ Ok kept.formatter) (same : (held : Kept) → before ≡ Some held → held ≡ kept) where
  pub no_unit : ¬ (PutsTogether (reader_is_kept before) found) → HasNoUnit kept.formatter ⊎ (kept.keeps_reader ≡ true)
  no_unit none = no_unit_or kept.formatter (reader_is_kept before) kept.keeps_reader (reads_kept before kept same) (subst (λ f. ¬ (PutsTogether (reader_is_kept before) f)) is none)

  pub no_typed_unit : ¬ (PutsTogether (typed_is_kept before) found) → HasNoUnit kept.formatter ⊎ (kept.keeps_typed ≡ true)
  no_typed_unit none = no_unit_or kept.formatter (typed_is_kept before) kept.keeps_typed (reads_typed_kept before kept same) (subst (λ f. ¬ (PutsTogether (typed_is_kept before) f)) is none)
