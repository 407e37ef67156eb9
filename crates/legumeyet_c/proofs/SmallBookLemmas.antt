-- What is found in the book that a text says, and in the small book of a tag: `specs/SmallBooks.antt`.
use Rattle.std.proofs.Common.{◌≡◌, ◌⊎◌, ℕ, Bool, true, false, ◌&&◌, not, List, [], Option, Some, None, Result, Ok, Err, if◌then◌else◌, inl, inr, refl, sym, ap, ap₂, ◌∙◌, subst}
use Rattle.std.specs.Prelude.{is_some, option_and_then}
use Rattle.std.specs.Result.{result_map_both, result_ok}
use Rattle.std.specs.Str.{bytes_eq}
use Rattle.std.proofs.lemmas.Option.{same_Some}
use Rattle.serde_json.specs.Data.{Data}
use Rattle.icu_decimal.specs.Folding.{plain_digits}
use Rattle.icu_decimal.specs.PlainText.{Tables}
use Rattle.icu_decimal.specs.declared.error.DataError.{DataError}
use Rattle.icu_decimal.specs.declared.options.GroupingStrategy.{GroupingStrategy}
use Rattle.icu_locale_core.specs.TagPreferences.{Preferences}
use Rattle.icu_plurals.specs.declared.PluralRuleType.{PluralRuleType}
use Rattle.locale_numbers.specs.Book.{BookTables, IsBook}
use Rattle.locale_numbers.specs.BookForm.{book_fault}
use Rattle.locale_numbers.specs.BookLaws.{IsOneBook}
use Rattle.locale_numbers.specs.BookRefusal.{IsRefused}
use Rattle.locale_numbers.specs.FoundFormats.{amounts_by, beside_second, both_found, found_for, in_latin, mapped, notation_found, second_for}
use Rattle.locale_numbers.specs.Json.{Reads}
use Rattle.locale_numbers.specs.SelectedText.{selected_text}
use Rattle.locale_numbers.specs.Selection.{SelectedBooksHaveTheFormatters, asks_units, selected}
use Rattle.locale_numbers.specs.TagFormatters.{found_by, found_plain, or_no_table}
use Rattle.locale_numbers.specs.Wanted.{wanted_of}
use Rattle.locale_numbers.specs.declared.BookError.{BookError}
use Rattle.locale_numbers.specs.declared.BookError.TheVariants.{Json, Memory, Shape, Tag, System, Text, Digits, Condition, Types, Exponents, Duplicate, Cycle, Unit as UnitFault, Code}
use Rattle.locale_numbers.specs.declared.BookTexts.{BookTexts}
use Rattle.locale_numbers.specs.declared.FormatterError.{FormatterError}
use Rattle.locale_numbers.specs.declared.FormatterError.TheVariants as formatter
use Rattle.locale_numbers_formats.specs.declared.CompactWidth.TheVariants.{Short, Long}
use Rattle.locale_numbers_formats.specs.declared.Notation.{Notation}
use Rattle.locale_numbers_formats.specs.declared.Notation.TheVariants.{Standard, Compact, CompactDigits, Scientific}
use Rattle.locale_numbers_formats.specs.declared.NumberShape.{NumberShape}
use Rattle.locale_numbers_formats.specs.declared.NumberUnit.{NumberUnit}
use Rattle.locale_numbers_formats.specs.declared.NumberUnit.TheVariants as unit
use Rattle.locale_numbers_formats.specs.declared.Skeleton.{Skeleton as NumberSkeleton}
use Rattle.locale_numbers_formats.specs.declared.SkeletonError.{SkeletonError}
use Rattle.locale_numbers_formatter.specs.FormatText.{FormatTables, digit_tables}
use Rattle.legumeyet_c_values.specs.declared.CallError.{CallError}
use Rattle.legumeyet_c_values.specs.declared.CallError.TheVariants as call
use Rattle.legumeyet_c.specs.AskedFormats.{numbers_by, place_by, place_of_error, place_of_outcome}
use Rattle.legumeyet_c.specs.HeldFormats.{HeldFormat}
use Rattle.legumeyet_c.specs.Kinds.{format_in}
use Rattle.legumeyet_c.specs.Opening.{FindsFormat, IsFindingFault, IsOpening, IsTagFault, SaysBook, format_found, held_with, plurals_found}
use Rattle.legumeyet_c.specs.SmallBooks.{AreEntriesOf, FindsIn, FindsPreferred, FindsSmall, IsMissedIn, IsMissedPreferred, IsNoBook, IsNoSmallText, IsSmallFault, IsSmallText, IsTextPreferred, IsUnwanted, SmallBooksHaveTheFormatters, asks_numbers_alone, asks_signs, error_of_book, of_numbers_alone, small_text, texts_of_numbers}
use Rattle.legumeyet_c.specs.declared.asked_format.AskedFormat.{AskedFormat}
use Rattle.legumeyet_c.specs.declared.content.Content.{Content}
use Rattle.legumeyet_c.proofs.OpeningLemmas.{opening_by}
use Rattle.legumeyet_c.proofs.SkeletonLemmas.{asked_for, tag_fault_place}

-- ---- in the book that a text says

pub opening_said : (text : List ℕ) (asked : Result AskedFormat CallError) (tag : List ℕ) (book : BookTables) → SaysBook text book
    → (before after : Option Content) (outcome : Result (Unit {0}) CallError)
    → IsOpening format_in (FindsFormat (Some book) asked tag) (IsFindingFault (Some book) asked tag) before after outcome
    → IsOpening format_in (FindsIn text asked tag) (IsMissedIn text asked tag) before after outcome
opening_said text asked tag book said before after outcome opening =
    opening_by format_in before after outcome
    (λ held is. record { book = book; said = said; is = is })
    (λ error cause. inr (record { book = book; said = said; cause = cause }))
    opening

-- out of memory is a fault of any text, and of any tag
memory_in : (text : List ℕ) (asked : Result AskedFormat CallError) (tag : List ℕ) → IsMissedIn text asked tag call.Memory
memory_in text asked tag = inl (record { fault = Memory; refused = tt; told = refl })

pub memory_unwanted : (wanted : Option Preferences) → IsUnwanted wanted call.Memory
memory_unwanted None = inr refl
memory_unwanted (Some preferences) = refl

-- ---- in the small book of a tag

preferred_opening : (wanted : Option Preferences) (texts : BookTexts) (asked : AskedFormat) (tag text : List ℕ) (before after : Option Content) (outcome : Result (Unit {0}) CallError)
    → IsTextPreferred wanted texts asked text
    → IsOpening format_in (FindsIn text (Ok asked) tag) (IsMissedIn text (Ok asked) tag) before after outcome
    → IsOpening format_in (FindsPreferred wanted texts asked tag) (IsMissedPreferred wanted texts asked tag) before after outcome
preferred_opening None texts asked tag text before after outcome is opening = absurd is
preferred_opening (Some p) texts asked tag text before after outcome is opening =
    subst (λ (t : List ℕ). IsOpening format_in (FindsIn t (Ok asked) tag) (IsMissedIn t (Ok asked) tag) before after outcome) is opening

pub small_opening : (texts : BookTexts) (asked : Result AskedFormat CallError) (tag text : List ℕ) (before after : Option Content) (outcome : Result (Unit {0}) CallError)
    → IsSmallText texts asked tag text
    → IsOpening format_in (FindsIn text asked tag) (IsMissedIn text asked tag) before after outcome
    → IsOpening format_in (FindsSmall texts asked tag) (IsSmallFault texts asked tag) before after outcome
small_opening texts (Err fault) tag text before after outcome is opening = absurd is
small_opening texts (Ok asked) tag text before after outcome is opening = preferred_opening (wanted_of tag) texts asked tag text before after outcome is opening

-- where there is no text, nothing is found
unwanted_preferred : (wanted : Option Preferences) (texts : BookTexts) (asked : AskedFormat) (tag : List ℕ) (error : CallError) → IsUnwanted wanted error → IsMissedPreferred wanted texts asked tag error
unwanted_preferred None texts asked tag error cause = cause
unwanted_preferred (Some p) texts asked tag error is =
    subst (λ (e : CallError). IsMissedIn (small_text texts asked p) (Ok asked) tag e) (sym is) (memory_in (small_text texts asked p) (Ok asked) tag)

pub unwanted_missed : (texts : BookTexts) (asked : Result AskedFormat CallError) (tag : List ℕ) (error : CallError) → IsNoSmallText asked tag error → IsSmallFault texts asked tag error
unwanted_missed texts (Err fault) tag error is = is
unwanted_missed texts (Ok asked) tag error cause = unwanted_preferred (wanted_of tag) texts asked tag error cause

-- ---- a text says one book, and is then not refused

module _ (text : List ℕ) (book : BookTables) (said : SaysBook text book) where
  same_value : (value : Data) → Reads text value → value ≡ said.value
  same_value value reads = same_Some value said.value (sym reads.1 ∙ said.reads.1)

  pub same_book : IsOneBook → (other : BookTables) → SaysBook text other → other ≡ book
  same_book one other also =
      one said.value other book (subst (λ (v : Data). IsBook v other) (same_value also.value also.reads) also.is_book) said.is_book

  unrefused : (told : BookError) → (value : Data) × Reads text value × (book_fault value ≡ Some told) → ⊥
  unrefused told refused =
      let w : Some told ≡ None = sym refused.2 ∙ ap book_fault (same_value refused.0 refused.1) ∙ said.is_book.sound in
      cc

  only_memory : (fault : BookError) → IsRefused text fault → fault ≡ Memory
  only_memory Json refused = absurd (refused said.value said.reads)
  only_memory Memory refused = refl
  only_memory Shape refused = absurd (unrefused Shape refused)
  only_memory Tag refused = absurd (unrefused Tag refused)
  only_memory System refused = absurd (unrefused System refused)
  only_memory Text refused = absurd (unrefused Text refused)
  only_memory Digits refused = absurd (unrefused Digits refused)
  only_memory Condition refused = absurd (unrefused Condition refused)
  only_memory Types refused = absurd (unrefused Types refused)
  only_memory Exponents refused = absurd (unrefused Exponents refused)
  only_memory Duplicate refused = absurd (unrefused Duplicate refused)
  only_memory Cycle refused = absurd (unrefused Cycle refused)
  only_memory UnitFault refused = absurd (unrefused UnitFault refused)
  only_memory Code refused = absurd (unrefused Code refused)

  pub memory_alone : (error : CallError) → IsNoBook text error → error ≡ call.Memory
  memory_alone error missing = missing.told ∙ ap error_of_book (only_memory missing.fault missing.refused)

-- ---- numbers need no more

-- the second of two that are found
abbrev second_by : Result Tables DataError → Result FormatTables DataError → FormatTables → Option FormatTables
second_by plain latin f =
    if bytes_eq (digit_tables f).digits plain_digits
    then option_and_then (λ tables. amounts_by tables f) (result_ok plain)
    else result_ok latin

no_part : (a b c : Bool) → (not a && (not b && not c)) ≡ true → (a ≡ false) × (b ≡ false) × (c ≡ false)
no_part false false false h = (refl, refl, refl)
no_part false false true h = absurd (cc)
no_part false true c h = absurd (cc)
no_part true b c h = absurd (cc)

module _ (book : BookTables) where
  notation_alone : (notation : Notation) (of : NumberUnit) (p : Preferences) (grouping : GroupingStrategy) → asks_signs notation ≡ false → asks_units of ≡ false
      → notation_found notation of (of_numbers_alone book) p grouping ≡ notation_found notation of book p grouping
  notation_alone Standard unit.None p grouping signs units = refl
  notation_alone (Compact Short) unit.None p grouping signs units = refl
  notation_alone (Compact Long) unit.None p grouping signs units = refl
  notation_alone (CompactDigits Short options) unit.None p grouping signs units = refl
  notation_alone (CompactDigits Long options) unit.None p grouping signs units = refl
  notation_alone (Scientific style options) of p grouping signs units = absurd (cc)
  notation_alone _ _ p grouping signs units = absurd (cc)

  module _ (shape : NumberShape) (signs : asks_signs shape.notation ≡ false) (units : asks_units shape.unit ≡ false) where
    shape_alone : (p : Preferences) → found_for shape (of_numbers_alone book) p ≡ found_for shape book p
    shape_alone p = notation_alone shape.notation shape.unit p shape.grouping signs units

    second_alone : (p : Preferences) → second_for shape (of_numbers_alone book) p ≡ second_for shape book p
    second_alone p = ap (second_by (found_plain book p (Some shape.grouping))) (shape_alone (in_latin p))

    both_alone : (p : Preferences) → both_found shape (of_numbers_alone book) p ≡ both_found shape book p
    both_alone p =
        ap (mapped (beside_second shape (of_numbers_alone book) p)) (shape_alone p)
        ∙ ap (λ (second : FormatTables → Option FormatTables). mapped {A = FormatTables} {B = FormatTables × Option FormatTables} (λ f. (f, second f)) (found_for shape book p)) (second_alone p)

    wanted_alone : (wanted : Option Preferences) → found_by (both_found shape (of_numbers_alone book)) wanted ≡ found_by (both_found shape book) wanted
    wanted_alone None = refl
    wanted_alone (Some p) = ap or_no_table (both_alone p)

  plurals_alone : (tag : List ℕ) (plurals : Option PluralRuleType) → is_some plurals ≡ false → plurals_found (of_numbers_alone book) plurals tag ≡ plurals_found book plurals tag
  plurals_alone tag None none = refl
  plurals_alone tag (Some rule_type) none = absurd (cc)

  format_alone : (asked : AskedFormat) (tag : List ℕ) → asks_numbers_alone asked ≡ true → format_found (of_numbers_alone book) asked tag ≡ format_found book asked tag
  format_alone asked tag alone =
      let none = no_part (asks_signs asked.format.shape.notation) (asks_units asked.format.shape.unit) (is_some asked.plurals) alone in
      ap₂ (held_with asked.format.options) (wanted_alone asked.format.shape none.0 none.1 (wanted_of tag)) (plurals_alone tag asked.plurals none.2)

-- ---- the small book of a tag has what the whole has

module _ (one : IsOneBook) (have : SelectedBooksHaveTheFormatters) (texts : BookTexts) (whole : BookTables) (entries : AreEntriesOf texts whole) (asked : AskedFormat) (tag : List ℕ) where
  selected_format : (p : Preferences) → wanted_of tag ≡ Some p → format_found (selected whole p) asked tag ≡ format_found whole asked tag
  selected_format p wants =
      let both = have entries.value whole entries.is_book tag p wants in
      ap₂ (held_with asked.format.options) (both.0 asked.format.shape) (rules asked.plurals)
    where
      rules : (plurals : Option PluralRuleType) → plurals_found (selected whole p) plurals tag ≡ plurals_found whole plurals tag
      rules None = refl
      rules (Some rule_type) =
          ap (result_map_both (λ plurals. Some plurals) (λ error. error)) ((have entries.value whole entries.is_book tag p wants).1 rule_type)

  -- what its text says
  said_small : (p : Preferences) → wanted_of tag ≡ Some p → (b : Bool) → asks_numbers_alone asked ≡ b
      → (book : BookTables) × SaysBook (small_text texts asked p) book × (format_found book asked tag ≡ format_found whole asked tag)
  said_small p wants true is = (
    of_numbers_alone (selected whole p),
    subst (λ (c : Bool). SaysBook (selected_text (if c then texts_of_numbers texts else texts) p) (of_numbers_alone (selected whole p))) (sym is) (entries.alone tag p wants),
    format_alone (selected whole p) asked tag is ∙ selected_format p wants,
  )
  said_small p wants false is = (
    selected whole p,
    subst (λ (c : Bool). SaysBook (selected_text (if c then texts_of_numbers texts else texts) p) (selected whole p)) (sym is) (entries.small tag p wants),
    selected_format p wants,
  )

  as_whole : (p : Preferences) → wanted_of tag ≡ Some p → (book : BookTables) → SaysBook (small_text texts asked p) book → format_found book asked tag ≡ format_found whole asked tag
  as_whole p wants book said =
      let small = said_small p wants (asks_numbers_alone asked) refl in
      ap (λ (b : BookTables). format_found b asked tag) (same_book (small_text texts asked p) small.0 small.1 one book said) ∙ small.2

  finds_whole : (held : HeldFormat) (wanted : Option Preferences) → wanted_of tag ≡ wanted → FindsPreferred wanted texts asked tag held → format_found whole asked tag ≡ Ok held
  finds_whole held None is found = absurd found
  finds_whole held (Some p) is found = sym (as_whole p is found.book found.said) ∙ found.is

  misses_whole : (error : CallError) (wanted : Option Preferences) → wanted_of tag ≡ wanted → IsMissedPreferred wanted texts asked tag error → IsTagFault (format_found whole asked tag) tag error
  misses_whole error None is (inl tagged) =
      subst (λ (e : CallError). IsTagFault (format_found whole asked tag) tag e) (sym tagged)
      (inr (ap (λ (m : Option Preferences). held_with asked.format.options (found_by (both_found asked.format.shape whole) m) (plurals_found whole asked.plurals tag)) is))
  misses_whole error None is (inr memory) = subst (λ (e : CallError). IsTagFault (format_found whole asked tag) tag e) (sym memory) tt
  misses_whole error (Some p) is (inl missing) =
      let small = said_small p is (asks_numbers_alone asked) refl in
      subst (λ (e : CallError). IsTagFault (format_found whole asked tag) tag e) (sym (memory_alone (small_text texts asked p) small.0 small.1 error missing)) tt
  misses_whole error (Some p) is (inr missed) =
      subst (λ (r : Result HeldFormat FormatterError). IsTagFault r tag error) (as_whole p is missed.book missed.said) missed.cause

pub small_formatters : IsOneBook → SelectedBooksHaveTheFormatters → SmallBooksHaveTheFormatters
small_formatters one have texts whole entries (Err fault) tag = (λ held found. found, λ error is. is)
small_formatters one have texts whole entries (Ok asked) tag = (
  λ held found. finds_whole one have texts whole entries asked tag held (wanted_of tag) refl found,
  λ error missed. misses_whole one have texts whole entries asked tag error (wanted_of tag) refl missed,
)

-- ---- the place of a fault

-- what opens a small book tells where a skeleton is wrong
missed_place : (wanted : Option Preferences) (texts : BookTexts) (asked : AskedFormat) (tag : List ℕ) (error : CallError) (place : ℕ) → IsMissedPreferred wanted texts asked tag error
    → place_of_error error place ≡ place
missed_place None texts asked tag error place (inl tagged) = ap (λ (e : CallError). place_of_error e place) tagged
missed_place None texts asked tag error place (inr memory) = ap (λ (e : CallError). place_of_error e place) memory
missed_place (Some p) texts asked tag error place (inl missing) = ap (λ (e : CallError). place_of_error e place) missing.told ∙ of_book missing.fault
  where
    of_book : (fault : BookError) → place_of_error (error_of_book fault) place ≡ place
    of_book Json = refl
    of_book Memory = refl
    of_book Shape = refl
    of_book Tag = refl
    of_book System = refl
    of_book Text = refl
    of_book Digits = refl
    of_book Condition = refl
    of_book Types = refl
    of_book Exponents = refl
    of_book Duplicate = refl
    of_book Cycle = refl
    of_book UnitFault = refl
    of_book Code = refl
missed_place (Some p) texts asked tag error place (inr missed) = tag_fault_place missed.book asked tag error place missed.cause

place_of_fault : (texts : BookTexts) (read : Result NumberSkeleton SkeletonError) (tag : List ℕ) (error : CallError) (place : ℕ) → IsSmallFault texts (asked_for read) tag error
    → place_of_error error place ≡ place_by read place
place_of_fault texts (Err fault) tag error place is = ap (λ (e : CallError). place_of_error e place) is
place_of_fault texts (Ok s) tag error place missed = missed_place (wanted_of tag) texts (numbers_by s) tag error place missed

place_of_found : (texts : BookTexts) (read : Result NumberSkeleton SkeletonError) (tag : List ℕ) (held : HeldFormat) (place : ℕ) → FindsSmall texts (asked_for read) tag held → place ≡ place_by read place
place_of_found texts (Err fault) tag held place found = absurd found
place_of_found texts (Ok s) tag held place found = refl

pub place_of_small : (texts : BookTexts) (read : Result NumberSkeleton SkeletonError) (tag : List ℕ) (before after : Option Content) (outcome : Result (Unit {0}) CallError) (place : ℕ)
    → IsOpening format_in (FindsSmall texts (asked_for read) tag) (IsSmallFault texts (asked_for read) tag) before after outcome
    → place_of_outcome outcome place ≡ place_by read place
place_of_small texts read tag before after (Ok done) place opening = let opened = opening.opened refl in place_of_found texts read tag opened.0 place opened.1
place_of_small texts read tag before after (Err error) place opening = place_of_fault texts read tag error place opening.cause

-- ---- of what is asked, which is known to be another one

pub small_asked : (texts : BookTexts) (asked known : Result AskedFormat CallError) (tag : List ℕ) (before after : Option Content) (outcome : Result (Unit {0}) CallError)
    → asked ≡ known → IsOpening format_in (FindsSmall texts asked tag) (IsSmallFault texts asked tag) before after outcome
    → IsOpening format_in (FindsSmall texts known tag) (IsSmallFault texts known tag) before after outcome
small_asked texts asked known tag before after outcome is opening =
    subst (λ (a : Result AskedFormat CallError). IsOpening format_in (FindsSmall texts a tag) (IsSmallFault texts a tag) before after outcome) is opening
