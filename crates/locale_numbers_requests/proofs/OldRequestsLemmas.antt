-- Each line asks what it asked before forms, the grouping `on-aligned`, roundings and increments were added: `specs/OldRequests.antt`.
use Rattle.std.proofs.Common.{◌≡◌, ℕ, ℤ, pos, neg_ℤ, Bool, true, false, List, [], ◌∷◌, Option, None, Some, Result, Ok, Err, refl, if◌then◌else◌, drop, length, take, ◌-◌}
use Rattle.std.proofs.lemmas.Bool.{eqb-true}
use Rattle.std.proofs.lemmas.Slice.Eq.{bytes_eq-Decides}
use Rattle.std.specs.Prelude.{◌||◌, ◌&&◌, ◌==◌, codes, int_le}
use Rattle.std.specs.Str.{bytes_eq, is_utf8}
use Rattle.fixed_decimal.specs.NumberText.{minus}
use Rattle.fixed_decimal.specs.declared.RoundingIncrement.{RoundingIncrement}
use Rattle.fixed_decimal.specs.declared.RoundingIncrement.TheVariants.{MultiplesOf1, MultiplesOf2, MultiplesOf5, MultiplesOf25}
use Rattle.fixed_decimal.specs.declared.SignedRoundingMode.{SignedRoundingMode}
use Rattle.icu_decimal_symbols.specs.declared.options.GroupingStrategy.{GroupingStrategy}
use Rattle.icu_decimal_symbols.specs.declared.options.GroupingStrategy.TheVariants as grouping
use Rattle.icu_dimension_fractions.specs.CurrencyCodes.{is_currency_code}
use Rattle.icu_dimension_fractions.specs.declared.PercentSign.{PercentSign}
use Rattle.locale_numbers_formats.specs.Changed.{unchanged}
use Rattle.locale_numbers_formats.specs.Cutting.{cut_at}
use Rattle.locale_numbers_formats.specs.SkeletonFormats.{format_of, has_own_digits, notation_by, options_of, strategy_of, unit_of}
use Rattle.locale_numbers_formats.specs.Skeletons.{skeleton_of}
use Rattle.icu_decimal_scientific.specs.declared.ScientificNotation.TheVariants as scientific
use Rattle.locale_numbers_formats.specs.declared.CompactWidth.{CompactWidth}
use Rattle.locale_numbers_formats.specs.declared.CompactWidth.TheVariants.{Short, Long}
use Rattle.locale_numbers_formats.specs.declared.LeadingZeros.{LeadingZeros}
use Rattle.locale_numbers_formats.specs.declared.LeadingZeros.TheVariants as leading
use Rattle.locale_numbers_formats.specs.declared.Notation.{Notation}
use Rattle.locale_numbers_formats.specs.declared.Notation.TheVariants.{Standard, Compact, CompactDigits, Scientific}
use Rattle.locale_numbers_formats.specs.declared.NumberFormat.{NumberFormat}
use Rattle.locale_numbers_formats.specs.declared.NumberOptions.{NumberOptions}
use Rattle.locale_numbers_formats.specs.declared.NumberUnit.{NumberUnit}
use Rattle.locale_numbers_formats.specs.declared.NumberUnit.TheVariants as unit
use Rattle.locale_numbers_formats.specs.declared.Rounding.{Rounding}
use Rattle.locale_numbers_formats.specs.declared.Rounding.TheVariants.{Usual, Cash, At, Significant, Either}
use Rattle.locale_numbers_formats.specs.declared.RoundingPriority.{RoundingPriority}
use Rattle.locale_numbers_formats.specs.declared.SignAsked.{SignAsked}
use Rattle.locale_numbers_formats.specs.declared.Skeleton.{Skeleton}
use Rattle.locale_numbers_formats.specs.declared.SkeletonError.{SkeletonError}
use Rattle.locale_numbers_formats.specs.declared.SkeletonNotation.{SkeletonNotation}
use Rattle.locale_numbers_formats.specs.declared.SkeletonNotation.TheVariants as asked
use Rattle.locale_numbers_formats.specs.declared.SignificantDigits.{SignificantDigits}
use Rattle.locale_numbers_formats.specs.declared.TrailingZeros.{TrailingZeros}
use Rattle.locale_numbers_formats.specs.declared.TrailingZeros.TheVariants as trailing
use Rattle.locale_numbers_requests.specs.FormField.{colon, first_of, form_for, form_named, form_with, format_exact, is_compact, listed_form, scientific_by, skeleton_by, skeleton_in, skeleton_task, unit_form}
use Rattle.locale_numbers_requests.specs.Increments.{has_no_zeros, increment_by, increment_named, multiples_at, with_zeros}
use Rattle.locale_numbers_requests.specs.OldRequests.{OldRequestsStay, StaysRequest, same, none, added, is_added, is_added_grouping, is_added_notation, is_added_task, is_added_unit, old_form_named, old_grouping_named, old_increment_named, old_request_by, old_request_in, old_rounding_by, old_rounding_in, old_rounding_named, old_takes, trims}
use Rattle.locale_numbers_requests.specs.Request.{Asked, asked_by, fields, format_by, grouping_named, is_amount, keeps_sign, notation_with, options_beside, options_by, request_by, request_in, says_nothing, sign_named, takes}
use Rattle.locale_numbers_requests.specs.RoundingField.{all_of, all_shown, comma, count_named, counts_by, counts_in, digits_by, digits_in, either_by, front_by, is_cash, is_whole, keeps_digits, last_named, least_shown, letter_f, mode_named, multiples_shown, places_named, position_by, position_named, priority_named, rounding_named, significant_at, significant_named, whole_by}
use Rattle.locale_numbers_requests.specs.declared.form_field.FormAsked.{FormAsked}
use Rattle.locale_numbers_requests.specs.declared.form_field.FormAsked.TheVariants.{OfWord, OfSkeleton}
use Rattle.locale_numbers_requests.specs.declared.form_field.Task.{Task}
use Rattle.locale_numbers_requests.specs.declared.form_field.Task.TheVariants.{Write, WriteExact, Read, ReadLenient, Category, RangeCategory}
use Rattle.locale_numbers_requests.specs.UnitWord.{amount_by, amount_named, amount_word, percents_or, sign_of_percents, unit_named}
use Rattle.locale_numbers_requests.specs.declared.increments.Increment.{Increment}
use Rattle.locale_numbers_requests.specs.declared.increments.Multiples.{Multiples}
use Rattle.locale_numbers_requests.specs.declared.rounding_field.DigitsAsked.{DigitsAsked}
use Rattle.locale_numbers_requests.specs.declared.rounding_field.Places.{Places}
use Rattle.locale_numbers_requests.specs.declared.rounding_field.Places.TheVariants.{Position, Fraction}
use Rattle.locale_numbers_requests.specs.declared.unit_word.AmountWord.{AmountWord}

-- ---- words of forms

-- a format that was added: compact numbers have digits of their own, or zeros are trimmed
abbrev IsNewFormat : NumberFormat → Type 0
IsNewFormat f = (is_added_notation f.shape.notation || trims f.options.leading_zeros f.options.zeros) ≡ true

-- a form that was added: by its notation, its task and its unit, or by its format
abbrev IsNew : FormAsked → Type 0
IsNew (OfWord task notation unit) = (is_added_notation notation || is_added_task task unit) ≡ true
IsNew (OfSkeleton task format) = IsNewFormat format

-- a word that was there
record IsOldWord (task : Task) (notation : Notation) (unit : NumberUnit) : Type 0 where
  done : is_added_task task unit ≡ false
  digits : is_added_notation notation ≡ false

abbrev IsOld : FormAsked → Type 0
IsOld (OfWord task notation unit) = IsOldWord task notation unit
IsOld (OfSkeleton task format) = ⊥

-- a word is the same form, none, or one that was added and was none
data StaysForm (now before : Option FormAsked) : Type 0 where
  same_form : (form : FormAsked) → IsOld form → now ≡ Some form → before ≡ Some form → StaysForm now before
  no_form : now ≡ None → before ≡ None → StaysForm now before
  added_form : (form : FormAsked) → IsNew form → now ≡ Some form → before ≡ None → StaysForm now before

-- one of two forms that were none, by a test
of_test : (b : Bool) (one other : Option FormAsked) → StaysForm one None → StaysForm other None → StaysForm (if b then one else other) None
of_test true one other new rest = new
of_test false one other new rest = rest

-- the unit that a word names was added
abbrev AreNew : Option NumberUnit → Type 0
AreNew None = Unit {0}
AreNew (Some unit) = is_added_unit unit ≡ true

of_code : (word : Option AmountWord) (code : List ℕ) → AreNew (amount_by word code)
of_code None code = tt
of_code (Some word) code = by (is_currency_code code)
  where
    by : (b : Bool) → AreNew (if b then Some (unit.Currency (record { code = code; style = word.style; width = word.width })) else None)
    by true = refl
    by false = tt

of_sign : (sign : Option PercentSign) (other : Option NumberUnit) → AreNew other → AreNew (percents_or sign other)
of_sign None other new = new
of_sign (Some sign) other new = refl

unit_is_new : (word : List ℕ) → AreNew (unit_named word)
unit_is_new word = of_sign (sign_of_percents word) (amount_named word) (of_code (amount_word (take (length word - 3) word)) (drop (length word - 3) word))

with_unit : (task : Task) (unit : Option NumberUnit) → ((u : NumberUnit) → is_added_unit u ≡ true → is_added_task task u ≡ true) → AreNew unit → StaysForm (form_with task unit) None
with_unit task None adds new = no_form refl refl
with_unit task (Some unit) adds new = added_form (OfWord task Standard unit) (adds unit new) refl refl

of_units : (word : List ℕ) → StaysForm (unit_form word) None
of_units word =
    of_test (bytes_eq (take 13 word) (codes "read-lenient-")) _ _ (with_unit ReadLenient (unit_named (drop 13 word)) (λ u new. refl) (unit_is_new (drop 13 word)))
    (of_test (bytes_eq (take 5 word) (codes "read-")) _ _ (with_unit Read (unit_named (drop 5 word)) (λ u new. new) (unit_is_new (drop 5 word)))
    (with_unit Write (unit_named word) (λ u new. new) (unit_is_new word)))

-- and so is that of exact forms
record AddsFormat (f : NumberFormat) : Type 0 where
  new : IsNewFormat f
  exact : IsNewFormat (format_exact f)

-- the format of a skeleton, by its notation and by whether compact numbers have digits of their own
abbrev format_with : Notation → Bool → Skeleton → NumberFormat
format_with notation own s = record {
  shape = record { notation = notation; unit = unit_of s; grouping = strategy_of s.grouping };
  options = if own then unchanged else options_of s;
}

-- it trims the zeros in front of the number, or of what is before a compact pattern
format_is_new : (s : Skeleton) → AddsFormat (format_of s)
format_is_new s = by s.notation refl
  where
    adds : (own : Bool) (width : CompactWidth) → AddsFormat (format_with (if own then CompactDigits width (options_of s) else Compact width) own s)
    adds true width = record { new = refl; exact = refl }
    adds false width = record { new = refl; exact = refl }

    by : (notation : SkeletonNotation) → s.notation ≡ notation → AddsFormat (format_with (notation_by notation s) (has_own_digits s) s)
    by asked.Standard is = rw is (record { new = refl; exact = refl })
    by (asked.Compact width) is = adds (has_own_digits s) width
    by (asked.Scientific style) is = record { new = refl; exact = refl }

of_format : (task : Task) (f : NumberFormat) → AddsFormat f → StaysForm (form_for task f) None
of_format Write f adds = added_form _ adds.new refl refl
of_format WriteExact f adds =
    of_test (is_compact f.shape.notation) (Some (OfSkeleton WriteExact (format_exact f))) None (added_form _ adds.exact refl refl) (no_form refl refl)
of_format Read f adds = added_form _ adds.new refl refl
of_format ReadLenient f adds = added_form _ adds.new refl refl
of_format (Category rule_type) f adds = added_form _ adds.new refl refl
of_format RangeCategory f adds = added_form _ adds.new refl refl

of_skeleton : (task : Option Task) (r : Result Skeleton SkeletonError) → StaysForm (skeleton_by task r) None
of_skeleton None r = no_form refl refl
of_skeleton (Some task) (Err error) = no_form refl refl
of_skeleton (Some task) (Ok s) = of_format task (format_of s) (format_is_new s)

of_pieces : (list : List (List ℕ)) → StaysForm (skeleton_in list) None
of_pieces [] = no_form refl refl
of_pieces (a ∷ []) = no_form refl refl
of_pieces (a ∷ b ∷ []) = no_form refl refl
of_pieces (a ∷ b ∷ c ∷ []) = of_test (bytes_eq b []) (skeleton_by (skeleton_task a) (skeleton_of c)) None (of_skeleton (skeleton_task a) (skeleton_of c)) (no_form refl refl)
of_pieces (a ∷ b ∷ c ∷ d ∷ more) = no_form refl refl

listed_old : (b : Bool) (here : FormAsked) (now before : Option FormAsked) → IsOld here → StaysForm now before
    → StaysForm (if b then Some here else now) (if b then Some here else before)
listed_old true here now before old rest = same_form here old refl refl
listed_old false here now before old rest = rest

listed_new : (b : Bool) (here : FormAsked) (now : Option FormAsked) → IsNew here → StaysForm now None → StaysForm (if b then Some here else now) None
listed_new b here now new rest = of_test b (Some here) now (added_form here new refl refl) rest

old_word : (task : Task) (notation : Notation) → is_added_task task unit.None ≡ false → is_added_notation notation ≡ false → IsOld (OfWord task notation unit.None)
old_word task notation done digits = record { done = done; digits = digits }

of_list : (word : List ℕ) → StaysForm (listed_form word) (old_form_named word)
of_list word =
    listed_old (bytes_eq word (codes "plain")) _ _ _ (old_word Write Standard refl refl)
    (listed_old (bytes_eq word (codes "short")) _ _ _ (old_word Write (Compact Short) refl refl)
    (listed_old (bytes_eq word (codes "long")) _ _ _ (old_word Write (Compact Long) refl refl)
    (listed_old (bytes_eq word (codes "exact-short")) _ _ _ (old_word WriteExact (Compact Short) refl refl)
    (listed_old (bytes_eq word (codes "exact-long")) _ _ _ (old_word WriteExact (Compact Long) refl refl)
    (listed_old (bytes_eq word (codes "read")) _ _ _ (old_word Read Standard refl refl)
    (listed_new (bytes_eq word (codes "read-lenient")) _ _ refl
    (listed_new (bytes_eq word (codes "plural")) _ _ refl
    (listed_new (bytes_eq word (codes "ordinal")) _ _ refl
    (listed_new (bytes_eq word (codes "range-plural")) _ _ refl
    (listed_new (bytes_eq word (codes "scientific")) (OfWord Write (scientific_by scientific.Scientific) unit.None) _ refl
    (listed_new (bytes_eq word (codes "engineering")) (OfWord Write (scientific_by scientific.Engineering) unit.None) _ refl (no_form refl refl))))))))))))

-- a form, or another that was added
either : (now before other : Option FormAsked) → StaysForm now before → StaysForm other None → StaysForm (first_of now other) before
either now before other (same_form form old e d) rest = rw (e, d) (same_form form old refl refl)
either now before other (no_form e d) rest = rw (e, d) rest
either now before other (added_form form new e d) rest = rw (e, d) (added_form form new refl refl)

form_stays : (word : List ℕ) → StaysForm (form_named word) (old_form_named word)
form_stays word =
    either (listed_form word) (old_form_named word) _ (of_list word) (either (unit_form word) None _ (of_units word) (of_pieces (cut_at colon word)))

-- ---- groupings

-- a word is the same grouping, none, or the one that was added and was none
data StaysGrouping (now before : Option GroupingStrategy) : Type 0 where
  same_grouping : (g : GroupingStrategy) → is_added_grouping g ≡ false → now ≡ Some g → before ≡ Some g → StaysGrouping now before
  no_grouping : now ≡ None → before ≡ None → StaysGrouping now before
  added_grouping : now ≡ Some grouping.OnAligned → before ≡ None → StaysGrouping now before

listed_grouping : (b : Bool) (here : GroupingStrategy) (now before : Option GroupingStrategy) → is_added_grouping here ≡ false → StaysGrouping now before
    → StaysGrouping (if b then Some here else now) (if b then Some here else before)
listed_grouping true here now before old rest = same_grouping here old refl refl
listed_grouping false here now before old rest = rest

aligned : (b : Bool) → StaysGrouping (if b then Some grouping.OnAligned else None) None
aligned true = added_grouping refl refl
aligned false = no_grouping refl refl

grouping_stays : (word : List ℕ) → StaysGrouping (grouping_named word) (old_grouping_named word)
grouping_stays word =
    listed_grouping (bytes_eq word (codes "auto")) grouping.Auto _ _ refl
    (listed_grouping (bytes_eq word (codes "never")) grouping.Never _ _ refl
    (listed_grouping (bytes_eq word (codes "always")) grouping.Always _ _ refl
    (listed_grouping (bytes_eq word (codes "min2")) grouping.Min2 _ _ refl (aligned (bytes_eq word (codes "on-aligned"))))))

-- ---- roundings

data StaysRounding (now before : Option DigitsAsked) : Type 0 where
  same_rounding : (rounding : Rounding) → is_cash rounding ≡ false → now ≡ Some (all_of rounding) → before ≡ Some (all_of rounding) → StaysRounding now before
  no_rounding : now ≡ None → before ≡ None → StaysRounding now before
  added_cash : now ≡ Some (all_of Cash) → before ≡ None → StaysRounding now before
  added_digits : (digits : DigitsAsked) → trims digits.leading_zeros digits.zeros ≡ true → now ≡ Some digits → before ≡ None → StaysRounding now before

-- a word of places is the same position, none, or counts that were none
data StaysPlaces (now : Option Places) (before : Option ℤ) : Type 0 where
  same_position : (position : ℤ) → now ≡ Some (Position position) → before ≡ Some position → StaysPlaces now before
  no_places : now ≡ None → before ≡ None → StaysPlaces now before
  added_counts : (least last : ℤ) → now ≡ Some (Fraction least last) → before ≡ None → StaysPlaces now before

of_counts : (least last : Option ℤ) → StaysPlaces (counts_by least last) None
of_counts None last = no_places refl refl
of_counts (Some least) None = no_places refl refl
of_counts (Some least) (Some last) = by (int_le least (neg_ℤ last))
  where
    by : (b : Bool) → StaysPlaces (if b then Some (Fraction least last) else None) None
    by true = added_counts least last refl refl
    by false = no_places refl refl

of_two : (words : List (List ℕ)) → StaysPlaces (counts_in words) None
of_two [] = no_places refl refl
of_two (a ∷ []) = no_places refl refl
of_two (a ∷ b ∷ []) = of_counts (count_named a) (last_named b)
of_two (a ∷ b ∷ c ∷ more) = no_places refl refl

of_position : (position : Option ℤ) → StaysPlaces (position_by position) position
of_position None = no_places refl refl
of_position (Some position) = same_position position refl refl

-- no position begins with the letter
letter_is_none : (c : ℕ) (cs : List ℕ) → c ≡ letter_f → position_named (c ∷ cs) ≡ None
letter_is_none c cs is = rw is refl

places_stay : (word : List ℕ) → StaysPlaces (places_named word) (position_named word)
places_stay [] = no_places refl refl
places_stay (c ∷ cs) = by (c == letter_f) refl
  where
    by : (b : Bool) → (c == letter_f) ≡ b → StaysPlaces (if b then counts_in (cut_at minus cs) else position_by (position_named (c ∷ cs))) (position_named (c ∷ cs))
    by true is = rw (letter_is_none c cs (eqb-true c letter_f is)) (of_two (cut_at minus cs))
    by false is = of_position (position_named (c ∷ cs))

-- a word is the same increment, none, or one with zeros behind that was none
data StaysIncrement (now : Option Increment) (before : Option RoundingIncrement) : Type 0 where
  same_increment : (digits : RoundingIncrement) → now ≡ Some (with_zeros digits 0) → before ≡ Some digits → StaysIncrement now before
  no_increment : now ≡ None → before ≡ None → StaysIncrement now before
  added_increment : (increment : Increment) → has_no_zeros increment ≡ false → now ≡ Some increment → before ≡ None → StaysIncrement now before

listed_increment : (b : Bool) (digits : RoundingIncrement) (now : Option (RoundingIncrement × ℕ)) (before : Option RoundingIncrement)
    → StaysIncrement (increment_by now) before → StaysIncrement (increment_by (if b then Some (digits, 0) else now)) (if b then Some digits else before)
listed_increment true digits now before rest = same_increment digits refl refl
listed_increment false digits now before rest = rest

newer_increment : (b : Bool) (found : RoundingIncrement × ℕ) (now : Option (RoundingIncrement × ℕ)) → has_no_zeros (with_zeros found.0 found.1) ≡ false
    → StaysIncrement (increment_by now) None → StaysIncrement (increment_by (if b then Some found else now)) None
newer_increment true found now zeros rest = added_increment (with_zeros found.0 found.1) zeros refl refl
newer_increment false found now zeros rest = rest

increment_stays : (word : List ℕ) → StaysIncrement (increment_named word) (old_increment_named word)
increment_stays word =
    listed_increment (bytes_eq word (codes "1")) MultiplesOf1 _ _
    (listed_increment (bytes_eq word (codes "2")) MultiplesOf2 _ _
    (listed_increment (bytes_eq word (codes "5")) MultiplesOf5 _ _
    (listed_increment (bytes_eq word (codes "25")) MultiplesOf25 _ _
    (newer_increment (bytes_eq word (codes "10")) _ _ refl
    (newer_increment (bytes_eq word (codes "20")) _ _ refl
    (newer_increment (bytes_eq word (codes "50")) _ _ refl
    (newer_increment (bytes_eq word (codes "100")) _ _ refl
    (newer_increment (bytes_eq word (codes "200")) _ _ refl
    (newer_increment (bytes_eq word (codes "250")) _ _ refl
    (newer_increment (bytes_eq word (codes "500")) _ _ refl
    (newer_increment (bytes_eq word (codes "1000")) _ _ refl
    (newer_increment (bytes_eq word (codes "2000")) _ _ refl
    (newer_increment (bytes_eq word (codes "2500")) _ _ refl
    (newer_increment (bytes_eq word (codes "5000")) _ _ refl (no_increment refl refl)))))))))))))))

-- what trims with the zeros in front kept trims by every increment, and an increment with zeros behind trims by itself
front_trims : (increment : Increment) (zeros : TrailingZeros) → trims leading.Keep zeros ≡ true → trims (front_by increment) zeros ≡ true
front_trims increment zeros is = by (has_no_zeros increment)
  where
    by : (b : Bool) → trims (if b then leading.Keep else leading.TrimRoundedZero) zeros ≡ true
    by true = is
    by false = refl

zeros_trim : (increment : Increment) (zeros : TrailingZeros) → has_no_zeros increment ≡ false → trims (front_by increment) zeros ≡ true
zeros_trim increment zeros is = rw is refl

-- multiples that were none
of_multiples : (front : LeadingZeros) (zeros : TrailingZeros) (m : SignedRoundingMode) (multiples : Option Multiples) → trims front zeros ≡ true
    → StaysRounding (all_shown front zeros m multiples) None
of_multiples front zeros m None trimmed = no_rounding refl refl
of_multiples front zeros m (Some multiples) trimmed = added_digits (multiples_shown front zeros multiples.fraction_digits m multiples) trimmed refl refl

of_least : (front : LeadingZeros) (least : ℤ) (m : SignedRoundingMode) (multiples : Option Multiples) → trims front trailing.Trim ≡ true
    → StaysRounding (least_shown front least m multiples) None
of_least front least m None trimmed = no_rounding refl refl
of_least front least m (Some multiples) trimmed = added_digits (multiples_shown front trailing.Trim least m multiples) trimmed refl refl

-- three words say what they said, and are never cash
of_position_words : (p : ℤ) (m : Option SignedRoundingMode) (i : Option Increment) (before : Option RoundingIncrement) → StaysIncrement i before
    → StaysRounding (digits_by (Some (Position p)) m i) (old_rounding_by (Some p) m before)
of_position_words p None i before stays = no_rounding refl refl
of_position_words p (Some m) i before (same_increment digits e d) = rw (e, d) (same_rounding (At p m digits) refl refl refl)
of_position_words p (Some m) i before (no_increment e d) = rw (e, d) (no_rounding refl refl)
of_position_words p (Some m) i before (added_increment increment zeros e d) =
    rw (e, d) (of_multiples (front_by increment) trailing.Keep m (multiples_at p increment) (zeros_trim increment trailing.Keep zeros))

of_count_words : (least last : ℤ) (m : Option SignedRoundingMode) (i : Option Increment) → StaysRounding (digits_by (Some (Fraction least last)) m i) None
of_count_words least last None i = no_rounding refl refl
of_count_words least last (Some m) None = no_rounding refl refl
of_count_words least last (Some m) (Some i) = of_least (front_by i) least m (multiples_at last i) (front_trims i trailing.Trim refl)

of_places : (now : Option Places) (before : Option ℤ) (m : Option SignedRoundingMode) (i : Option Increment) (old : Option RoundingIncrement)
    → StaysPlaces now before → StaysIncrement i old → StaysRounding (digits_by now m i) (old_rounding_by before m old)
of_places now before m i old (same_position p e d) stays = rw (e, d) (of_position_words p m i old stays)
of_places now before m i old (no_places e d) stays = rw (e, d) (no_rounding refl refl)
of_places now before m i old (added_counts least last e d) stays = rw (e, d) (of_count_words least last m i)

-- four words said nothing, nor did any that end with `whole`
of_whole : (places : Option Places) (m : Option SignedRoundingMode) (i : Option Increment) → StaysRounding (whole_by places m i) None
of_whole None m i = no_rounding refl refl
of_whole (Some places) None i = no_rounding refl refl
of_whole (Some places) (Some m) None = no_rounding refl refl
of_whole (Some (Position p)) (Some m) (Some i) = no_rounding refl refl
of_whole (Some (Fraction least last)) (Some m) (Some i) = by (int_le (neg_ℤ last) least)
  where
    by : (b : Bool) → StaysRounding (if b then all_shown (front_by i) trailing.TrimWhole m (multiples_at last i) else None) None
    by true = of_multiples (front_by i) trailing.TrimWhole m (multiples_at last i) (front_trims i trailing.TrimWhole refl)
    by false = no_rounding refl refl

-- nor did significant digits
of_significant : (zeros : TrailingZeros) (digits : Option SignificantDigits) (m : Option SignedRoundingMode) → trims leading.Keep zeros ≡ true → StaysRounding (significant_at zeros digits m) None
of_significant zeros None m trimmed = no_rounding refl refl
of_significant zeros (Some digits) None trimmed = no_rounding refl refl
of_significant zeros (Some digits) (Some m) trimmed = added_digits (record { rounding = Significant digits m; leading_zeros = leading.Keep; zeros = zeros; fraction_digits = pos 0 }) trimmed refl refl

of_either : (zeros : TrailingZeros) (places : Option Places) (digits : Option SignificantDigits) (r : Option RoundingPriority) (m : Option SignedRoundingMode) → trims leading.Keep zeros ≡ true
    → StaysRounding (either_by zeros places digits r m) None
of_either zeros None digits r m trimmed = no_rounding refl refl
of_either zeros (Some places) None r m trimmed = no_rounding refl refl
of_either zeros (Some places) (Some digits) None m trimmed = no_rounding refl refl
of_either zeros (Some places) (Some digits) (Some r) None trimmed = no_rounding refl refl
of_either zeros (Some (Position p)) (Some digits) (Some r) (Some m) trimmed = no_rounding refl refl
of_either zeros (Some (Fraction least last)) (Some digits) (Some r) (Some m) trimmed = added_digits (record { rounding = Either r last digits m; leading_zeros = leading.Keep; zeros = zeros; fraction_digits = least }) trimmed refl refl

-- the word of whole numbers was no increment
whole_is_none : (word : List ℕ) → is_whole word ≡ true → old_increment_named word ≡ None
whole_is_none word is = let w : word ≡ codes "whole" = (bytes_eq-Decides word (codes "whole")).0 is in rw w refl

without_increment : (position : Option ℤ) (m : Option SignedRoundingMode) → old_rounding_by position m None ≡ None
without_increment None m = refl
without_increment (Some position) None = refl
without_increment (Some position) (Some m) = refl

of_three : (a b c : List ℕ) → StaysRounding (digits_in (a ∷ b ∷ c ∷ [])) (old_rounding_in (a ∷ b ∷ c ∷ []))
of_three a b c = by (is_whole c) refl
  where
    by : (whole : Bool) → is_whole c ≡ whole
        → StaysRounding (if whole then significant_at trailing.TrimAll (significant_named a) (mode_named b) else digits_by (places_named a) (mode_named b) (increment_named c))
        (old_rounding_by (position_named a) (mode_named b) (old_increment_named c))
    by true is = rw (whole_is_none c is, without_increment (position_named a) (mode_named b)) (of_significant trailing.TrimAll (significant_named a) (mode_named b) refl)
    by false is =
        of_places (places_named a) (position_named a) (mode_named b) (increment_named c) (old_increment_named c) (places_stay a) (increment_stays c)

of_four : (a b c d : List ℕ) → StaysRounding (digits_in (a ∷ b ∷ c ∷ d ∷ [])) None
of_four a b c d = by (is_whole d)
  where
    by : (whole : Bool) → StaysRounding (if whole then whole_by (places_named a) (mode_named b) (increment_named c) else either_by trailing.Trim (places_named a) (significant_named b) (priority_named c) (mode_named d)) None
    by true = of_whole (places_named a) (mode_named b) (increment_named c)
    by false = of_either trailing.Trim (places_named a) (significant_named b) (priority_named c) (mode_named d) refl

of_five : (a b c d e : List ℕ) → StaysRounding (digits_in (a ∷ b ∷ c ∷ d ∷ e ∷ [])) None
of_five a b c d e = by (is_whole e)
  where
    by : (whole : Bool) → StaysRounding (if whole then either_by trailing.TrimAll (places_named a) (significant_named b) (priority_named c) (mode_named d) else None) None
    by true = of_either trailing.TrimAll (places_named a) (significant_named b) (priority_named c) (mode_named d) refl
    by false = no_rounding refl refl

words_stay : (words : List (List ℕ)) → StaysRounding (digits_in words) (old_rounding_in words)
words_stay [] = no_rounding refl refl
words_stay (a ∷ []) = no_rounding refl refl
words_stay (a ∷ b ∷ []) = of_significant trailing.Trim (significant_named a) (mode_named b) refl
words_stay (a ∷ b ∷ c ∷ []) = of_three a b c
words_stay (a ∷ b ∷ c ∷ d ∷ []) = of_four a b c d
words_stay (a ∷ b ∷ c ∷ d ∷ e ∷ []) = of_five a b c d e
words_stay (a ∷ b ∷ c ∷ d ∷ e ∷ f ∷ more) = no_rounding refl refl

cash_is_one_word : (word : List ℕ) → bytes_eq word (codes "cash") ≡ true → old_rounding_in (cut_at comma word) ≡ None
cash_is_one_word word is = let w : word ≡ codes "cash" = (bytes_eq-Decides word (codes "cash")).0 is in rw w refl

rounding_stays : (word : List ℕ) → StaysRounding (rounding_named word) (old_rounding_named word)
rounding_stays word = by (bytes_eq word (codes "-")) (bytes_eq word (codes "cash")) refl
  where
    by : (dash cash : Bool) → bytes_eq word (codes "cash") ≡ cash
        → StaysRounding (if dash then Some (all_of Usual) else if cash then Some (all_of Cash) else digits_in (cut_at comma word)) (if dash then Some (all_of Usual) else old_rounding_in (cut_at comma word))
    by true cash is = same_rounding Usual refl refl refl
    by false true is = added_cash refl (cash_is_one_word word is)
    by false false is = words_stay (cut_at comma word)

-- ---- requests

-- no unit that was there is a currency
no_amount : (unit : NumberUnit) → is_added_unit unit ≡ false → is_amount unit ≡ false
no_amount unit.None old = refl
no_amount (unit.Percent sign) old = refl
no_amount (unit.Currency currency) old = absurd (cc)

or_false : (b : Bool) → (b || false) ≡ b
or_false true = refl
or_false false = refl

and_false : (b : Bool) → (b && false) ≡ false
and_false true = refl
and_false false = refl

-- an old form takes what it took
takes_so : (task : Task) (unit : NumberUnit) (sign : SignAsked) (rounding : Rounding) → is_added_task task unit ≡ false → is_cash rounding ≡ false → takes task unit sign rounding ≡ old_takes task sign rounding
takes_so Write unit sign rounding old is = rw (no_amount unit old, is) refl
takes_so WriteExact unit sign rounding old is = refl
takes_so Read unit sign rounding old is = rw (no_amount unit old, or_false (keeps_digits rounding)) refl
takes_so ReadLenient unit sign rounding old is = absurd (cc)
takes_so (Category rule_type) unit sign rounding old is = absurd (cc)
takes_so RangeCategory unit sign rounding old is = absurd (cc)

-- and no cash
takes_no_cash : (task : Task) (unit : NumberUnit) (sign : SignAsked) → is_added_task task unit ≡ false → takes task unit sign Cash ≡ false
takes_no_cash Write unit sign old = rw (no_amount unit old) refl
takes_no_cash WriteExact unit sign old = refl
takes_no_cash Read unit sign old = rw (no_amount unit old) (and_false (keeps_sign sign))
takes_no_cash ReadLenient unit sign old = absurd (cc)
takes_no_cash (Category rule_type) unit sign old = absurd (cc)
takes_no_cash RangeCategory unit sign old = absurd (cc)

-- options that go into a notation do not change whether it was added, and those of one that was there are beside it
stays_added : (options : NumberOptions) (notation : Notation) → is_added_notation (notation_with options notation) ≡ is_added_notation notation
stays_added options Standard = refl
stays_added options (Compact width) = refl
stays_added options (CompactDigits width others) = refl
stays_added options (Scientific style others) = refl

are_beside : (options : NumberOptions) (notation : Notation) → is_added_notation notation ≡ false → options_beside options notation ≡ options
are_beside options Standard old = refl
are_beside options (Compact width) old = refl
are_beside options (CompactDigits width others) old = refl
are_beside options (Scientific style others) old = absurd (cc)

module _ (tag : List ℕ) (text : List ℕ) where
  -- a request, where the form takes the other fields
  abbrev asks : Bool → Task → NumberFormat → Option Asked
  asks b task format = asked_by tag (if b then Some (task, format) else None) text

  taken : (now before : Bool) (task : Task) (format : NumberFormat) → now ≡ before
      → is_added (record { tag = tag; task = task; format = format; text = text }) ≡ false → StaysRequest (asks now task format) (asks before task format)
  taken true true task format is old = same (record { tag = tag; task = task; format = format; text = text }) old refl refl
  taken false false task format is old = none refl refl
  taken true false task format is old = absurd (cc)
  taken false true task format is old = absurd (cc)

  not_taken : (now : Bool) (task : Task) (format : NumberFormat) → now ≡ false → StaysRequest (asks now task format) None
  not_taken true task format is = absurd (cc)
  not_taken false task format is = none refl refl

  newly_taken : (now : Bool) (task : Task) (format : NumberFormat) → is_added (record { tag = tag; task = task; format = format; text = text }) ≡ true
      → StaysRequest (asks now task format) None
  newly_taken true task format new = added (record { tag = tag; task = task; format = format; text = text }) new refl refl
  newly_taken false task format new = none refl refl

  either_true : (a b : Bool) → b ≡ true → (a || b) ≡ true
  either_true true b is = refl
  either_true false b is = is

  notation_or_task : (g n t a : Bool) → (n || a) ≡ true → ((g || n) || (t || a)) ≡ true
  notation_or_task true n t a is = refl
  notation_or_task false true t a is = refl
  notation_or_task false false true a is = refl
  notation_or_task false false false a is = is

  notation_or_zeros : (g n t a : Bool) → (n || t) ≡ true → ((g || n) || (t || a)) ≡ true
  notation_or_zeros true n t a is = refl
  notation_or_zeros false true t a is = refl
  notation_or_zeros false false true a is = refl
  notation_or_zeros false false false a is = absurd (cc)

  neither : (g n a : Bool) → g ≡ false → n ≡ false → a ≡ false → ((g || n) || a) ≡ false
  neither true n a first second third = absurd (cc)
  neither false true a first second third = absurd (cc)
  neither false false a first second third = third

  with_old : (form : FormAsked) (g : GroupingStrategy) (s : Option SignAsked) (now before : Option DigitsAsked) → IsOld form → is_added_grouping g ≡ false → StaysRounding now before
      → StaysRequest (request_by tag (Some form) (Some g) s now text) (old_request_by tag (Some form) (Some g) s before text)
  with_old (OfWord task notation unit) g None now before old plain stays = none refl refl
  with_old (OfWord task notation unit) g (Some s) now before old plain (same_rounding rounding is e d) =
      rw (e, d) (taken (takes task unit s rounding) (old_takes task s rounding) task (format_by notation unit g s (all_of rounding)) (takes_so task unit s rounding old.done is)
      (rw (stays_added (options_by s (all_of rounding)) notation, are_beside (options_by s (all_of rounding)) notation old.digits)
      (neither (is_added_grouping g) (is_added_notation notation) (is_added_task task unit) plain old.digits old.done)))
  with_old (OfWord task notation unit) g (Some s) now before old plain (no_rounding e d) = rw (e, d) (none refl refl)
  with_old (OfWord task notation unit) g (Some s) now before old plain (added_cash e d) =
      rw (e, d) (not_taken (takes task unit s Cash) task (format_by notation unit g s (all_of Cash)) (takes_no_cash task unit s old.done))
  with_old (OfWord task notation unit) g (Some s) now before old plain (added_digits digits new e d) =
      rw (e, d) (newly_taken (takes task unit s digits.rounding) task (format_by notation unit g s digits)
      (rw (are_beside (options_by s digits) notation old.digits)
      (either_true (is_added_grouping g || is_added_notation (notation_with (options_by s digits) notation)) (trims digits.leading_zeros digits.zeros || is_added_task task unit) (rw new refl))))
  with_old (OfSkeleton task format) g s now before old plain stays = absurd old

  with_new : (form : FormAsked) (g : Option GroupingStrategy) (s : Option SignAsked) (now : Option DigitsAsked) → IsNew form → StaysRequest (request_by tag (Some form) g s now text) None
  with_new form None s now new = none refl refl
  with_new form (Some g) None now new = none refl refl
  with_new form (Some g) (Some s) None new = none refl refl
  with_new (OfWord task notation unit) (Some g) (Some s) (Some d) new =
      let options : NumberOptions = options_by s d in
      let beside : NumberOptions = options_beside options notation in
      newly_taken (takes task unit s d.rounding) task (format_by notation unit g s d)
      (rw (stays_added options notation) (notation_or_task (is_added_grouping g) (is_added_notation notation) (trims beside.leading_zeros beside.zeros) (is_added_task task unit) new))
  with_new (OfSkeleton task format) (Some g) (Some s) (Some d) new =
      newly_taken (says_nothing g s d.rounding) task format
      (notation_or_zeros (is_added_grouping format.shape.grouping) (is_added_notation format.shape.notation) (trims format.options.leading_zeros format.options.zeros)
      (is_added_task task format.shape.unit) new)

  -- the grouping that was added goes with no skeleton
  with_aligned : (form : FormAsked) (s : Option SignAsked) (now : Option DigitsAsked) → StaysRequest (request_by tag (Some form) (Some grouping.OnAligned) s now text) None
  with_aligned form None now = none refl refl
  with_aligned form (Some s) None = none refl refl
  with_aligned (OfWord task notation unit) (Some s) (Some d) = newly_taken (takes task unit s d.rounding) task (format_by notation unit grouping.OnAligned s d) refl
  with_aligned (OfSkeleton task format) (Some s) (Some d) = none refl refl

  request_stays : (form old_form : Option FormAsked) (g old_g : Option GroupingStrategy) (s : Option SignAsked) (now before : Option DigitsAsked)
      → StaysForm form old_form → StaysGrouping g old_g → StaysRounding now before
      → StaysRequest (request_by tag form g s now text) (old_request_by tag old_form old_g s before text)
  request_stays form old_form g old_g s now before (same_form f old e d) (same_grouping h plain a b) stays = rw (e, d, a, b) (with_old f h s now before old plain stays)
  request_stays form old_form g old_g s now before (same_form f old e d) (no_grouping a b) stays = rw (e, d, a, b) (none refl refl)
  request_stays form old_form g old_g s now before (same_form f old e d) (added_grouping a b) stays = rw (e, d, a, b) (with_aligned f s now)
  request_stays form old_form g old_g s now before (no_form e d) grouped stays = rw (e, d) (none refl refl)
  request_stays form old_form g old_g s now before (added_form f new e d) grouped stays = rw (e, d) (with_new f g s now new)

fields_stay : (list : List (List ℕ)) → StaysRequest (request_in list) (old_request_in list)
fields_stay [] = none refl refl
fields_stay (a ∷ []) = none refl refl
fields_stay (a ∷ b ∷ []) = none refl refl
fields_stay (a ∷ b ∷ c ∷ []) = none refl refl
fields_stay (a ∷ b ∷ c ∷ d ∷ []) = none refl refl
fields_stay (a ∷ b ∷ c ∷ d ∷ e ∷ []) = none refl refl
fields_stay (tag ∷ form ∷ grouping ∷ sign ∷ rounding ∷ text ∷ []) =
    request_stays tag text (form_named form) (old_form_named form) (grouping_named grouping) (old_grouping_named grouping) (sign_named sign) (rounding_named rounding) (old_rounding_named rounding) (form_stays form) (grouping_stays grouping) (rounding_stays rounding)
fields_stay (a ∷ b ∷ c ∷ d ∷ e ∷ f ∷ g ∷ more) = none refl refl

pub stay : OldRequestsStay
stay line = by (is_utf8 line)
  where
    by : (b : Bool) → StaysRequest (if b then request_in (fields line) else None) (if b then old_request_in (fields line) else None)
    by true = fields_stay (fields line)
    by false = none refl refl
