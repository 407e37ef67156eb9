-- The words of the normal text of a skeleton, one after the other, set what it has.
use Rattle.std.proofs.Common.{◌≡◌, ◌≢◌, ℕ, zero, suc, ◌+◌, ◌-◌, ◌<◌, ◌≤◌, nat_le, nat_lt, Bool, true, false, not, ◌&&◌, ◌==◌, List, [], ◌∷◌, ◌++◌, length, drop, Option, Some, None, unwrap_or, Ok, codes, cond, refl, sym, ap, subst, ◌∙◌, append-nil, arith}
use Rattle.std.specs.Char.{is_ascii_uppercase, to_ascii_uppercase}
use Rattle.std.specs.List.{list_all, onto_first}
use Rattle.std.proofs.lemmas.Bool.{and_parts, false_from_ne_true, false≢true, eqb-true, le-ltb, leb-true, lt-ltb, ne_eqb}
use Rattle.std.proofs.lemmas.List.{length-append}
use Rattle.std.proofs.lemmas.List.Splits.{slice_split-cons_no}
use Rattle.fixed_decimal.specs.declared.RoundingIncrement.{RoundingIncrement}
use Rattle.fixed_decimal.specs.declared.SignDisplay.{SignDisplay}
use Rattle.fixed_decimal.specs.declared.SignDisplay.TheVariants as display
use Rattle.fixed_decimal.specs.declared.SignedRoundingMode.{SignedRoundingMode}
use Rattle.fixed_decimal.specs.declared.SignedRoundingMode.TheVariants.{Unsigned, Ceil, Floor, HalfCeil, HalfFloor}
use Rattle.fixed_decimal.specs.declared.UnsignedRoundingMode.TheVariants.{Expand, Trunc, HalfExpand, HalfTrunc, HalfEven}
use Rattle.icu_decimal_scientific.specs.declared.notation.ScientificNotation.{ScientificNotation}
use Rattle.icu_decimal_scientific.specs.declared.notation.ScientificNotation.TheVariants.{Scientific, Engineering}
use Rattle.icu_decimal_scientific.specs.declared.shown.ExponentSign.{ExponentSign}
use Rattle.icu_decimal_scientific.specs.declared.shown.ExponentSign.TheVariants.{Auto, Always}
use Rattle.icu_dimension_fractions.specs.CurrencyCodes.{is_currency_code}
use Rattle.icu_dimension_fractions.specs.declared.CurrencyStyle.{CurrencyStyle}
use Rattle.icu_dimension_fractions.specs.declared.CurrencyStyle.TheVariants as style
use Rattle.icu_dimension_fractions.specs.declared.CurrencyUsage.TheVariants.{Standard, Cash}
use Rattle.icu_dimension_fractions.specs.declared.CurrencyWidth.{CurrencyWidth}
use Rattle.icu_dimension_fractions.specs.declared.CurrencyWidth.TheVariants as width
use Rattle.icu_dimension_fractions.specs.declared.PercentSign.{PercentSign}
use Rattle.icu_dimension_fractions.specs.declared.PercentSign.TheVariants as sign
use Rattle.locale_numbers_formats.proofs.ExponentReads.{alone_are, leading_run, scientific_named}
use Rattle.locale_numbers_formats.proofs.IncrementReads.{increment_read, number_lacks}
use Rattle.locale_numbers_formats.specs.Cutting.{cut_at, is_separator}
use Rattle.locale_numbers_formats.specs.ExponentWords.{shown_by}
use Rattle.locale_numbers_formats.specs.Marks.{digits_counted, digits_end, digits_hashes, digits_setting, either_counted, either_end, either_hashes, either_setting, fraction_counted, fraction_end, fraction_hashes, fraction_setting, option_setting, whole_or, zeros_or}
use Rattle.locale_numbers_formats.specs.Runs.{leading}
use Rattle.locale_numbers_formats.specs.NormalText.{digits_word, either_mark, exponent_mark, exponent_sign_mark, grouping_word, joined, marks, mode_word, normal_words, notation_word, number_text, percent_word, pointed, precision_word, priority_mark, scientific_stem, sign_word, sign_word_by, at_signs, skeleton_text, unit_word, whole_mark, width_word}
use Rattle.locale_numbers_formats.specs.SkeletonLaws.{HasCode, HasExponents, HasMarks, IsSkeleton, NormalTextReadsBack}
use Rattle.locale_numbers_formats.specs.Skeletons.{at_place, checked, checked_by, no_words, pair_fault, read_words, set, settled, skeleton_of, space, then_read, usual_grouping}
use Rattle.locale_numbers_formats.specs.Stems.{capital_code, coded, setting_named, slashed_at}
use Rattle.locale_numbers_formats.specs.declared.options.RoundingPriority.{RoundingPriority}
use Rattle.locale_numbers_formats.specs.declared.options.RoundingPriority.TheVariants.{MorePrecision, LessPrecision}
use Rattle.locale_numbers_formats.specs.declared.shape.CompactWidth.TheVariants.{Short, Long}
use Rattle.locale_numbers_formats.specs.declared.skeleton.Skeleton.{Skeleton}
use Rattle.locale_numbers_formats.specs.declared.skeleton.SettingKind.{SettingKind}
use Rattle.locale_numbers_formats.specs.declared.skeleton.Words.{Words}
use Rattle.locale_numbers_formats.specs.declared.skeleton_error.WordFault.{WordFault}
use Rattle.locale_numbers_formats.specs.declared.skeleton_error.WordFault.TheVariants.{Code, Unknown, Unsupported}
use Rattle.locale_numbers_formats.specs.declared.stems.Precision.{Precision}
use Rattle.locale_numbers_formats.specs.declared.stems.Precision.TheVariants as precision
use Rattle.locale_numbers_formats.specs.declared.stems.Setting.{Setting}
use Rattle.locale_numbers_formats.specs.declared.stems.Setting.TheVariants.{OfPrecision, OfUnit, OfWhole, Refused}
use Rattle.locale_numbers_formats.specs.declared.stems.SkeletonGrouping.{SkeletonGrouping}
use Rattle.locale_numbers_formats.specs.declared.stems.SkeletonGrouping.TheVariants as grouping
use Rattle.locale_numbers_formats.specs.declared.stems.SkeletonNotation.{SkeletonNotation}
use Rattle.locale_numbers_formats.specs.declared.stems.SkeletonNotation.TheVariants as notation
use Rattle.locale_numbers_formats.specs.declared.stems.SkeletonSign.{SkeletonSign}
use Rattle.locale_numbers_formats.specs.declared.stems.SkeletonUnit.{SkeletonUnit}
use Rattle.locale_numbers_formats.specs.declared.stems.SkeletonUnit.TheVariants as unit
use Rattle.locale_numbers_formats.specs.declared.stems.WholeZeros.{WholeZeros}
use Rattle.locale_numbers_formats.specs.declared.stems.WholeZeros.TheVariants.{Shown, Hidden}

-- ---- words without spaces

abbrev is_clear : ℕ → Bool
is_clear c = not (c == space)

abbrev is_clear_word : List ℕ → Bool
is_clear_word word = list_all is_clear word

is_false : (b : Bool) → not b ≡ true → b ≡ false
is_false true flipped = sym flipped
is_false false _ = refl

both : (a b : Bool) → a ≡ true → b ≡ true → (a && b) ≡ true
both true b one other = other
both false b one other = one

-- the words that are there
abbrev present : List (Option (List ℕ)) → List (List ℕ)
present [] = []
present (None ∷ words) = present words
present (Some word ∷ words) = word ∷ present words

abbrev is_clear_option : Option (List ℕ) → Bool
is_clear_option None = true
is_clear_option (Some word) = is_clear_word word

abbrev are_clear : List (Option (List ℕ)) → Bool
are_clear words = list_all is_clear_option words

-- the pieces of a word before a space
cut_word : (word rest : List ℕ) → is_clear_word word ≡ true → cut_at space (word ++ space ∷ rest) ≡ word ∷ cut_at space rest
cut_word [] rest clear = refl
cut_word (x ∷ xs) rest clear =
    let p = and_parts (is_clear x) (is_clear_word xs) clear in
    slice_split-cons_no (is_separator space) x (xs ++ space ∷ rest) (is_false (x == space) p.0)
    ∙ ap (onto_first x) (cut_word xs rest p.1)

cut_last : (word : List ℕ) → is_clear_word word ≡ true → cut_at space word ≡ word ∷ []
cut_last [] clear = refl
cut_last (x ∷ xs) clear =
    let p = and_parts (is_clear x) (is_clear_word xs) clear in
    slice_split-cons_no (is_separator space) x xs (is_false (x == space) p.0) ∙ ap (onto_first x) (cut_last xs p.1)

cut_tail : (word : List ℕ) (words : List (Option (List ℕ))) → is_clear_word word ≡ true → are_clear words ≡ true → cut_at space (word ++ joined true words) ≡ word ∷ present words
cut_tail word [] clear others = ap (cut_at space) (append-nil word) ∙ cut_last word clear
cut_tail word (None ∷ words) clear others = cut_tail word words clear others
cut_tail word (Some next ∷ words) clear others =
    let p = and_parts (is_clear_word next) (are_clear words) others in
    cut_word word (next ++ joined true words) clear ∙ ap (λ (ws : List (List ℕ)). word ∷ ws) (cut_tail next words p.0 p.1)

-- the joined words are read as the words
read_joined : (words : List (Option (List ℕ))) (w : Words) → are_clear words ≡ true → read_words 0 (cut_at space (joined false words)) w ≡ read_words 0 (present words) w
read_joined [] w clear = refl
read_joined (None ∷ words) w clear = read_joined words w clear
read_joined (Some word ∷ words) w clear =
    let p = and_parts (is_clear_word word) (are_clear words) clear in
    ap (λ (ws : List (List ℕ)). read_words 0 ws w) (cut_tail word words p.0 p.1)

-- ---- no word has a space

clear_capitals : (code : List ℕ) → list_all is_ascii_uppercase code ≡ true → is_clear_word code ≡ true
clear_capitals [] capitals = refl
clear_capitals (x ∷ xs) capitals =
    let p = and_parts (is_ascii_uppercase x) (list_all is_ascii_uppercase xs) capitals in
    let other : (x == space) ≡ false = false_from_ne_true (x == space) (λ is. false≢true (subst (λ c. is_ascii_uppercase c ≡ true) (eqb-true x space is) p.0)) in
    both (is_clear x) (is_clear_word xs) (ap not other) (clear_capitals xs p.1)

clear_append : (one other : List ℕ) → is_clear_word one ≡ true → is_clear_word other ≡ true → is_clear_word (one ++ other) ≡ true
clear_append [] other first second = second
clear_append (x ∷ xs) other first second =
    let p = and_parts (is_clear x) (is_clear_word xs) first in
    both (is_clear x) (is_clear_word (xs ++ other)) p.0 (clear_append xs other p.1 second)

clear_zeros : (count : ℕ) → is_clear_word (marks count (48 ∷ [])) ≡ true
clear_zeros zero = refl
clear_zeros (suc count) = clear_zeros count

clear_hashes : (count : ℕ) → is_clear_word (marks count (35 ∷ [])) ≡ true
clear_hashes zero = refl
clear_hashes (suc count) = clear_hashes count

clear_signs : (count : ℕ) → is_clear_word (marks count (64 ∷ [])) ≡ true
clear_signs zero = refl
clear_signs (suc count) = clear_signs count

clear_at_signs : (signs hashes : ℕ) (behind : List ℕ) → is_clear_word behind ≡ true → is_clear_word (at_signs signs hashes behind) ≡ true
clear_at_signs signs hashes behind clear =
    clear_append (marks signs (64 ∷ [])) (marks hashes (35 ∷ []) ++ behind) (clear_signs signs) (clear_append (marks hashes (35 ∷ [])) behind (clear_hashes hashes) clear)

clear_whole : (z : WholeZeros) → is_clear_word (whole_mark z) ≡ true
clear_whole Shown = refl
clear_whole Hidden = refl

clear_priority : (p : RoundingPriority) (z : WholeZeros) → is_clear_word (priority_mark p ++ whole_mark z) ≡ true
clear_priority MorePrecision z = clear_whole z
clear_priority LessPrecision z = clear_whole z

clear_either : (digits others : ℕ) (p : RoundingPriority) (z : WholeZeros) → is_clear_word (either_mark digits others p z) ≡ true
clear_either zero others MorePrecision z = clear_at_signs others 0 (codes "*" ++ whole_mark z) (clear_whole z)
clear_either zero others LessPrecision z = clear_at_signs 1 (others - 1) (whole_mark z) (clear_whole z)
clear_either (suc digits) others p z = clear_at_signs (suc digits) others (priority_mark p ++ whole_mark z) (clear_priority p z)

clear_pointed : (zeros hashes : ℕ) (behind : List ℕ) → is_clear_word behind ≡ true → is_clear_word (pointed zeros hashes behind) ≡ true
clear_pointed zeros hashes behind clear =
    clear_append (marks zeros (48 ∷ [])) (marks hashes (35 ∷ []) ++ behind) (clear_zeros zeros) (clear_append (marks hashes (35 ∷ [])) behind (clear_hashes hashes) clear)

clear_exponents : (count : ℕ) → is_clear_word (marks count (101 ∷ [])) ≡ true
clear_exponents zero = refl
clear_exponents (suc count) = clear_exponents count

clear_exponent_sign : (sign : ExponentSign) → is_clear_word (exponent_sign_mark sign) ≡ true
clear_exponent_sign Auto = refl
clear_exponent_sign Always = refl

clear_exponent_mark : (digits : ℕ) → is_clear_word (exponent_mark digits) ≡ true
clear_exponent_mark zero = refl
clear_exponent_mark (suc digits) = clear_exponents (suc digits)

clear_scientific : (x : ScientificNotation) (digits : ℕ) (sign : ExponentSign) → is_clear_word (scientific_stem x ++ (exponent_mark digits ++ exponent_sign_mark sign)) ≡ true
clear_scientific Scientific digits sign = clear_append (exponent_mark digits) (exponent_sign_mark sign) (clear_exponent_mark digits) (clear_exponent_sign sign)
clear_scientific Engineering digits sign = clear_append (exponent_mark digits) (exponent_sign_mark sign) (clear_exponent_mark digits) (clear_exponent_sign sign)

clear_notation : (n : SkeletonNotation) → is_clear_option (notation_word n) ≡ true
clear_notation notation.Standard = refl
clear_notation (notation.Compact Short) = refl
clear_notation (notation.Compact Long) = refl
clear_notation (notation.Scientific style) = clear_scientific style.notation style.exponents.least_digits style.exponents.sign

clear_percent : (s : PercentSign) → is_clear_word (percent_word s) ≡ true
clear_percent sign.Percent = refl
clear_percent sign.Permille = refl

clear_unit : (u : SkeletonUnit) → HasCode u → is_clear_option (unit_word u) ≡ true
clear_unit unit.None has = refl
clear_unit (unit.Percent s) has = clear_percent s
clear_unit (unit.Currency code) has = clear_capitals code (and_parts (length code == 3) (list_all is_ascii_uppercase code) has).1

clear_precision : (p : Precision) → is_clear_option (precision_word p) ≡ true
clear_precision precision.Usual = refl
clear_precision precision.Unlimited = refl
clear_precision (precision.Fraction least more) = at ((least == 0) && (more == 0))
  where
    at : (b : Bool) → is_clear_word (cond b (codes "precision-integer") (pointed least more [])) ≡ true
    at true = refl
    at false = clear_pointed least more [] refl
clear_precision (precision.AtLeast least) = clear_pointed least 0 (codes "*") refl
clear_precision (precision.Whole least more) = clear_pointed least more (codes "/w") refl
clear_precision (precision.Significant least more z) = clear_at_signs least more (whole_mark z) (clear_whole z)
clear_precision (precision.SignificantAtLeast least z) = clear_at_signs least 0 (codes "*" ++ whole_mark z) (clear_whole z)
clear_precision (precision.Either least more digits others p z) = clear_pointed least more (codes "/" ++ either_mark digits others p z) (clear_either digits others p z)
clear_precision (precision.Increment step zeros digits z) =
    clear_append (number_text step zeros digits) (whole_mark z) (number_lacks space refl step zeros digits) (clear_whole z)
clear_precision (precision.Currency Standard) = refl
clear_precision (precision.Currency Cash) = refl
clear_precision (precision.WholeCurrency Standard) = refl
clear_precision (precision.WholeCurrency Cash) = refl

clear_mode : (m : SignedRoundingMode) → is_clear_option (mode_word m) ≡ true
clear_mode (Unsigned HalfEven) = refl
clear_mode (Unsigned Expand) = refl
clear_mode (Unsigned Trunc) = refl
clear_mode (Unsigned HalfExpand) = refl
clear_mode (Unsigned HalfTrunc) = refl
clear_mode Ceil = refl
clear_mode Floor = refl
clear_mode HalfCeil = refl
clear_mode HalfFloor = refl

clear_grouping : (n : SkeletonNotation) (g : SkeletonGrouping) → is_clear_option (grouping_word n g) ≡ true
clear_grouping notation.Standard grouping.Auto = refl
clear_grouping notation.Standard grouping.Off = refl
clear_grouping notation.Standard grouping.Min2 = refl
clear_grouping notation.Standard grouping.OnAligned = refl
clear_grouping (notation.Compact p) grouping.Auto = refl
clear_grouping (notation.Compact p) grouping.Off = refl
clear_grouping (notation.Compact p) grouping.Min2 = refl
clear_grouping (notation.Compact p) grouping.OnAligned = refl
clear_grouping (notation.Scientific p) grouping.Auto = refl
clear_grouping (notation.Scientific p) grouping.Off = refl
clear_grouping (notation.Scientific p) grouping.Min2 = refl
clear_grouping (notation.Scientific p) grouping.OnAligned = refl

clear_digits : (digits : ℕ) → is_clear_option (digits_word digits) ≡ true
clear_digits zero = refl
clear_digits (suc digits) = clear_append (marks (suc digits) (48 ∷ [])) [] (clear_zeros (suc digits)) refl

clear_width : (w : CurrencyWidth) → is_clear_option (width_word w) ≡ true
clear_width width.Short = refl
clear_width width.IsoCode = refl

clear_sign : (s : CurrencyStyle) (d : SignDisplay) → is_clear_option (sign_word_by s d) ≡ true
clear_sign style.Standard display.Auto = refl
clear_sign style.Standard display.Never = refl
clear_sign style.Standard display.Always = refl
clear_sign style.Standard display.ExceptZero = refl
clear_sign style.Standard display.Negative = refl
clear_sign style.Accounting display.Auto = refl
clear_sign style.Accounting display.Never = refl
clear_sign style.Accounting display.Always = refl
clear_sign style.Accounting display.ExceptZero = refl
clear_sign style.Accounting display.Negative = refl

clear_cons : (word : Option (List ℕ)) (words : List (Option (List ℕ))) → is_clear_option word ≡ true → are_clear words ≡ true → are_clear (word ∷ words) ≡ true
clear_cons word words one others = both (is_clear_option word) (are_clear words) one others

clear_words : (s : Skeleton) → HasCode s.unit → are_clear (normal_words s) ≡ true
clear_words s has =
    let signs = sign_word s.sign ∷ [] in
    let widths = width_word s.width ∷ signs in
    let digits = digits_word s.integer_digits ∷ widths in
    let groupings = grouping_word s.notation s.grouping ∷ digits in
    let modes = mode_word s.mode ∷ groupings in
    let precisions = precision_word s.precision ∷ modes in
    let units = unit_word s.unit ∷ precisions in
    clear_cons (notation_word s.notation) units (clear_notation s.notation)
    (clear_cons (unit_word s.unit) precisions (clear_unit s.unit has)
    (clear_cons (precision_word s.precision) modes (clear_precision s.precision)
    (clear_cons (mode_word s.mode) groupings (clear_mode s.mode)
    (clear_cons (grouping_word s.notation s.grouping) digits (clear_grouping s.notation s.grouping)
    (clear_cons (digits_word s.integer_digits) widths (clear_digits s.integer_digits)
    (clear_cons (width_word s.width) signs (clear_width s.width)
    (clear_cons (sign_word s.sign) [] (clear_sign s.sign.style s.sign.display) refl)))))))

-- ---- runs of marks

drop_marks : (count mark : ℕ) (rest : List ℕ) → drop count (marks count (mark ∷ []) ++ rest) ≡ rest
drop_marks zero mark rest = refl
drop_marks (suc count) mark rest = drop_marks count mark rest

no_zero : (hashes : ℕ) (behind : List ℕ) → leading 48 behind ≡ 0 → leading 48 (marks hashes (35 ∷ []) ++ behind) ≡ 0
no_zero zero behind none = none
no_zero (suc hashes) behind none = refl

no_sign : (hashes : ℕ) (behind : List ℕ) → leading 64 behind ≡ 0 → leading 64 (marks hashes (35 ∷ []) ++ behind) ≡ 0
no_sign zero behind none = none
no_sign (suc hashes) behind none = refl

-- what a point sets
fraction_is : (least more : ℕ) (behind : List ℕ) → leading 48 behind ≡ 0 → leading 35 behind ≡ 0 → least + more ≤ 100
    → fraction_setting (marks least (48 ∷ []) ++ (marks more (35 ∷ []) ++ behind)) ≡ fraction_end least more behind
fraction_is least more behind zeros hashes few =
    ap (λ (n : ℕ). fraction_hashes n (drop n whole)) (leading_run 48 least tail (no_zero more behind zeros))
    ∙ ap (fraction_hashes least) (drop_marks least 48 tail)
    ∙ ap (λ (n : ℕ). fraction_counted least n (drop n tail)) (leading_run 35 more behind hashes)
    ∙ ap (fraction_counted least more) (drop_marks more 35 behind)
    ∙ ap (λ (b : Bool). cond b (Refused Unknown) (fraction_end least more behind)) (le-ltb 100 (least + more) few)
  where
    tail : List ℕ
    tail = marks more (35 ∷ []) ++ behind

    whole : List ℕ
    whole = marks least (48 ∷ []) ++ tail

one_more : (n : ℕ) → 1 + n ≡ suc n
one_more n = omega arith

-- what an at-sign sets
digits_is : (signs more : ℕ) (behind : List ℕ) → leading 64 behind ≡ 0 → leading 35 behind ≡ 0 → suc signs + more ≤ 100
    → digits_setting (at_signs signs more behind) ≡ digits_end (suc signs) more behind
digits_is signs more behind none hashes few =
    ap (λ (n : ℕ). digits_hashes (1 + n) (drop n (at_signs signs more behind))) (leading_run 64 signs tail (no_sign more behind none))
    ∙ ap (λ (n : ℕ). digits_hashes n (drop signs (at_signs signs more behind))) (one_more signs)
    ∙ ap (digits_hashes (suc signs)) (drop_marks signs 64 tail)
    ∙ ap (λ (n : ℕ). digits_counted (suc signs) n (drop n tail)) (leading_run 35 more behind hashes)
    ∙ ap (digits_counted (suc signs) more) (drop_marks more 35 behind)
    ∙ ap (λ (b : Bool). cond b (Refused Unknown) (digits_end (suc signs) more behind)) (le-ltb 100 (suc signs + more) few)
  where
    tail : List ℕ
    tail = marks more (35 ∷ []) ++ behind

-- what one beside a fraction sets
either_is : (least more signs others : ℕ) (behind : List ℕ) → leading 64 behind ≡ 0 → leading 35 behind ≡ 0 → suc signs + others ≤ 100
    → either_setting least more (at_signs signs others behind) ≡ either_end least more (suc signs) others behind
either_is least more signs others behind none hashes few =
    ap (λ (n : ℕ). either_hashes least more (1 + n) (drop n (at_signs signs others behind))) (leading_run 64 signs tail (no_sign others behind none))
    ∙ ap (λ (n : ℕ). either_hashes least more n (drop signs (at_signs signs others behind))) (one_more signs)
    ∙ ap (either_hashes least more (suc signs)) (drop_marks signs 64 tail)
    ∙ ap (λ (n : ℕ). either_counted least more (suc signs) n (drop n tail)) (leading_run 35 others behind hashes)
    ∙ ap (either_counted least more (suc signs) others) (drop_marks others 35 behind)
    ∙ ap (λ (b : Bool). cond b (Refused Unknown) (either_end least more (suc signs) others behind)) (le-ltb 100 (suc signs + others) few)
  where
    tail : List ℕ
    tail = marks others (35 ∷ []) ++ behind

-- ---- words with a slash

-- a capital is its own
capital_stays : (c : ℕ) → is_ascii_uppercase c ≡ true → to_ascii_uppercase c ≡ c
capital_stays c capital =
    let p = and_parts (nat_le 65 c) (nat_le c 90) capital in
    let most = leb-true c 90 p.1 in
    ap (λ (b : Bool). cond b c (cond (nat_lt c 123) (c - 32) c)) (lt-ltb c 97 (omega (arith, most)))

capital_named : (code : List ℕ) → length code ≡ 3 → list_all is_ascii_uppercase code ≡ true → coded code ≡ OfUnit (unit.Currency code)
capital_named [] long capitals = absurd (omega (arith, long))
capital_named (a ∷ []) long capitals = absurd (omega (arith, long))
capital_named (a ∷ b ∷ []) long capitals = absurd (omega (arith, long))
capital_named (a ∷ b ∷ c ∷ []) long capitals =
    let first = and_parts (is_ascii_uppercase a) (list_all is_ascii_uppercase (b ∷ c ∷ [])) capitals in
    let second = and_parts (is_ascii_uppercase b) (list_all is_ascii_uppercase (c ∷ [])) first.1 in
    let third = and_parts (is_ascii_uppercase c) true second.1 in
    ap capital_code (λ i. capital_stays a first.0 i ∷ capital_stays b second.0 i ∷ capital_stays c third.0 i ∷ [])
    ∙ ap (λ (t : Bool). cond t (OfUnit (unit.Currency (a ∷ b ∷ c ∷ []))) (Refused Code)) capitals
capital_named (a ∷ b ∷ c ∷ d ∷ ds) long capitals = absurd (omega (arith, long))

code_named : (code : List ℕ) → is_currency_code code ≡ true → setting_named (codes "currency/" ++ code) ≡ OfUnit (unit.Currency code)
code_named code has =
    ap (λ (b : Bool). slashed_at (cond b (Some 8) None) (codes "currency/" ++ code)) (lt-ltb 8 (length (codes "currency/" ++ code)) (omega (arith, length-append (codes "currency/") code)))
    ∙ (let p = and_parts (length code == 3) (list_all is_ascii_uppercase code) has in capital_named code (eqb-true (length code) 3 p.0) p.1)

zeros_are : (digits : ℕ) → suc digits ≤ 100 → zeros_or Unsupported (marks (suc digits) (48 ∷ []) ++ []) ≡ OfWhole (suc digits)
zeros_are digits few = ap (whole_or Unsupported) (alone_are 48 digits few)

digits_named : (digits : ℕ) → suc digits ≤ 100 → setting_named (codes "integer-width/*" ++ (marks (suc digits) (48 ∷ []) ++ [])) ≡ OfWhole (suc digits)
digits_named digits few =
    ap (λ (b : Bool). slashed_at (cond b (Some 13) None) (codes "integer-width/*" ++ zeros)) (lt-ltb 13 (length (codes "integer-width/*" ++ zeros)) (omega (arith, length-append (codes "integer-width/*") zeros)))
    ∙ zeros_are digits few
  where
    zeros : List ℕ
    zeros = marks (suc digits) (48 ∷ []) ++ []

increment_named : (step : RoundingIncrement) (zeros digits : ℕ) (z : WholeZeros) → zeros ≤ 100 → digits ≤ 100
    → setting_named (codes "precision-increment/" ++ (number_text step zeros digits ++ whole_mark z)) ≡ OfPrecision (precision.Increment step zeros digits z)
increment_named step zeros digits z few short =
    ap (λ (b : Bool). slashed_at (cond b (Some 19) None) (codes "precision-increment/" ++ option))
    (lt-ltb 19 (length (codes "precision-increment/" ++ option)) (omega (arith, length-append (codes "precision-increment/") option)))
    ∙ increment_read z step zeros digits few short
  where
    option : List ℕ
    option = number_text step zeros digits ++ whole_mark z

-- ---- words of a point

fraction_named : (least more : ℕ) → 0 < least + more → least + more ≤ 100 → setting_named (pointed least more []) ≡ OfPrecision (precision.Fraction least more)
fraction_named zero zero some few = absurd (omega (arith, some))
fraction_named zero (suc more) some few = fraction_is zero (suc more) [] refl refl (omega (arith, few))
fraction_named (suc least) more some few = fraction_is (suc least) more [] refl refl (omega (arith, few))

at_least_named : (least : ℕ) → 0 < least → least ≤ 100 → setting_named (pointed least 0 (codes "*")) ≡ OfPrecision (precision.AtLeast least)
at_least_named zero some few = absurd (omega (arith, some))
at_least_named (suc least) some few =
    fraction_is (suc least) 0 (codes "*") refl refl (omega (arith, few))
    ∙ ap (λ (b : Bool). cond (b && true) (OfPrecision (precision.AtLeast (suc least))) (Refused Unknown)) (lt-ltb 0 (suc least) some)

whole_named : (least more : ℕ) → least + more ≤ 100 → setting_named (pointed least more (codes "/w")) ≡ OfPrecision (precision.Whole least more)
whole_named zero zero few = refl
whole_named zero (suc more) few = fraction_is zero (suc more) (codes "/w") refl refl few
whole_named (suc least) more few = fraction_is (suc least) more (codes "/w") refl refl few

-- ---- words of at-signs

significant_named : (signs more : ℕ) (z : WholeZeros) → suc signs + more ≤ 100 → setting_named (at_signs (suc signs) more (whole_mark z)) ≡ OfPrecision (precision.Significant (suc signs) more z)
significant_named signs more Shown few = digits_is signs more [] refl refl few
significant_named signs more Hidden few = digits_is signs more (codes "/w") refl refl few

endless_named : (signs : ℕ) (z : WholeZeros) → suc signs ≤ 100 → setting_named (at_signs (suc signs) 0 (codes "*" ++ whole_mark z)) ≡ OfPrecision (precision.SignificantAtLeast (suc signs) z)
endless_named signs Shown few = digits_is signs 0 (codes "*") refl refl (omega (arith, few))
endless_named signs Hidden few = digits_is signs 0 (codes "*/w") refl refl (omega (arith, few))

-- behind a slash
module _ (least more : ℕ) where
  relaxed_named : (others : ℕ) (z : WholeZeros) → suc others ≤ 100
      → option_setting least more (at_signs (suc others) 0 (codes "*" ++ whole_mark z)) ≡ OfPrecision (precision.Either least more 0 (suc others) MorePrecision z)
  relaxed_named others Shown few = either_is least more others 0 (codes "*") refl refl (omega (arith, few))
  relaxed_named others Hidden few = either_is least more others 0 (codes "*/w") refl refl (omega (arith, few))

  strict_named : (others : ℕ) (z : WholeZeros) → 1 + others ≤ 100
      → option_setting least more (at_signs 1 others (whole_mark z)) ≡ OfPrecision (precision.Either least more 0 (1 + others) LessPrecision z)
  strict_named others Shown few = either_is least more 0 others [] refl refl few
  strict_named others Hidden few = either_is least more 0 others (codes "/w") refl refl few

  option_named : (digits others : ℕ) (p : RoundingPriority) (z : WholeZeros) → 0 < digits + others → digits + others ≤ 100
      → option_setting least more (either_mark digits others p z) ≡ OfPrecision (precision.Either least more digits others p z)
  option_named zero zero p z some few = absurd (omega (arith, some))
  option_named zero (suc others) MorePrecision z some few = relaxed_named others z (omega (arith, few))
  option_named zero (suc others) LessPrecision z some few =
      let whole : 1 + (suc others - 1) ≡ suc others = omega arith in
      strict_named (suc others - 1) z (omega (arith, few)) ∙ ap (λ (n : ℕ). OfPrecision (precision.Either least more 0 n LessPrecision z)) whole
  option_named (suc signs) others MorePrecision Shown some few = either_is least more signs others (codes "r") refl refl few
  option_named (suc signs) others MorePrecision Hidden some few = either_is least more signs others (codes "r/w") refl refl few
  option_named (suc signs) others LessPrecision Shown some few = either_is least more signs others (codes "s") refl refl few
  option_named (suc signs) others LessPrecision Hidden some few = either_is least more signs others (codes "s/w") refl refl few

either_named : (least more digits others : ℕ) (p : RoundingPriority) (z : WholeZeros) → least + more ≤ 100 → 0 < digits + others → digits + others ≤ 100
    → setting_named (pointed least more (codes "/" ++ either_mark digits others p z)) ≡ OfPrecision (precision.Either least more digits others p z)
either_named zero zero digits others p z few some most =
    fraction_is zero zero (codes "/" ++ either_mark digits others p z) refl refl few ∙ option_named zero zero digits others p z some most
either_named zero (suc more) digits others p z few some most =
    fraction_is zero (suc more) (codes "/" ++ either_mark digits others p z) refl refl few ∙ option_named zero (suc more) digits others p z some most
either_named (suc least) more digits others p z few some most =
    fraction_is (suc least) more (codes "/" ++ either_mark digits others p z) refl refl few ∙ option_named (suc least) more digits others p z some most

-- ---- what each word sets, where it is not usual

abbrev asked_notation : SkeletonNotation → Option SkeletonNotation
asked_notation notation.Standard = None
asked_notation (notation.Compact p) = Some (notation.Compact p)
asked_notation (notation.Scientific style) = Some (notation.Scientific style)

abbrev asked_unit : SkeletonUnit → Option SkeletonUnit
asked_unit unit.None = None
asked_unit (unit.Percent s) = Some (unit.Percent s)
asked_unit (unit.Currency code) = Some (unit.Currency code)

abbrev asked_precision : Precision → Option Precision
asked_precision precision.Usual = None
asked_precision precision.Unlimited = Some precision.Unlimited
asked_precision (precision.Fraction least more) = Some (precision.Fraction least more)
asked_precision (precision.AtLeast least) = Some (precision.AtLeast least)
asked_precision (precision.Whole least more) = Some (precision.Whole least more)
asked_precision (precision.Significant least more z) = Some (precision.Significant least more z)
asked_precision (precision.SignificantAtLeast least z) = Some (precision.SignificantAtLeast least z)
asked_precision (precision.Either least more digits others p z) = Some (precision.Either least more digits others p z)
asked_precision (precision.Increment step zeros digits z) = Some (precision.Increment step zeros digits z)
asked_precision (precision.Currency usage) = Some (precision.Currency usage)
asked_precision (precision.WholeCurrency usage) = Some (precision.WholeCurrency usage)

abbrev asked_mode : SignedRoundingMode → Option SignedRoundingMode
asked_mode (Unsigned HalfEven) = None
asked_mode (Unsigned Expand) = Some (Unsigned Expand)
asked_mode (Unsigned Trunc) = Some (Unsigned Trunc)
asked_mode (Unsigned HalfExpand) = Some (Unsigned HalfExpand)
asked_mode (Unsigned HalfTrunc) = Some (Unsigned HalfTrunc)
asked_mode Ceil = Some Ceil
asked_mode Floor = Some Floor
asked_mode HalfCeil = Some HalfCeil
asked_mode HalfFloor = Some HalfFloor

abbrev asked_grouping : SkeletonNotation → SkeletonGrouping → Option SkeletonGrouping
asked_grouping notation.Standard grouping.Auto = None
asked_grouping notation.Standard grouping.Off = Some grouping.Off
asked_grouping notation.Standard grouping.Min2 = Some grouping.Min2
asked_grouping notation.Standard grouping.OnAligned = Some grouping.OnAligned
asked_grouping (notation.Compact p) grouping.Auto = Some grouping.Auto
asked_grouping (notation.Compact p) grouping.Off = Some grouping.Off
asked_grouping (notation.Compact p) grouping.Min2 = None
asked_grouping (notation.Compact p) grouping.OnAligned = Some grouping.OnAligned
asked_grouping (notation.Scientific p) grouping.Auto = None
asked_grouping (notation.Scientific p) grouping.Off = Some grouping.Off
asked_grouping (notation.Scientific p) grouping.Min2 = Some grouping.Min2
asked_grouping (notation.Scientific p) grouping.OnAligned = Some grouping.OnAligned

abbrev asked_digits : ℕ → Option ℕ
asked_digits zero = None
asked_digits (suc digits) = Some (suc digits)

abbrev asked_width : CurrencyWidth → Option CurrencyWidth
asked_width width.Short = None
asked_width width.IsoCode = Some width.IsoCode

abbrev asked_sign : CurrencyStyle → SignDisplay → Option SkeletonSign
asked_sign style.Standard display.Auto = None
asked_sign style.Standard display.Never = Some (record { display = display.Never; style = style.Standard })
asked_sign style.Standard display.Always = Some (record { display = display.Always; style = style.Standard })
asked_sign style.Standard display.ExceptZero = Some (record { display = display.ExceptZero; style = style.Standard })
asked_sign style.Standard display.Negative = Some (record { display = display.Negative; style = style.Standard })
asked_sign style.Accounting display.Auto = Some (record { display = display.Auto; style = style.Accounting })
asked_sign style.Accounting display.Never = Some (record { display = display.Never; style = style.Standard })
asked_sign style.Accounting display.Always = Some (record { display = display.Always; style = style.Accounting })
asked_sign style.Accounting display.ExceptZero = Some (record { display = display.ExceptZero; style = style.Accounting })
asked_sign style.Accounting display.Negative = Some (record { display = display.Negative; style = style.Accounting })

abbrev asked : Option SkeletonNotation → Option SkeletonUnit → Option Precision → Option SignedRoundingMode → Option SkeletonGrouping → Option ℕ → Option CurrencyWidth → Option SkeletonSign → Words
asked n u p m g d w s = record { notation = n; unit = u; precision = p; mode = m; grouping = g; integer_digits = d; width = w; sign = s; point = None }

-- the place after a word that is there
abbrev after : ℕ → Option (List ℕ) → ℕ
after place None = place
after place (Some word) = place + (length word + 1)

-- one word that is known is read
read_known : (place : ℕ) (c : ℕ) (cs : List ℕ) (words : List (List ℕ)) (w : Words) (setting : Setting) → setting_named (c ∷ cs) ≡ setting
    → read_words place ((c ∷ cs) ∷ words) w ≡ then_read (λ (v : Words). read_words (place + (length (c ∷ cs) + 1)) words v) (at_place place (set w setting))
read_known place c cs words w setting named =
    ap (λ (x : Setting). then_read (λ (v : Words). read_words (place + (length (c ∷ cs) + 1)) words v) (at_place place (set w x))) named

step_scientific : (place : ℕ) (x : ScientificNotation) (digits : ℕ) (sign : ExponentSign) (rest : List (Option (List ℕ))) → digits ≢ 1 → digits ≤ 100
    → read_words place (present (Some (scientific_stem x ++ (exponent_mark digits ++ exponent_sign_mark sign)) ∷ rest)) no_words
    ≡ read_words (after place (Some (scientific_stem x ++ (exponent_mark digits ++ exponent_sign_mark sign)))) (present rest)
    (asked (Some (notation.Scientific (record { notation = x; exponents = record { sign = sign; least_digits = digits } }))) None None None None None None None)
step_scientific place Scientific digits sign rest other few =
    read_known place 115 (codes "cientific" ++ (exponent_mark digits ++ exponent_sign_mark sign)) (present rest) no_words (shown_by Scientific (record { sign = sign; least_digits = digits }))
    (scientific_named Scientific digits sign other few)
step_scientific place Engineering digits sign rest other few =
    read_known place 101 (codes "ngineering" ++ (exponent_mark digits ++ exponent_sign_mark sign)) (present rest) no_words (shown_by Engineering (record { sign = sign; least_digits = digits }))
    (scientific_named Engineering digits sign other few)

step_notation : (place : ℕ) (n : SkeletonNotation) (rest : List (Option (List ℕ))) → HasExponents n
    → read_words place (present (notation_word n ∷ rest)) no_words ≡ read_words (after place (notation_word n)) (present rest) (asked (asked_notation n) None None None None None None None)
step_notation place notation.Standard rest has = refl
step_notation place (notation.Compact Short) rest has = refl
step_notation place (notation.Compact Long) rest has = refl
step_notation place (notation.Scientific style) rest has = step_scientific place style.notation style.exponents.least_digits style.exponents.sign rest has.0 has.1

step_unit : (place : ℕ) (n : Option SkeletonNotation) (u : SkeletonUnit) (rest : List (Option (List ℕ))) → HasCode u
    → read_words place (present (unit_word u ∷ rest)) (asked n None None None None None None None) ≡ read_words (after place (unit_word u)) (present rest) (asked n (asked_unit u) None None None None None None)
step_unit place n unit.None rest has = refl
step_unit place n (unit.Percent sign.Percent) rest has = refl
step_unit place n (unit.Percent sign.Permille) rest has = refl
step_unit place n (unit.Currency code) rest has =
    read_known place 99 (codes "urrency/" ++ code) (present rest) (asked n None None None None None None None) (OfUnit (unit.Currency code)) (code_named code has)

-- some digits are no `precision-integer`
not_none : (least more : ℕ) → 0 < least + more → ((least == 0) && (more == 0)) ≡ false
not_none zero zero some = absurd (omega (arith, some))
not_none zero (suc more) some = ne_eqb (suc more) 0 (λ none. omega (arith, none))
not_none (suc least) more some = ap (λ (b : Bool). b && (more == 0)) (ne_eqb (suc least) 0 (λ none. omega (arith, none)))

step_fraction : (place : ℕ) (n : Option SkeletonNotation) (u : Option SkeletonUnit) (least more : ℕ) (rest : List (Option (List ℕ))) → 0 < least + more → least + more ≤ 100
    → read_words place (present (precision_word (precision.Fraction least more) ∷ rest)) (asked n u None None None None None None)
    ≡ read_words (after place (precision_word (precision.Fraction least more))) (present rest) (asked n u (Some (precision.Fraction least more)) None None None None None)
step_fraction place n u least more rest some few =
    subst (λ (word : List ℕ). read_words place (word ∷ present rest) (asked n u None None None None None None)
    ≡ read_words (place + (length word + 1)) (present rest) (asked n u (Some (precision.Fraction least more)) None None None None None))
    (sym (ap (λ (b : Bool). cond b (codes "precision-integer") (pointed least more [])) (not_none least more some)))
    (read_known place 46 (marks least (48 ∷ []) ++ (marks more (35 ∷ []) ++ [])) (present rest) (asked n u None None None None None None) (OfPrecision (precision.Fraction least more))
    (fraction_named least more some few))

step_precision : (place : ℕ) (n : Option SkeletonNotation) (u : Option SkeletonUnit) (p : Precision) (rest : List (Option (List ℕ))) → HasMarks p
    → read_words place (present (precision_word p ∷ rest)) (asked n u None None None None None None) ≡ read_words (after place (precision_word p)) (present rest) (asked n u (asked_precision p) None None None None None)
step_precision place n u precision.Usual rest has = refl
step_precision place n u precision.Unlimited rest has = refl
step_precision place n u (precision.Fraction zero zero) rest has = refl
step_precision place n u (precision.Fraction zero (suc more)) rest has = step_fraction place n u zero (suc more) rest (omega arith) has
step_precision place n u (precision.Fraction (suc least) more) rest has = step_fraction place n u (suc least) more rest (omega arith) has
step_precision place n u (precision.AtLeast least) rest has =
    read_known place 46 (marks least (48 ∷ []) ++ ([] ++ codes "*")) (present rest) (asked n u None None None None None None) (OfPrecision (precision.AtLeast least)) (at_least_named least has.0 has.1)
step_precision place n u (precision.Whole least more) rest has =
    read_known place 46 (marks least (48 ∷ []) ++ (marks more (35 ∷ []) ++ codes "/w")) (present rest) (asked n u None None None None None None) (OfPrecision (precision.Whole least more)) (whole_named least more has)
step_precision place n u (precision.Significant zero more z) rest has = absurd (omega (arith, has.0))
step_precision place n u (precision.Significant (suc signs) more z) rest has =
    read_known place 64 (at_signs signs more (whole_mark z)) (present rest) (asked n u None None None None None None) (OfPrecision (precision.Significant (suc signs) more z)) (significant_named signs more z has.1)
step_precision place n u (precision.SignificantAtLeast zero z) rest has = absurd (omega (arith, has.0))
step_precision place n u (precision.SignificantAtLeast (suc signs) z) rest has =
    read_known place 64 (at_signs signs 0 (codes "*" ++ whole_mark z)) (present rest) (asked n u None None None None None None) (OfPrecision (precision.SignificantAtLeast (suc signs) z)) (endless_named signs z has.1)
step_precision place n u (precision.Either least more digits others p z) rest has =
    read_known place 46 (marks least (48 ∷ []) ++ (marks more (35 ∷ []) ++ (codes "/" ++ either_mark digits others p z))) (present rest) (asked n u None None None None None None)
    (OfPrecision (precision.Either least more digits others p z)) (either_named least more digits others p z has.0 has.1.0 has.1.1)
step_precision place n u (precision.Increment step zeros digits z) rest has =
    read_known place 112 (codes "recision-increment/" ++ (number_text step zeros digits ++ whole_mark z)) (present rest) (asked n u None None None None None None)
    (OfPrecision (precision.Increment step zeros digits z)) (increment_named step zeros digits z has.0 has.1)
step_precision place n u (precision.Currency Standard) rest has = refl
step_precision place n u (precision.Currency Cash) rest has = refl
step_precision place n u (precision.WholeCurrency Standard) rest has = refl
step_precision place n u (precision.WholeCurrency Cash) rest has = refl

module _ (place : ℕ) (n : Option SkeletonNotation) (u : Option SkeletonUnit) (p : Option Precision) (rest : List (Option (List ℕ))) where
  step_mode : (m : SignedRoundingMode)
      → read_words place (present (mode_word m ∷ rest)) (asked n u p None None None None None) ≡ read_words (after place (mode_word m)) (present rest) (asked n u p (asked_mode m) None None None None)
  step_mode (Unsigned HalfEven) = refl
  step_mode (Unsigned Expand) = refl
  step_mode (Unsigned Trunc) = refl
  step_mode (Unsigned HalfExpand) = refl
  step_mode (Unsigned HalfTrunc) = refl
  step_mode Ceil = refl
  step_mode Floor = refl
  step_mode HalfCeil = refl
  step_mode HalfFloor = refl

  step_grouping : (m : Option SignedRoundingMode) (o : SkeletonNotation) (g : SkeletonGrouping)
      → read_words place (present (grouping_word o g ∷ rest)) (asked n u p m None None None None) ≡ read_words (after place (grouping_word o g)) (present rest) (asked n u p m (asked_grouping o g) None None None)
  step_grouping m notation.Standard grouping.Auto = refl
  step_grouping m notation.Standard grouping.Off = refl
  step_grouping m notation.Standard grouping.Min2 = refl
  step_grouping m notation.Standard grouping.OnAligned = refl
  step_grouping m (notation.Compact q) grouping.Auto = refl
  step_grouping m (notation.Compact q) grouping.Off = refl
  step_grouping m (notation.Compact q) grouping.Min2 = refl
  step_grouping m (notation.Compact q) grouping.OnAligned = refl
  step_grouping m (notation.Scientific q) grouping.Auto = refl
  step_grouping m (notation.Scientific q) grouping.Off = refl
  step_grouping m (notation.Scientific q) grouping.Min2 = refl
  step_grouping m (notation.Scientific q) grouping.OnAligned = refl

  step_digits : (m : Option SignedRoundingMode) (g : Option SkeletonGrouping) (d : ℕ) → d ≤ 100
      → read_words place (present (digits_word d ∷ rest)) (asked n u p m g None None None) ≡ read_words (after place (digits_word d)) (present rest) (asked n u p m g (asked_digits d) None None)
  step_digits m g zero few = refl
  step_digits m g (suc d) few =
      read_known place 105 (codes "nteger-width/*" ++ (marks (suc d) (48 ∷ []) ++ [])) (present rest) (asked n u p m g None None None) (OfWhole (suc d)) (digits_named d few)

  step_width : (m : Option SignedRoundingMode) (g : Option SkeletonGrouping) (d : Option ℕ) (w : CurrencyWidth)
      → read_words place (present (width_word w ∷ rest)) (asked n u p m g d None None) ≡ read_words (after place (width_word w)) (present rest) (asked n u p m g d (asked_width w) None)
  step_width m g d width.Short = refl
  step_width m g d width.IsoCode = refl

  step_sign : (m : Option SignedRoundingMode) (g : Option SkeletonGrouping) (d : Option ℕ) (w : Option CurrencyWidth) (s : CurrencyStyle) (x : SignDisplay)
      → read_words place (present (sign_word_by s x ∷ rest)) (asked n u p m g d w None) ≡ read_words (after place (sign_word_by s x)) (present rest) (asked n u p m g d w (asked_sign s x))
  step_sign m g d w style.Standard display.Auto = refl
  step_sign m g d w style.Standard display.Never = refl
  step_sign m g d w style.Standard display.Always = refl
  step_sign m g d w style.Standard display.ExceptZero = refl
  step_sign m g d w style.Standard display.Negative = refl
  step_sign m g d w style.Accounting display.Auto = refl
  step_sign m g d w style.Accounting display.Never = refl
  step_sign m g d w style.Accounting display.Always = refl
  step_sign m g d w style.Accounting display.ExceptZero = refl
  step_sign m g d w style.Accounting display.Negative = refl

-- ---- what is asked for so is the skeleton

notation_back : (n : SkeletonNotation) → unwrap_or (asked_notation n) notation.Standard ≡ n
notation_back notation.Standard = refl
notation_back (notation.Compact p) = refl
notation_back (notation.Scientific style) = refl

unit_back : (u : SkeletonUnit) → unwrap_or (asked_unit u) unit.None ≡ u
unit_back unit.None = refl
unit_back (unit.Percent s) = refl
unit_back (unit.Currency code) = refl

precision_back : (p : Precision) → unwrap_or (asked_precision p) precision.Usual ≡ p
precision_back precision.Usual = refl
precision_back precision.Unlimited = refl
precision_back (precision.Fraction least more) = refl
precision_back (precision.AtLeast least) = refl
precision_back (precision.Whole least more) = refl
precision_back (precision.Significant least more z) = refl
precision_back (precision.SignificantAtLeast least z) = refl
precision_back (precision.Either least more digits others p z) = refl
precision_back (precision.Increment step zeros digits z) = refl
precision_back (precision.Currency usage) = refl
precision_back (precision.WholeCurrency usage) = refl

mode_back : (m : SignedRoundingMode) → unwrap_or (asked_mode m) (Unsigned HalfEven) ≡ m
mode_back (Unsigned HalfEven) = refl
mode_back (Unsigned Expand) = refl
mode_back (Unsigned Trunc) = refl
mode_back (Unsigned HalfExpand) = refl
mode_back (Unsigned HalfTrunc) = refl
mode_back Ceil = refl
mode_back Floor = refl
mode_back HalfCeil = refl
mode_back HalfFloor = refl

grouping_back : (n : SkeletonNotation) (g : SkeletonGrouping) → unwrap_or (asked_grouping n g) (usual_grouping (unwrap_or (asked_notation n) notation.Standard)) ≡ g
grouping_back notation.Standard grouping.Auto = refl
grouping_back notation.Standard grouping.Off = refl
grouping_back notation.Standard grouping.Min2 = refl
grouping_back notation.Standard grouping.OnAligned = refl
grouping_back (notation.Compact p) grouping.Auto = refl
grouping_back (notation.Compact p) grouping.Off = refl
grouping_back (notation.Compact p) grouping.Min2 = refl
grouping_back (notation.Compact p) grouping.OnAligned = refl
grouping_back (notation.Scientific p) grouping.Auto = refl
grouping_back (notation.Scientific p) grouping.Off = refl
grouping_back (notation.Scientific p) grouping.Min2 = refl
grouping_back (notation.Scientific p) grouping.OnAligned = refl

digits_back : (d : ℕ) → unwrap_or (asked_digits d) 0 ≡ d
digits_back zero = refl
digits_back (suc d) = refl

width_back : (w : CurrencyWidth) → unwrap_or (asked_width w) width.Short ≡ w
width_back width.Short = refl
width_back width.IsoCode = refl

sign_back : (s : CurrencyStyle) (x : SignDisplay) → (x ≡ display.Never → s ≡ style.Standard)
    → unwrap_or (asked_sign s x) (record { display = display.Auto; style = style.Standard }) ≡ record { display = x; style = s }
sign_back style.Standard display.Auto never = refl
sign_back style.Standard display.Never never = refl
sign_back style.Standard display.Always never = refl
sign_back style.Standard display.ExceptZero never = refl
sign_back style.Standard display.Negative never = refl
sign_back style.Accounting display.Auto never = refl
sign_back style.Accounting display.Never never = λ i. record { display = display.Never; style = sym (never refl) i }
sign_back style.Accounting display.Always never = refl
sign_back style.Accounting display.ExceptZero never = refl
sign_back style.Accounting display.Negative never = refl

abbrev words_for : Skeleton → Words
words_for s =
    asked (asked_notation s.notation) (asked_unit s.unit) (asked_precision s.precision) (asked_mode s.mode) (asked_grouping s.notation s.grouping) (asked_digits s.integer_digits) (asked_width s.width)
    (asked_sign s.sign.style s.sign.display)

settled_back : (s : Skeleton) → IsSkeleton s → settled (words_for s) ≡ s
settled_back s is = λ i. record {
  notation = notation_back s.notation i;
  unit = unit_back s.unit i;
  precision = precision_back s.precision i;
  mode = mode_back s.mode i;
  grouping = grouping_back s.notation s.grouping i;
  integer_digits = digits_back s.integer_digits i;
  width = width_back s.width i;
  sign = sign_back s.sign.style s.sign.display is.sign i;
}

module _ (s : Skeleton) (is : IsSkeleton s) where
  abbrev place1 : ℕ
  place1 = after 0 (notation_word s.notation)

  abbrev place2 : ℕ
  place2 = after place1 (unit_word s.unit)

  abbrev place3 : ℕ
  place3 = after place2 (precision_word s.precision)

  abbrev place4 : ℕ
  place4 = after place3 (mode_word s.mode)

  abbrev place5 : ℕ
  place5 = after place4 (grouping_word s.notation s.grouping)

  abbrev place6 : ℕ
  place6 = after place5 (digits_word s.integer_digits)

  abbrev place7 : ℕ
  place7 = after place6 (width_word s.width)

  abbrev n1 : Option SkeletonNotation
  n1 = asked_notation s.notation

  abbrev u1 : Option SkeletonUnit
  u1 = asked_unit s.unit

  abbrev p1 : Option Precision
  p1 = asked_precision s.precision

  abbrev m1 : Option SignedRoundingMode
  m1 = asked_mode s.mode

  abbrev g1 : Option SkeletonGrouping
  g1 = asked_grouping s.notation s.grouping

  abbrev rest8 : List (Option (List ℕ))
  rest8 = sign_word s.sign ∷ []

  abbrev rest7 : List (Option (List ℕ))
  rest7 = width_word s.width ∷ rest8

  abbrev rest6 : List (Option (List ℕ))
  rest6 = digits_word s.integer_digits ∷ rest7

  abbrev rest5 : List (Option (List ℕ))
  rest5 = grouping_word s.notation s.grouping ∷ rest6

  abbrev rest4 : List (Option (List ℕ))
  rest4 = mode_word s.mode ∷ rest5

  abbrev rest3 : List (Option (List ℕ))
  rest3 = precision_word s.precision ∷ rest4

  abbrev rest2 : List (Option (List ℕ))
  rest2 = unit_word s.unit ∷ rest3

  words_read : read_words 0 (present (normal_words s)) no_words ≡ Ok (words_for s)
  words_read =
      step_notation 0 s.notation rest2 is.exponents
      ∙ step_unit place1 n1 s.unit rest3 is.code
      ∙ step_precision place2 n1 u1 s.precision rest4 is.marks
      ∙ step_mode place3 n1 u1 p1 rest5 s.mode
      ∙ step_grouping place4 n1 u1 p1 rest6 m1 s.notation s.grouping
      ∙ step_digits place5 n1 u1 p1 rest7 m1 g1 s.integer_digits is.whole
      ∙ step_width place6 n1 u1 p1 rest8 m1 g1 (asked_digits s.integer_digits) s.width
      ∙ step_sign place7 n1 u1 p1 [] m1 g1 (asked_digits s.integer_digits) (asked_width s.width) s.sign.style s.sign.display

  pub text_read : skeleton_of (skeleton_text s) ≡ Ok s
  text_read =
      ap (checked (cut_at space (skeleton_text s))) (read_joined (normal_words s) no_words (clear_words s is.code) ∙ words_read)
      ∙ ap (λ (t : Skeleton). checked_by (pair_fault t) (cut_at space (skeleton_text s)) t) (settled_back s is)
      ∙ ap (λ (o : Option (SettingKind × WordFault)). checked_by o (cut_at space (skeleton_text s)) s) is.pairs

pub reads_back : NormalTextReadsBack
reads_back s is = text_read s is
