-- Where the parts of a number are.
use Rattle.std.proofs.Common.{◌≡◌, ℕ, ◌+◌, List, [], ◌∷◌, ◌++◌, length, map, Option, None, Some, refl, sym, ap, subst, ◌∙◌, arith}
use Rattle.std.specs.Prelude.{codes}
use Rattle.std.proofs.lemmas.List.{append-nil}
use Rattle.writeable.specs.AnnotatedText.{Event, bytes, closing, intervals_from, opening, text_of}
use Rattle.writeable.specs.Laws.{IsBalanced}
use Rattle.writeable.specs.PartName.{PartName}
use Rattle.writeable.proofs.AnnotatedTextLemmas.{text_of_bytes}
use Rattle.writeable.proofs.BalancedLemmas.{balanced_append, balanced_none, balanced_part, balanced_text}
use Rattle.writeable.proofs.LawsLemmas.{intervals_bytes_alone}
use Rattle.fixed_decimal.specs.Number.{Number, fraction_digits, whole_digits}
use Rattle.fixed_decimal.specs.SignedValue.{SignedValue}
use Rattle.icu_decimal_plain.specs.Affixes.{AffixTexts, affixes_of, as_part, decimal_part, prefix_events, suffix_events}
use Rattle.icu_decimal_plain.specs.PartIntervals.{decimal_parts, fraction_parts, groups_of, integer_parts, part_at, prefix_parts, suffix_parts, unit_text, unsigned_parts}
use Rattle.icu_decimal_plain.specs.PartLaws.{DecimalHasParts, UnitHasParts, UnsignedHasParts}
use Rattle.icu_decimal_plain.specs.PlainText.{PlainNumber, Tables, chained, decimal_events, digit_text, formatted, fraction_events, integer_events, prefix_text, unsigned_events, unsigned_text, whole_events, whole_text}
use Rattle.icu_decimal_plain.proofs.PlainTextLemmas.{bytes_chained}
use Rattle.icu_decimal_plain.proofs.TextLemmas.{decimal_is_text, text_in_unit, text_of_part, text_prefix, text_whole, text_inside, text_with_sign, unsigned_is_text}
use Rattle.icu_decimal_plain.proofs.EventPartLemmas.{both_from, part_from, text_part_balanced, text_part_from}
use Rattle.icu_decimal_plain.proofs.SeparatorLemmas.{groups_balanced, groups_from, whole_is}

whole_balanced : (t : Tables) (ds : List ℕ) → IsBalanced (whole_events t ds)
whole_balanced t ds = subst IsBalanced (sym (whole_is t ds)) (groups_balanced t.symbols.strings.grouping_separator (groups_of t ds))

integer_balanced : (t : Tables) (ds : List ℕ) → IsBalanced (integer_events t ds)
integer_balanced t ds = balanced_part (decimal_part (codes "integer")) (whole_events t ds) (whole_balanced t ds)

integer_from : (n : ℕ) (t : Tables) (ds : List ℕ) → intervals_from n (integer_events t ds) ≡ integer_parts n t ds
integer_from n t ds =
    let part : PartName = decimal_part (codes "integer") in
    part_from n part (whole_events t ds) (whole_text t ds) (whole_balanced t ds) (text_inside t ds)
    ∙ ap (λ es. part_at n (whole_text t ds) part ++ intervals_from n es) (whole_is t ds)
    ∙ ap (λ inner. part_at n (whole_text t ds) part ++ inner) (groups_from n t.symbols.strings.grouping_separator (groups_of t ds))

-- the decimal separator and the fraction digits are a text each
fraction_is : (t : Tables) (d : ℕ) (ds : List ℕ) → fraction_events t (d ∷ ds) ≡ as_part (decimal_part (codes "decimal")) t.symbols.strings.decimal_separator ++ as_part (decimal_part (codes "fraction")) (chained (map (digit_text t.digits) (d ∷ ds)))
fraction_is t d ds =
    ap (λ es. as_part (decimal_part (codes "decimal")) t.symbols.strings.decimal_separator ++ (opening (decimal_part (codes "fraction")) ++ (es ++ closing))) (sym (bytes_chained t.digits (d ∷ ds)))

fraction_balanced : (t : Tables) (ds : List ℕ) → IsBalanced (fraction_events t ds)
fraction_balanced t [] = balanced_none
fraction_balanced t (d ∷ ds) =
    let point : List Event = as_part (decimal_part (codes "decimal")) t.symbols.strings.decimal_separator in
    let digits : List ℕ = chained (map (digit_text t.digits) (d ∷ ds)) in
    subst IsBalanced (sym (fraction_is t d ds))
    (balanced_append point (as_part (decimal_part (codes "fraction")) digits) (text_part_balanced (decimal_part (codes "decimal")) t.symbols.strings.decimal_separator) (text_part_balanced (decimal_part (codes "fraction")) digits))

fraction_from : (n : ℕ) (t : Tables) (ds : List ℕ) → intervals_from n (fraction_events t ds) ≡ fraction_parts n t ds
fraction_from n t [] = refl
fraction_from n t (d ∷ ds) =
    let separator : List ℕ = t.symbols.strings.decimal_separator in
    let decimal : PartName = decimal_part (codes "decimal") in
    let fraction : PartName = decimal_part (codes "fraction") in
    let digits : List ℕ = chained (map (digit_text t.digits) (d ∷ ds)) in
    ap (intervals_from n) (fraction_is t d ds)
    ∙ both_from n (as_part decimal separator) (as_part fraction digits) separator (text_part_balanced decimal separator) (text_of_part decimal separator)
    ∙ ap (λ first. first ++ intervals_from (n + length separator) (as_part fraction digits)) (text_part_from n decimal separator)
    ∙ ap (λ others. part_at n separator decimal ++ others) (text_part_from (n + length separator) fraction digits)

unsigned_balanced : (p : PlainNumber) → IsBalanced (unsigned_events p)
unsigned_balanced p =
    balanced_append (integer_events p.tables (whole_digits p.number)) (fraction_events p.tables (fraction_digits p.number)) (integer_balanced p.tables (whole_digits p.number)) (fraction_balanced p.tables (fraction_digits p.number))

unsigned_from : (n : ℕ) (p : PlainNumber) → intervals_from n (unsigned_events p) ≡ unsigned_parts n p.tables p.number
unsigned_from n p =
    let t : Tables = p.tables in
    let whole : List ℕ = whole_digits p.number in
    let fraction : List ℕ = fraction_digits p.number in
    both_from n (integer_events t whole) (fraction_events t fraction) (whole_text t whole) (integer_balanced t whole) (text_whole t whole)
    ∙ ap (λ first. first ++ intervals_from (n + length (whole_text t whole)) (fraction_events t fraction)) (integer_from n t whole)
    ∙ ap (λ others. integer_parts n t whole ++ others) (fraction_from (n + length (whole_text t whole)) t fraction)

prefix_balanced : (affixes : Option AffixTexts) → IsBalanced (prefix_events affixes)
prefix_balanced None = balanced_none
prefix_balanced (Some affixes) = text_part_balanced affixes.part affixes.prefix

prefix_from : (affixes : Option AffixTexts) → intervals_from 0 (prefix_events affixes) ≡ prefix_parts affixes
prefix_from None = refl
prefix_from (Some affixes) = text_part_from 0 affixes.part affixes.prefix

suffix_from : (n : ℕ) (affixes : Option AffixTexts) → intervals_from n (suffix_events affixes) ≡ suffix_parts n affixes
suffix_from n None = refl
suffix_from n (Some affixes) = text_part_from n affixes.part affixes.suffix

from_none : (n : ℕ) → 0 + n ≡ n
from_none n = omega arith

-- a value between the affixes of a sign
with_sign_from : (affixes : Option AffixTexts) (es : List Event) (text : List ℕ) → IsBalanced es → text_of es ≡ text → intervals_from 0 (prefix_events affixes ++ (es ++ suffix_events affixes)) ≡ prefix_parts affixes ++ (intervals_from (length (prefix_text affixes)) es ++ suffix_parts (length (prefix_text affixes) + length text) affixes)
with_sign_from affixes es text balanced same =
    let begin : ℕ = length (prefix_text affixes) in
    let inner : List Event = es ++ suffix_events affixes in
    both_from 0 (prefix_events affixes) inner (prefix_text affixes) (prefix_balanced affixes) (text_prefix affixes)
    ∙ ap (λ n. intervals_from 0 (prefix_events affixes) ++ intervals_from n inner) (from_none begin)
    ∙ ap (λ first. first ++ intervals_from begin inner) (prefix_from affixes)
    ∙ ap (λ others. prefix_parts affixes ++ others) (both_from begin es (suffix_events affixes) text balanced same
    ∙ ap (λ last. intervals_from begin es ++ last) (suffix_from (begin + length text) affixes))

decimal_from : (t : Tables) (d : SignedValue Number) → intervals_from 0 (decimal_events (formatted t d)) ≡ decimal_parts t d
decimal_from t d =
    let affixes : Option AffixTexts = affixes_of t.symbols.strings d.sign in
    let number : PlainNumber = record { number = d.absolute; tables = t } in
    let begin : ℕ = length (prefix_text affixes) in
    with_sign_from affixes (unsigned_events number) (unsigned_text t d.absolute) (unsigned_balanced number) (unsigned_is_text number)
    ∙ ap (λ inner. prefix_parts affixes ++ (inner ++ suffix_parts (begin + length (unsigned_text t d.absolute)) affixes)) (unsigned_from begin number)

-- a number between two texts
unit_balanced : (before behind : List ℕ) (p : PlainNumber) → IsBalanced (bytes before ++ (unsigned_events p ++ bytes behind))
unit_balanced before behind p =
    balanced_append (bytes before) (unsigned_events p ++ bytes behind) (balanced_text before)
    (balanced_append (unsigned_events p) (bytes behind) (unsigned_balanced p) (balanced_text behind))

unit_from : (n : ℕ) (before behind : List ℕ) (p : PlainNumber) → intervals_from n (bytes before ++ (unsigned_events p ++ bytes behind)) ≡ unsigned_parts (n + length before) p.tables p.number
unit_from n before behind p =
    let begin : ℕ = n + length before in
    let text : List ℕ = unsigned_text p.tables p.number in
    both_from n (bytes before) (unsigned_events p ++ bytes behind) before (balanced_text before) (text_of_bytes before)
    ∙ ap (λ first. first ++ intervals_from begin (unsigned_events p ++ bytes behind)) (intervals_bytes_alone n before)
    ∙ both_from begin (unsigned_events p) (bytes behind) text (unsigned_balanced p) (unsigned_is_text p)
    ∙ ap (λ last. intervals_from begin (unsigned_events p) ++ last) (intervals_bytes_alone (begin + length text) behind)
    ∙ append-nil (intervals_from begin (unsigned_events p))
    ∙ unsigned_from begin p

pub unsigned_has_parts : UnsignedHasParts
unsigned_has_parts p = let text = unsigned_is_text p in let parts = unsigned_from 0 p in λ i. record { text = text i; parts = parts i }

pub decimal_has_parts : DecimalHasParts
decimal_has_parts t d = let text = decimal_is_text t d in let parts = decimal_from t d in λ i. record { text = text i; parts = parts i }

pub unit_has_parts : UnitHasParts
unit_has_parts t before d behind =
    let affixes : Option AffixTexts = affixes_of t.symbols.strings d.sign in
    let number : PlainNumber = record { number = d.absolute; tables = t } in
    let inner : List Event = bytes before ++ (unsigned_events number ++ bytes behind) in
    let begin : ℕ = length (prefix_text affixes) in
    let in_unit = text_in_unit before behind (unsigned_events number) (unsigned_text t d.absolute) (unsigned_is_text number) in
    let text = text_with_sign affixes inner (unit_text t before d.absolute behind) in_unit in
    let parts = with_sign_from affixes inner (unit_text t before d.absolute behind) (unit_balanced before behind number) in_unit
    ∙ ap (λ own. prefix_parts affixes ++ (own ++ suffix_parts (begin + length (unit_text t before d.absolute behind)) affixes)) (unit_from begin before behind number) in
    λ i. record { text = text i; parts = parts i }
