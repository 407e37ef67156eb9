-- The places of a number's parts in its text: each with the byte at which it begins and the byte after its last one.
-- Defined in docs/formatters.md, "Formatted numbers"; their order in docs/annotated-text.md; ICU4X's names.
-- Cited by the law of the parts.
use Rattle.std.specs.Prelude.{ℕ, ◌+◌, ◌-◌, List, [], ◌∷◌, ◌++◌, length, map, flat_map, take, codes, Option, None, Some}
use Rattle.std.specs.List.{range_with_len}
use Rattle.writeable.specs.AnnotatedText.{AnnotatedText, Interval}
use Rattle.writeable.specs.PartName.{PartName}
use Rattle.fixed_decimal.specs.Number.{Number, whole_digits, fraction_digits}
use Rattle.fixed_decimal.specs.SignedValue.{SignedValue}
use Rattle.icu_decimal_plain.specs.Affixes.{AffixTexts, affixes_of, decimal_part}
use Rattle.icu_decimal_grouping.specs.Grouper.{groups, joined}
use Rattle.icu_decimal_plain.specs.PlainText.{Tables, chained, decimal_text, digit_text, prefix_text, suffix_text, unsigned_text, whole_text}

-- a text that begins at byte n, as a part; an empty one is not one
abbrev pub part_at : ℕ → List ℕ → PartName → List Interval
part_at n [] part = []
part_at n (b ∷ text) part = record { start = n; end = n + length (b ∷ text); part = part } ∷ []

-- ---- the integer digits

-- groups of digits in a row, each digit by its bytes, with the separator between each two groups
abbrev pub groups_text : List ℕ → List (List (List ℕ)) → List ℕ
groups_text separator gs = chained (joined (separator ∷ []) gs)

-- a separator follows the first k of the groups
abbrev pub separator_at : ℕ → List ℕ → List (List (List ℕ)) → ℕ → List Interval
separator_at n separator gs k = part_at (n + length (groups_text separator (take k gs))) separator (decimal_part (codes "group"))

-- the separators of groups that begin at byte n: one follows the first group, one the first two, and so on, but not all
abbrev pub separator_parts : ℕ → List ℕ → List (List (List ℕ)) → List Interval
separator_parts n separator gs = flat_map (separator_at n separator gs) (range_with_len 1 (length gs - 1))

-- the groups that integer digits are cut into, each digit by its bytes
abbrev pub groups_of : Tables → List ℕ → List (List (List ℕ))
groups_of t ds = groups t.strategy t.symbols.grouping_sizes (map (digit_text t.digits) ds)

-- `integer`, all before the decimal separator, and `group` inside it
abbrev pub integer_parts : ℕ → Tables → List ℕ → List Interval
integer_parts n t ds =
    part_at n (whole_text t ds) (decimal_part (codes "integer"))
    ++ separator_parts n t.symbols.strings.grouping_separator (groups_of t ds)

-- ---- the fraction

-- `decimal` from byte n on, and `fraction` after it; without fraction digits none
abbrev pub fraction_parts : ℕ → Tables → List ℕ → List Interval
fraction_parts n t [] = []
fraction_parts n t (d ∷ ds) =
    let separator = t.symbols.strings.decimal_separator in
    part_at n separator (decimal_part (codes "decimal"))
    ++ part_at (n + length separator) (chained (map (digit_text t.digits) (d ∷ ds))) (decimal_part (codes "fraction"))

-- ---- a number

-- without a sign, from byte n on
abbrev pub unsigned_parts : ℕ → Tables → Number → List Interval
unsigned_parts n t v =
    integer_parts n t (whole_digits v) ++ fraction_parts (n + length (whole_text t (whole_digits v))) t (fraction_digits v)

abbrev pub prefix_parts : Option AffixTexts → List Interval
prefix_parts None = []
prefix_parts (Some affixes) = part_at 0 affixes.prefix affixes.part

abbrev pub suffix_parts : ℕ → Option AffixTexts → List Interval
suffix_parts n None = []
suffix_parts n (Some affixes) = part_at n affixes.suffix affixes.part

-- with its sign: the prefix from byte 0 on, the number after it, and after that the suffix
abbrev pub decimal_parts : Tables → SignedValue Number → List Interval
decimal_parts t d =
    let affixes = affixes_of t.symbols.strings d.sign in
    let begin = length (prefix_text affixes) in
    prefix_parts affixes
    ++ (unsigned_parts begin t d.absolute ++ suffix_parts (begin + length (unsigned_text t d.absolute)) affixes)

-- ---- a number with a text before it and one after it

abbrev pub unit_text : Tables → List ℕ → Number → List ℕ → List ℕ
unit_text t before v behind = before ++ (unsigned_text t v ++ behind)

-- with its sign: the parts of the number begin after the prefix and the text before it, and the suffix follows all
-- else
abbrev pub unit_parts : Tables → List ℕ → SignedValue Number → List ℕ → List Interval
unit_parts t before d behind =
    let affixes = affixes_of t.symbols.strings d.sign in
    let begin = length (prefix_text affixes) in
    prefix_parts affixes
    ++ (unsigned_parts (begin + length before) t d.absolute ++ suffix_parts (begin + length (unit_text t before d.absolute behind)) affixes)

-- ---- the text with them

abbrev pub unsigned_annotated : Tables → Number → AnnotatedText
unsigned_annotated t v = record { text = unsigned_text t v; parts = unsigned_parts 0 t v }

abbrev pub decimal_annotated : Tables → SignedValue Number → AnnotatedText
decimal_annotated t d = record { text = decimal_text t d; parts = decimal_parts t d }

abbrev pub unit_annotated : Tables → List ℕ → SignedValue Number → List ℕ → AnnotatedText
unit_annotated t before d behind =
    let affixes = affixes_of t.symbols.strings d.sign in
    record {
      text = prefix_text affixes ++ (unit_text t before d.absolute behind ++ suffix_text affixes);
      parts = unit_parts t before d behind;
    }
