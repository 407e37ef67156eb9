-- What a formatter writes with a unit under another grouping is read between the folded affixes of its sign, as the decimal that it is.
use Rattle.std.proofs.Common.{◌≡◌, ◌⊎◌, inl, inr, ℕ, Bool, true, false, cond, List, ◌∷◌, ◌++◌, Option, None, Some, refl, sym, ap, subst, ◌∙◌}
use Rattle.std.proofs.lemmas.Bool.{and_from, and_parts, false≢true}
use Rattle.std.proofs.lemmas.List.{append-nil}
use Rattle.std.proofs.lemmas.List.Elements.{filter_map-append}
use Rattle.std.proofs.lemmas.Str.{IsUtf8-append, chars-append, chars-nil, chars_from_encodes, encodes-append, encodes-chars, encodes_same}
use Rattle.std.specs.Cmp.Lexicographic.{bytes_decides}
use Rattle.std.specs.Str.{IsUtf8, bytes_eq, chars, drop_trailing_whitespace, skip_leading_whitespace, trim, trim_end, trim_start}
use lib.Utf8.{encodes}
use Rattle.fixed_decimal.specs.Number.{IsNumber, Number}
use Rattle.fixed_decimal.specs.SignedValue.{SignedValue}
use Rattle.fixed_decimal.specs.TextLaws.{IsDecimal}
use Rattle.fixed_decimal.specs.declared.Sign.{Sign}
use Rattle.fixed_decimal.specs.declared.Sign.TheVariants.{None as NoSign, Negative, Positive}
use Rattle.fixed_decimal.proofs.SignedReadOnceLemmas.{same_signed}
use Rattle.icu_decimal_symbols.specs.Symbols.{Symbols}
use Rattle.icu_decimal_symbols.specs.declared.options.GroupingStrategy.{GroupingStrategy}
use Rattle.icu_decimal_symbols.specs.declared.options.GroupingStrategy.TheVariants.{Never, Always}
use Rattle.icu_decimal_plain.specs.PlainText.{Tables, decimal_text, unsigned_text}
use Rattle.icu_decimal_reading.specs.DecimalOfText.{IsPlainText, PlainReading, decimal, not_written, unreadable}
use Rattle.icu_decimal_reading.specs.PlainReading.{plain_reading}
use Rattle.icu_decimal_reading.specs.Readable.{has_no_digit, is_readable_by}
use Rattle.icu_decimal_reading.specs.ReadingLaws.{AreTables}
use Rattle.icu_decimal_reading.proofs.LawLemmas.{unreadable_is}
use Rattle.icu_decimal_reading.proofs.PlainLemmas.{chars_of, decimal_utf8, encoded_decimal, marks_of, plain_chars, same_chars, whole_some}
use Rattle.icu_decimal_lenient.specs.Folding.{fold_of, folded_alike, folded_chars, folded_symbols, folded_tables, folded_text, plain_digits}
use Rattle.icu_decimal_lenient.specs.LenientLaws.{grouped_as}
use Rattle.icu_decimal_lenient.specs.LenientReading.{IsGroupedText, IsUnreadable, is_leniently_readable_by, lenient_reading, or_else, read_either, trimmed_fold, under, with_folded}
use Rattle.icu_decimal_lenient.proofs.FoldingLemmas.{are_alike, are_folded, fold_of_text, folded_utf8}
use Rattle.icu_decimal_lenient.proofs.GroupingLemmas.{are_under, groupings_one, two_groupings}
use Rattle.icu_decimal_lenient.proofs.LenientLemmas.{either_again, else_readable, lenient_is_unreadable, none_else}
use Rattle.icu_dimension_affixes.specs.UnitPatterns.{AffixPair}
use Rattle.icu_dimension_affixes.specs.UnitReading.{AreReaderTexts, IsUnitText, ReaderTexts, SignPairs, are_clear_pairs, do_pairs_differ, is_clear, is_unit_readable_by, pair_for, text_by}
use Rattle.icu_dimension_affixes.specs.UnitText.{text_between}
use Rattle.icu_dimension_affixes.proofs.ReaderLemmas.{plain_unsigned}
use Rattle.icu_dimension_affixes.proofs.UnitReadingLemmas.{are_reader_texts, unit_texts_have_one_decimal}
use Rattle.icu_dimension_lenient.specs.Agreement.{DoDiffer, IsOneOf, agreed_reading}
use Rattle.icu_dimension_lenient.specs.GroupedUnitLaws.{AreGroupedTexts, EachUnitGroupingIsLenient, EachUnitGroupingIsNoOther, EachUnitGroupingIsOneWay, UnitGroupingsHaveOneDecimal, has_bare_ends, have_bare_ends, ways_with}
use Rattle.icu_dimension_lenient.specs.LenientUnits.{between, folded_pair, folded_pairs, read_between, read_own, signed_as, signed_within}
use Rattle.icu_dimension_lenient.specs.OwnUnitTexts.{reader_under}
use Rattle.icu_dimension_lenient.specs.TypedUnits.{IsBetween, unsigned}
use Rattle.icu_dimension_lenient.proofs.OwnUnitLemmas.{between_some, inner_same}
use Rattle.icu_dimension_lenient.proofs.SpelledLemmas.{IsSpelled, around_same, drop_number, number_is_spelled, skip_number}
use Rattle.icu_dimension_lenient.proofs.TypedUnitLemmas.{all_agree, none_or_two, own_is}
use Rattle.icu_dimension_lenient.proofs.UnitReadingsLemmas.{signed_unreadable}

-- ---- the characters of a number between affixes

unsigned_utf8 : (t : Tables) (n : Number) → AreTables t → IsNumber n → IsUtf8 (unsigned_text t n)
unsigned_utf8 t n are is = subst IsUtf8 (plain_unsigned t n) (decimal_utf8 t (record { sign = NoSign; absolute = n }) are is)

unsigned_chars : (t : Tables) (n : Number) → AreTables t → IsNumber n → chars (unsigned_text t n) ≡ chars_of t n
unsigned_chars t n are is =
    let v : SignedValue Number = record { sign = NoSign; absolute = n } in
    ap chars (sym (plain_unsigned t n))
    ∙ sym (chars_from_encodes (plain_chars t v) (decimal_text t v) (decimal_utf8 t v are is) (sym (encoded_decimal t v are (whole_some n is))))
    ∙ ap (λ empty. empty ++ (chars_of t n ++ empty)) chars-nil ∙ append-nil (chars_of t n)

between_chars : (t : Tables) (n : Number) (pair : AffixPair) → AreTables t → IsNumber n → IsUtf8 pair.before
    → chars (text_between pair (unsigned_text t n)) ≡ chars pair.before ++ (chars_of t n ++ chars pair.after)
between_chars t n pair are is utf8 =
    chars-append pair.before (unsigned_text t n ++ pair.after) utf8
    ∙ ap (λ cs. chars pair.before ++ cs) (chars-append (unsigned_text t n) pair.after (unsigned_utf8 t n are is))
    ∙ ap (λ cs. chars pair.before ++ (cs ++ chars pair.after)) (unsigned_chars t n are is)

-- ---- under two groupings a text has one decimal

clear_sign : (digits : List ℕ) (pairs : SignPairs) (sign : Sign) → are_clear_pairs digits pairs ≡ true → is_clear digits (pair_for pairs sign) ≡ true
clear_sign digits pairs NoSign clear = (and_parts (is_clear digits pairs.none) _ clear).0
clear_sign digits pairs Negative clear = (and_parts (is_clear digits pairs.minus) (is_clear digits pairs.plus) (and_parts (is_clear digits pairs.none) _ clear).1).0
clear_sign digits pairs Positive clear = (and_parts (is_clear digits pairs.minus) (is_clear digits pairs.plus) (and_parts (is_clear digits pairs.none) _ clear).1).1

affixes_same : (r : ReaderTexts) (one other : GroupingStrategy) (a b : SignedValue Number) → AreReaderTexts r → is_unit_readable_by r ≡ true → IsDecimal a → IsDecimal b
    → text_by (reader_under one r) a ≡ text_by (reader_under other r) b → pair_for r.pairs a.sign ≡ pair_for r.pairs b.sign
affixes_same r one other a b texts readable first second same =
    let t : Tables = r.tables in
    let p : AffixPair = pair_for r.pairs a.sign in
    let q : AffixPair = pair_for r.pairs b.sign in
    let tests = and_parts (is_readable_by t) _ readable in
    let clear = and_parts (are_clear_pairs t.digits r.pairs) (do_pairs_differ r.pairs) tests.1 in
    let p_clear = and_parts (has_no_digit t.digits p.before) (has_no_digit t.digits p.after) (clear_sign t.digits r.pairs a.sign clear.0) in
    let q_clear = and_parts (has_no_digit t.digits q.before) (has_no_digit t.digits q.after) (clear_sign t.digits r.pairs b.sign clear.0) in
    let ends = around_same t.digits (chars t.symbols.strings.decimal_separator) (chars t.symbols.strings.grouping_separator)
    (chars p.before) (chars q.before) (chars_of (under one t) a.absolute) (chars_of (under other t) b.absolute) (chars p.after) (chars q.after) (marks_of t texts.tables tests.0)
    (number_is_spelled (under one t) a.absolute (are_under t one texts.tables) tests.0 first) (number_is_spelled (under other t) b.absolute (are_under t other texts.tables) tests.0 second)
    p_clear.0 q_clear.0 p_clear.1 q_clear.1
    (sym (between_chars (under one t) a.absolute p (are_under t one texts.tables) first (texts.before a.sign)) ∙ ap chars same
    ∙ between_chars (under other t) b.absolute q (are_under t other texts.tables) second (texts.before b.sign)) in
    let before : p.before ≡ q.before = same_chars p.before q.before (texts.before a.sign) (texts.before b.sign) ends.0 in
    let after : p.after ≡ q.after = same_chars p.after q.after (texts.after a.sign) (texts.after b.sign) ends.1 in
    λ i. record { before = before i; after = after i }

pub unit_groupings_one : UnitGroupingsHaveOneDecimal
unit_groupings_one r one other a b texts readable first second same =
    let t : Tables = r.tables in
    let tests = and_parts (is_readable_by t) _ readable in
    let pairs : pair_for r.pairs a.sign ≡ pair_for r.pairs b.sign = affixes_same r one other a b texts readable first second same in
    let number : unsigned_text (under one t) a.absolute ≡ unsigned_text (under other t) b.absolute =
    inner_same (pair_for r.pairs a.sign) (unsigned_text (under one t) a.absolute) (unsigned_text (under other t) b.absolute)
    (same ∙ ap (λ pair. text_between pair (unsigned_text (under other t) b.absolute)) (sym pairs)) in
    let absolute = groupings_one t one other (unsigned a) (unsigned b) texts.tables tests.0 first second (plain_unsigned (under one t) a.absolute ∙ number ∙ sym (plain_unsigned (under other t) b.absolute)) in
    let sign = unit_texts_have_one_decimal r a (record { sign = b.sign; absolute = a.absolute }) texts readable first first (ap (λ pair. text_between pair (unsigned_text t a.absolute)) pairs) in
    same_signed a b (ap (λ (d : SignedValue Number). d.sign) sign) (ap (λ (d : SignedValue Number). d.absolute) absolute)

-- ---- folded

folded_append : (ds xs ys : List ℕ) → IsUtf8 xs → folded_text ds (xs ++ ys) ≡ folded_text ds xs ++ folded_text ds ys
folded_append ds xs ys utf8 =
    ap (λ cs. encodes (folded_chars ds cs)) (chars-append xs ys utf8)
    ∙ ap encodes (filter_map-append (fold_of ds) (chars xs) (chars ys))
    ∙ encodes-append (folded_chars ds (chars xs)) (folded_chars ds (chars ys))

folded_number : (t : Tables) (n : Number) → AreTables t → is_readable_by t ≡ true → IsNumber n → folded_text t.digits (unsigned_text t n) ≡ unsigned_text (folded_alike t) n
folded_number t n are readable is =
    ap (folded_text t.digits) (sym (plain_unsigned t n)) ∙ fold_of_text t (record { sign = NoSign; absolute = n }) are readable is ∙ plain_unsigned (folded_alike t) n

folded_between : (t : Tables) (n : Number) (pair : AffixPair) → AreTables t → is_readable_by t ≡ true → IsNumber n → IsUtf8 pair.before
    → folded_text t.digits (text_between pair (unsigned_text t n)) ≡ text_between (folded_pair t.digits pair) (unsigned_text (folded_alike t) n)
folded_between t n pair are readable is utf8 =
    folded_append t.digits pair.before (unsigned_text t n ++ pair.after) utf8
    ∙ ap (λ rest. folded_text t.digits pair.before ++ rest) (folded_append t.digits (unsigned_text t n) pair.after (unsigned_utf8 t n are is))
    ∙ ap (λ number. folded_text t.digits pair.before ++ (number ++ folded_text t.digits pair.after)) (folded_number t n are readable is)

-- ---- and trimmed

kept_front : (text : List ℕ) → IsUtf8 text → bytes_eq (trim_start text) text ≡ true → skip_leading_whitespace (chars text) ≡ chars text
unfolding trim_start
kept_front text utf8 bare = encodes_same (skip_leading_whitespace (chars text)) (chars text) ((bytes_decides (trim_start text) text).0 bare ∙ sym (encodes-chars text utf8))

kept_end : (text : List ℕ) → IsUtf8 text → bytes_eq (trim_end text) text ≡ true → drop_trailing_whitespace (chars text) ≡ chars text
unfolding trim_end
kept_end text utf8 bare = encodes_same (drop_trailing_whitespace (chars text)) (chars text) ((bytes_decides (trim_end text) text).0 bare ∙ sym (encodes-chars text utf8))

module _ (t : Tables) (n : Number) (pair : AffixPair) (are : AreTables t) (readable : is_readable_by t ≡ true) (is : IsNumber n) (front : IsUtf8 pair.before) (end : IsUtf8 pair.after)
    (bare : has_bare_ends pair ≡ true) (ascii : t.digits ≡ plain_digits) where
  abbrev whole : List ℕ
  whole = text_between pair (unsigned_text t n)

  abbrev spelled : List ℕ
  spelled = chars pair.before ++ (chars_of t n ++ chars pair.after)

  whole_utf8 : IsUtf8 whole
  whole_utf8 = IsUtf8-append pair.before (unsigned_text t n ++ pair.after) front (IsUtf8-append (unsigned_text t n) pair.after (unsigned_utf8 t n are is) end)

  whole_chars : chars whole ≡ spelled
  whole_chars = between_chars t n pair are is front

  tests : (bytes_eq (trim_start pair.before) pair.before ≡ true) × (bytes_eq (trim_end pair.after) pair.after ≡ true)
  tests = and_parts (bytes_eq (trim_start pair.before) pair.before) (bytes_eq (trim_end pair.after) pair.after) bare

  start_stays : trim_start whole ≡ whole
  unfolding trim_start
  start_stays =
      ap (λ cs. encodes (skip_leading_whitespace cs)) whole_chars
      ∙ ap encodes (skip_number (chars pair.before) (chars_of t n) (chars pair.after) (subst (λ ds. IsSpelled ds (chars_of t n)) ascii (number_is_spelled t n are readable is)) (kept_front pair.before front tests.0))
      ∙ ap encodes (sym whole_chars) ∙ encodes-chars whole whole_utf8

  end_stays : trim_end whole ≡ whole
  unfolding trim_end
  end_stays =
      ap (λ cs. encodes (drop_trailing_whitespace cs)) whole_chars
      ∙ ap encodes (drop_number (chars pair.before) (chars_of t n) (chars pair.after) (subst (λ ds. IsSpelled ds (chars_of t n)) ascii (number_is_spelled t n are readable is)) (kept_end pair.after end tests.1))
      ∙ ap encodes (sym whole_chars) ∙ encodes-chars whole whole_utf8

  trim_stays : trim (text_between pair (unsigned_text t n)) ≡ text_between pair (unsigned_text t n)
  trim_stays = ap trim_end start_stays ∙ end_stays

-- ---- what texts that are read so have

bare_sign : (pairs : SignPairs) (sign : Sign) → have_bare_ends pairs ≡ true → has_bare_ends (pair_for pairs sign) ≡ true
bare_sign pairs NoSign bare = (and_parts (has_bare_ends pairs.none) _ bare).0
bare_sign pairs Negative bare = (and_parts (has_bare_ends pairs.minus) (has_bare_ends pairs.plus) (and_parts (has_bare_ends pairs.none) _ bare).1).0
bare_sign pairs Positive bare = (and_parts (has_bare_ends pairs.minus) (has_bare_ends pairs.plus) (and_parts (has_bare_ends pairs.none) _ bare).1).1

pair_folded : (ds : List ℕ) (pairs : SignPairs) (sign : Sign) → folded_pair ds (pair_for pairs sign) ≡ pair_for (folded_pairs ds pairs) sign
pair_folded ds pairs NoSign = refl
pair_folded ds pairs Negative = refl
pair_folded ds pairs Positive = refl

-- a reader of folded texts
abbrev folded_reader : ReaderTexts → ReaderTexts
folded_reader r = record { tables = folded_tables Never r.tables; pairs = folded_pairs r.tables.digits r.pairs }

folded_texts : (r : ReaderTexts) → AreReaderTexts r → AreReaderTexts (folded_reader r)
folded_texts r texts =
    let ten = texts.tables.ten in
    let ds : List ℕ = r.tables.digits in
    are_reader_texts (folded_reader r) (are_folded r.tables Never texts.tables)
    (folded_utf8 ds r.pairs.none.before ten (texts.before NoSign)) (folded_utf8 ds r.pairs.none.after ten (texts.after NoSign))
    (folded_utf8 ds r.pairs.minus.before ten (texts.before Negative)) (folded_utf8 ds r.pairs.minus.after ten (texts.after Negative))
    (folded_utf8 ds r.pairs.plus.before ten (texts.before Positive)) (folded_utf8 ds r.pairs.plus.after ten (texts.after Positive))

record AreReadable (r : ReaderTexts) : Type 0 where
  pub own : is_unit_readable_by r ≡ true
  pub lenient : is_leniently_readable_by r.tables ≡ true
  pub plain : is_readable_by r.tables ≡ true
  pub folded : is_readable_by (folded_tables Never r.tables) ≡ true
  pub reader : is_unit_readable_by (folded_reader r) ≡ true

readable_parts : (r : ReaderTexts) (unit code : List ℕ) → AreGroupedTexts r unit code → AreReadable r
readable_parts r unit code are =
    let first = and_parts (is_unit_readable_by r) _ are.readable in
    let second = and_parts (is_leniently_readable_by r.tables) _ first.1 in
    let third = and_parts (is_readable_by r.tables) (is_readable_by (folded_tables Never r.tables)) second.0 in
    record { own = first.0; lenient = second.0; plain = third.0; folded = third.1; reader = and_from (is_readable_by (folded_tables Never r.tables)) _ third.1 second.1 }

-- ---- readings that are no unreadable ones

no_missing : (v : SignedValue Number) → decimal v ≡ not_written → ⊥
no_missing v e = cc

no_unreadable : (v : SignedValue Number) → decimal v ≡ unreadable → ⊥
no_unreadable v e = cc

missing_apart : not_written ≡ unreadable → ⊥
missing_apart e = cc

either_readable : (folded : Symbols) (text : List ℕ) → is_readable_by (with_folded Never folded) ≡ true → read_either folded text ≡ unreadable → ⊥
either_readable folded text readable =
    else_readable (plain_reading (with_folded Never folded) text) (plain_reading (with_folded Always folded) text)
    (λ e. false≢true (sym (unreadable_is (with_folded Never folded) text e) ∙ readable))
    (λ e. false≢true (sym (unreadable_is (with_folded Always folded) text e) ∙ readable))

between_readable : (folded : Symbols) (sign : Sign) (pair : AffixPair) (text : List ℕ) → is_readable_by (with_folded Never folded) ≡ true → read_between folded sign pair text ≡ unreadable → ⊥
between_readable folded sign pair text readable = by (between pair text)
  where
    by : (o : Option (List ℕ)) → signed_within folded sign o ≡ unreadable → ⊥
    by None e = missing_apart e
    by (Some inner) e = either_readable folded inner readable (signed_unreadable sign (read_either folded inner) e)

-- a decimal that one of three readings is
one_of_three : (v : SignedValue Number) (none minus plus : PlainReading) → (none ≡ decimal v) ⊎ ((minus ≡ decimal v) ⊎ (plus ≡ decimal v)) → or_else none (or_else minus plus) ≡ not_written → ⊥
one_of_three v none minus plus is e = by is
  where
    first : (none ≡ not_written) × (or_else minus plus ≡ not_written)
    first = none_else none (or_else minus plus) e

    second : (minus ≡ not_written) × (plus ≡ not_written)
    second = none_else minus plus first.1

    by : (none ≡ decimal v) ⊎ ((minus ≡ decimal v) ⊎ (plus ≡ decimal v)) → ⊥
    by (inl is) = no_missing v (sym is ∙ first.0)
    by (inr (inl is)) = no_missing v (sym is ∙ second.0)
    by (inr (inr is)) = no_missing v (sym is ∙ second.1)

unless_readable : (v : SignedValue Number) (b : Bool) → cond b (decimal v) not_written ≡ unreadable → ⊥
unless_readable v true e = no_unreadable v e
unless_readable v false e = missing_apart e

agreed_readable : (v : SignedValue Number) (first second : PlainReading) (rest : List PlainReading) → (first ≡ unreadable → ⊥) → second ≡ decimal v → agreed_reading (first ∷ second ∷ rest) ≡ unreadable → ⊥
agreed_readable v unreadable second rest some is e = some refl
agreed_readable v not_written second rest some is e = unless_readable v _ (ap (λ r. agreed_reading (r ∷ rest)) (sym is) ∙ e)
agreed_readable v (decimal u) second rest some is e = unless_readable u _ e

lenient_readable : (t : Tables) (text : List ℕ) → is_readable_by t ≡ true → is_leniently_readable_by t ≡ true → lenient_reading t text ≡ unreadable → ⊥
lenient_readable t text plain lenient e = by ((lenient_is_unreadable t text).0 e)
  where
    by : IsUnreadable t text → ⊥
    by (inl lacks) = false≢true (sym lacks ∙ plain)
    by (inr lacks) = false≢true (sym lacks.0 ∙ lenient)

-- ---- between the affixes of its sign

module _ (r : ReaderTexts) (strategy : GroupingStrategy) (v : SignedValue Number) (texts : AreReaderTexts r) (parts : AreReadable r) (bare : have_bare_ends (folded_pairs r.tables.digits r.pairs) ≡ true) (is : IsDecimal v) where
  abbrev tables : Tables
  tables = under strategy r.tables

  abbrev alike : Tables
  alike = folded_alike (under strategy r.tables)

  abbrev folded : Symbols
  folded = folded_symbols r.tables

  abbrev pairs : SignPairs
  pairs = folded_pairs r.tables.digits r.pairs

  abbrev number : List ℕ
  number = unsigned_text (folded_alike (under strategy r.tables)) v.absolute

  abbrev whole_fold : List ℕ
  whole_fold = text_between (pair_for (folded_pairs r.tables.digits r.pairs) v.sign) (unsigned_text (folded_alike (under strategy r.tables)) v.absolute)

  are_tables : AreTables tables
  are_tables = are_under r.tables strategy texts.tables

  fold_is : trimmed_fold r.tables (text_by (reader_under strategy r) v) ≡ whole_fold
  fold_is =
      ap trim (folded_between tables v.absolute (pair_for r.pairs v.sign) are_tables parts.plain is (texts.before v.sign)
      ∙ ap (λ pair. text_between pair number) (pair_folded r.tables.digits r.pairs v.sign))
      ∙ trim_stays alike v.absolute (pair_for pairs v.sign) (are_alike tables are_tables) parts.folded is ((folded_texts r texts).before v.sign) ((folded_texts r texts).after v.sign) (bare_sign pairs v.sign bare) refl

  -- it is a text of the folded reader, without groups or with all of them
  abbrev IsOfReader : SignedValue Number → Type 0
  IsOfReader w = (grouping : GroupingStrategy) × (text_by (reader_under grouping (folded_reader r)) w ≡ whole_fold)

  of_reader : IsOfReader v
  of_reader = by (two_groupings alike (unsigned v))
    where
      written : (grouping : GroupingStrategy) → decimal_text alike (unsigned v) ≡ decimal_text (grouped_as grouping alike) (unsigned v) → IsOfReader v
      written grouping same =
          (grouping, ap (text_between (pair_for pairs v.sign)) (sym (plain_unsigned (grouped_as grouping alike) v.absolute) ∙ sym same ∙ plain_unsigned alike v.absolute))

      by : (decimal_text alike (unsigned v) ≡ decimal_text (grouped_as Never alike) (unsigned v)) ⊎ (decimal_text alike (unsigned v) ≡ decimal_text (grouped_as Always alike) (unsigned v)) → IsOfReader v
      by (inl same) = written Never same
      by (inr same) = written Always same

  -- no other decimal is read between the affixes of a sign
  no_other : (w : SignedValue Number) → read_own folded pairs whole_fold ≡ decimal w → w ≡ v
  no_other w e = by spelling.number
    where
      spelling : IsBetween folded (pair_for pairs w.sign) whole_fold w
      spelling = own_is r.tables texts.tables pairs whole_fold w e

      same : (grouping : GroupingStrategy) → IsPlainText (with_folded grouping folded) spelling.inner (unsigned w) → w ≡ v
      same grouping plain =
          unit_groupings_one (folded_reader r) grouping of_reader.0 w v (folded_texts r texts) parts.reader plain.decimal is
          (ap (text_between (pair_for pairs w.sign)) (sym (plain_unsigned (with_folded grouping folded) w.absolute) ∙ plain.written) ∙ spelling.between ∙ sym of_reader.1)

      by : IsGroupedText folded spelling.inner (unsigned w) → w ≡ v
      by (inl plain) = same Never plain
      by (inr plain) = same Always plain

  own_sign : read_between folded v.sign (pair_for pairs v.sign) whole_fold ≡ decimal v
  own_sign =
      ap (signed_within folded v.sign) (between_some (pair_for pairs v.sign) number)
      ∙ ap (signed_as v.sign) (either_again alike number (unsigned v) (are_alike tables are_tables) parts.folded (unsigned_utf8 alike v.absolute (are_alike tables are_tables) is) is (plain_unsigned alike v.absolute))

  abbrev read_sign : Sign → PlainReading
  read_sign sign = read_between folded sign (pair_for pairs sign) whole_fold

  one_sign : (read_sign NoSign ≡ decimal v) ⊎ ((read_sign Negative ≡ decimal v) ⊎ (read_sign Positive ≡ decimal v))
  one_sign = by v.sign own_sign
    where
      by : (sign : Sign) → read_sign sign ≡ decimal v → (read_sign NoSign ≡ decimal v) ⊎ ((read_sign Negative ≡ decimal v) ⊎ (read_sign Positive ≡ decimal v))
      by NoSign e = inl e
      by Negative e = inr (inl e)
      by Positive e = inr (inr e)

  never : read_own folded pairs whole_fold ≡ unreadable → ⊥
  never =
      else_readable (read_sign NoSign) (or_else (read_sign Negative) (read_sign Positive)) (between_readable folded NoSign pairs.none whole_fold parts.folded)
      (else_readable (read_sign Negative) (read_sign Positive) (between_readable folded Negative pairs.minus whole_fold parts.folded) (between_readable folded Positive pairs.plus whole_fold parts.folded))

  own_reads : read_own folded pairs whole_fold ≡ decimal v
  own_reads = by (read_own folded pairs whole_fold) refl
    where
      by : (reading : PlainReading) → read_own folded pairs whole_fold ≡ reading → read_own folded pairs whole_fold ≡ decimal v
      by unreadable e = absurd (never e)
      by not_written e = absurd (one_of_three v (read_sign NoSign) (read_sign Negative) (read_sign Positive) one_sign e)
      by (decimal w) e = e ∙ ap decimal (no_other w e)

  own_way : read_own folded pairs (trimmed_fold r.tables (text_by (reader_under strategy r) v)) ≡ decimal v
  own_way = ap (read_own folded pairs) fold_is ∙ own_reads

-- ---- the laws

own_way_of : (r : ReaderTexts) (unit code : List ℕ) (strategy : GroupingStrategy) (text : List ℕ) (v : SignedValue Number) → AreGroupedTexts r unit code → IsUnitText (reader_under strategy r) text v
    → read_own (folded_symbols r.tables) (folded_pairs r.tables.digits r.pairs) (trimmed_fold r.tables text) ≡ decimal v
own_way_of r unit code strategy text v are is =
    ap (λ written. read_own (folded_symbols r.tables) (folded_pairs r.tables.digits r.pairs) (trimmed_fold r.tables written)) (sym is.written)
    ∙ own_way r strategy v are.texts (readable_parts r unit code are) are.bare is.decimal

pub grouping_is_one_way : EachUnitGroupingIsOneWay
grouping_is_one_way r unit code strategy text v are is = inr (inl (own_way_of r unit code strategy text v are is))

pub grouping_is_no_other : EachUnitGroupingIsNoOther
grouping_is_no_other r unit code strategy text v reading are is (inl found) =
    inl (found.1.1 ∙ ap decimal (unit_groupings_one r r.tables.strategy strategy found.0 v are.texts (readable_parts r unit code are).own found.1.0.decimal is.decimal (found.1.0.written ∙ sym is.written)))
grouping_is_no_other r unit code strategy text v reading are is (inr missing) = by (agreed_reading ways) refl
  where
    ways : List PlainReading
    ways = ways_with r unit code text

    parts : AreReadable r
    parts = readable_parts r unit code are

    one : IsOneOf ways v
    one = grouping_is_one_way r unit code strategy text v are is

    two : ((w : SignedValue Number) → ¬ (IsOneOf ways w)) ⊎ DoDiffer ways → DoDiffer ways
    two (inl none) = absurd (none v one)
    two (inr differ) = differ

    by : (answer : PlainReading) → agreed_reading ways ≡ answer → (reading ≡ decimal v) ⊎ ((reading ≡ not_written) × DoDiffer ways)
    by unreadable e =
        absurd (agreed_readable v (lenient_reading r.tables text) _ _ (lenient_readable r.tables text parts.plain parts.lenient) (own_way_of r unit code strategy text v are is) e)
    by not_written e = inr (missing.1 ∙ e, two (none_or_two ways e))
    by (decimal w) e = inl (missing.1 ∙ e ∙ ap decimal (sym (all_agree ways w v e one)))

pub grouping_is_lenient : EachUnitGroupingIsLenient
grouping_is_lenient r unit code strategy text v reading are is same reads = by (grouping_is_no_other r unit code strategy text v reading are is reads)
  where
    by : (reading ≡ decimal v) ⊎ ((reading ≡ not_written) × DoDiffer (ways_with r unit code text)) → reading ≡ decimal v
    by (inl e) = e
    by (inr none) = absurd (none.1.differ (same none.1.one none.1.first ∙ sym (same none.1.two none.1.second)))
