-- Where it is readable, a text with a unit has one decimal: that of tables in which two pairs of affixes are those of the signs.
use Rattle.std.proofs.Common.{◌≡◌, ℕ, Bool, true, false, not, List, [], ◌∷◌, ◌++◌, length, refl, sym, ap, subst, ◌∙◌, arith}
use Rattle.std.proofs.lemmas.Bool.{and_from, and_parts, both_ways, not-true}
use Rattle.std.proofs.lemmas.List.{append_assoc, append_cancel_left, append_cancel_right}
use Rattle.std.proofs.lemmas.List.Folds.{list_all-append}
use Rattle.std.proofs.lemmas.Str.{IsUtf8-append, chars-append}
use Rattle.std.specs.Cmp.Lexicographic.{bytes_decides}
use Rattle.std.specs.List.{list_all}
use Rattle.std.specs.Prelude.{is_none}
use Rattle.std.specs.Str.{IsUtf8, bytes_eq, chars}
use Rattle.fixed_decimal.specs.Number.{IsNumber, Number}
use Rattle.fixed_decimal.specs.SignedValue.{SignedValue}
use Rattle.fixed_decimal.specs.declared.Sign.{Sign}
use Rattle.fixed_decimal.specs.declared.Sign.TheVariants.{None as NoSign, Negative, Positive}
use Rattle.icu_decimal_plain.specs.PlainText.{Tables, decimal_text, unsigned_text}
use Rattle.icu_decimal_reading.specs.DecimalOfText.{decimal, not_written, unreadable}
use Rattle.icu_decimal_reading.specs.Readable.{all_differ, are_clear, digit_of, do_separators_differ, do_signs_differ, has_no_digit, is_readable_by, is_same_pair}
use Rattle.icu_decimal_reading.specs.ReadingLaws.{AreTables}
use Rattle.icu_decimal_reading.proofs.LawLemmas.{one_decimal}
use Rattle.icu_dimension_affixes.specs.UnitPatterns.{AffixPair}
use Rattle.icu_dimension_affixes.specs.UnitReading.{AreReaderTexts, ReaderTexts, SignPairs, are_clear_pairs, do_differ, do_pairs_differ, is_clear, is_unit_readable_by, pair_for, reader_texts, text_by}
use Rattle.icu_dimension_affixes.specs.UnitReadingLaws.{HasOneUnitReading, ReadUnitIsWrittenAgain, ReadersReadWhatIsWritten, UnitTextsHaveOneDecimal, WrittenUnitReadsBack}
use Rattle.icu_dimension_affixes.specs.UnitText.{UnitSettings, sign_pair, text_between}
use Rattle.icu_dimension_affixes.proofs.ReaderLemmas.{plain_unsigned}

-- ---- tests

not_from : (b : Bool) → (b ≡ true → ⊥) → not b ≡ true
not_from false never = refl
not_from true never = absurd (never refl)

apart : (p s q r : List ℕ) → not (is_same_pair p s q r) ≡ true → p ≡ q → s ≡ r → ⊥
apart p s q r other first second =
    both_ways (is_same_pair p s q r) (not-true (is_same_pair p s q r) other) (and_from (bytes_eq p q) (bytes_eq s r) ((bytes_decides p q).1 first) ((bytes_decides s r).1 second))

apart_from : (p s q r : List ℕ) → (p ≡ q → s ≡ r → ⊥) → not (is_same_pair p s q r) ≡ true
apart_from p s q r other =
    not_from (is_same_pair p s q r) (λ same. let parts = and_parts (bytes_eq p q) (bytes_eq s r) same in other ((bytes_decides p q).0 parts.0) ((bytes_decides s r).0 parts.1))

empty_front : (xs ys : List ℕ) → xs ++ ys ≡ [] → xs ≡ []
empty_front [] ys none = refl
empty_front (x ∷ xs) ys none = let long : length (x ∷ (xs ++ ys)) ≡ 0 = ap length none in absurd (omega (arith, long))

clear_joined : (digits xs ys : List ℕ) → IsUtf8 xs → has_no_digit digits xs ≡ true → has_no_digit digits ys ≡ true → has_no_digit digits (xs ++ ys) ≡ true
clear_joined digits xs ys utf8 first second =
    ap (λ cs. list_all (λ c. is_none (digit_of digits c)) cs) (chars-append xs ys utf8)
    ∙ list_all-append (λ c. is_none (digit_of digits c)) (chars xs) (chars ys)
    ∙ and_from (has_no_digit digits xs) (has_no_digit digits ys) first second

-- ---- two pairs of affixes as those of a minus and of a plus, after the decimal separator so that neither is empty

abbrev separator_of : Tables → List ℕ
separator_of t = t.symbols.strings.decimal_separator

abbrev with_pairs : Tables → AffixPair → AffixPair → Tables
with_pairs t p q = record t {
  symbols = record t.symbols {
    strings = record t.symbols.strings {
      minus_sign_prefix = separator_of t ++ p.before;
      minus_sign_suffix = p.after;
      plus_sign_prefix = separator_of t ++ q.before;
      plus_sign_suffix = q.after;
    };
  };
}

minus_text : (t : Tables) (p q : AffixPair) (n : Number) → decimal_text (with_pairs t p q) (record { sign = Negative; absolute = n }) ≡ separator_of t ++ text_between p (unsigned_text t n)
minus_text t p q n = append_assoc (separator_of t) p.before (unsigned_text t n ++ p.after)

plus_text : (t : Tables) (p q : AffixPair) (n : Number) → decimal_text (with_pairs t p q) (record { sign = Positive; absolute = n }) ≡ separator_of t ++ text_between q (unsigned_text t n)
plus_text t p q n = append_assoc (separator_of t) q.before (unsigned_text t n ++ q.after)

-- what two pairs are to be told apart by
record CanTell (t : Tables) (p q : AffixPair) : Type 0 where
  pub tables : AreTables t
  pub readable : is_readable_by t ≡ true
  pub p_before : IsUtf8 p.before
  pub p_after : IsUtf8 p.after
  pub q_before : IsUtf8 q.before
  pub q_after : IsUtf8 q.after
  pub p_clear : is_clear t.digits p ≡ true
  pub q_clear : is_clear t.digits q ≡ true
  pub differ : do_differ p q ≡ true

pairs_are_tables : (t : Tables) (p q : AffixPair) → CanTell t p q → AreTables (with_pairs t p q)
pairs_are_tables t p q can = record {
  ten = can.tables.ten;
  digits = can.tables.digits;
  minus_prefix = IsUtf8-append (separator_of t) p.before can.tables.point can.p_before;
  minus_suffix = can.p_after;
  plus_prefix = IsUtf8-append (separator_of t) q.before can.tables.point can.q_before;
  plus_suffix = can.q_after;
  point = can.tables.point;
  group = can.tables.group;
}

pairs_clear : (t : Tables) (p q : AffixPair) → CanTell t p q → are_clear t.digits t.symbols.strings ≡ true → are_clear t.digits (with_pairs t p q).symbols.strings ≡ true
pairs_clear t p q can clear =
    let s = t.symbols.strings in
    let no = has_no_digit t.digits in
    let minus_prefix = and_parts (no s.minus_sign_prefix) _ clear in
    let minus_suffix = and_parts (no s.minus_sign_suffix) _ minus_prefix.1 in
    let plus_prefix = and_parts (no s.plus_sign_prefix) _ minus_suffix.1 in
    let plus_suffix = and_parts (no s.plus_sign_suffix) _ plus_prefix.1 in
    let separators = and_parts (no s.decimal_separator) (no s.grouping_separator) plus_suffix.1 in
    let p_clear = and_parts (no p.before) (no p.after) can.p_clear in
    let q_clear = and_parts (no q.before) (no q.after) can.q_clear in
    and_from _ _ (clear_joined t.digits (separator_of t) p.before can.tables.point separators.0 p_clear.0)
    (and_from _ _ p_clear.1
    (and_from _ _ (clear_joined t.digits (separator_of t) q.before can.tables.point separators.0 q_clear.0)
    (and_from _ _ q_clear.1 plus_suffix.1)))

some_separator : (t : Tables) (xs : List ℕ) → do_separators_differ t.symbols.strings ≡ true → separator_of t ++ xs ≡ [] → ⊥
some_separator t xs differ none =
    let some = and_parts (not (bytes_eq (separator_of t) [])) _ differ in
    both_ways (bytes_eq (separator_of t) []) (not-true (bytes_eq (separator_of t) []) some.0) ((bytes_decides (separator_of t) []).1 (empty_front (separator_of t) xs none))

pairs_differ : (t : Tables) (p q : AffixPair) → CanTell t p q → do_separators_differ t.symbols.strings ≡ true → do_signs_differ (with_pairs t p q).symbols.strings ≡ true
pairs_differ t p q can separators =
    let sep = separator_of t in
    and_from _ _ (apart_from (sep ++ p.before) p.after [] [] (λ first second. some_separator t p.before separators first))
    (and_from _ _ (apart_from (sep ++ q.before) q.after [] [] (λ first second. some_separator t q.before separators first))
    (apart_from (sep ++ p.before) p.after (sep ++ q.before) q.after (λ first second. apart p.before p.after q.before q.after can.differ (append_cancel_left sep p.before q.before first) second)))

pairs_are_readable : (t : Tables) (p q : AffixPair) → CanTell t p q → is_readable_by (with_pairs t p q) ≡ true
pairs_are_readable t p q can =
    let digits = and_parts (all_differ t.digits) _ can.readable in
    let clear = and_parts (are_clear t.digits t.symbols.strings) _ digits.1 in
    let separators = and_parts (do_separators_differ t.symbols.strings) (do_signs_differ t.symbols.strings) clear.1 in
    and_from _ _ digits.0 (and_from _ _ (pairs_clear t p q can clear.0) (and_from _ _ separators.0 (pairs_differ t p q can separators.0)))

abbrev IsMinus : Sign → Type 0
IsMinus NoSign = ⊥
IsMinus Negative = Unit {0}
IsMinus Positive = ⊥

-- no text is between both
tell : (t : Tables) (p q : AffixPair) → CanTell t p q → (n m : Number) → IsNumber n → IsNumber m → text_between p (unsigned_text t n) ≡ text_between q (unsigned_text t m) → ⊥
tell t p q can n m one other same =
    let minus : SignedValue Number = record { sign = Negative; absolute = n } in
    let plus : SignedValue Number = record { sign = Positive; absolute = m } in
    let alike : decimal_text (with_pairs t p q) minus ≡ decimal_text (with_pairs t p q) plus = minus_text t p q n ∙ ap (λ text. separator_of t ++ text) same ∙ sym (plus_text t p q m) in
    subst IsMinus (ap (λ (d : SignedValue Number). d.sign) (one_decimal (with_pairs t p q) minus plus (pairs_are_tables t p q can) (pairs_are_readable t p q can) one other alike)) tt

-- ---- the signs

clear_for : (digits : List ℕ) (pairs : SignPairs) (sign : Sign) → are_clear_pairs digits pairs ≡ true → is_clear digits (pair_for pairs sign) ≡ true
clear_for digits pairs NoSign clear = (and_parts (is_clear digits pairs.none) _ clear).0
clear_for digits pairs Negative clear = (and_parts (is_clear digits pairs.minus) (is_clear digits pairs.plus) (and_parts (is_clear digits pairs.none) _ clear).1).0
clear_for digits pairs Positive clear = (and_parts (is_clear digits pairs.minus) (is_clear digits pairs.plus) (and_parts (is_clear digits pairs.none) _ clear).1).1

-- the three tests of a reader
record Tests (r : ReaderTexts) : Type 0 where
  pub tables : is_readable_by r.tables ≡ true
  pub clear : are_clear_pairs r.tables.digits r.pairs ≡ true
  pub none_minus : do_differ r.pairs.none r.pairs.minus ≡ true
  pub none_plus : do_differ r.pairs.none r.pairs.plus ≡ true
  pub minus_plus : do_differ r.pairs.minus r.pairs.plus ≡ true

tests_of : (r : ReaderTexts) → is_unit_readable_by r ≡ true → Tests r
tests_of r readable =
    let tables = and_parts (is_readable_by r.tables) _ readable in
    let clear = and_parts (are_clear_pairs r.tables.digits r.pairs) (do_pairs_differ r.pairs) tables.1 in
    let first = and_parts (do_differ r.pairs.none r.pairs.minus) _ clear.1 in
    let second = and_parts (do_differ r.pairs.none r.pairs.plus) (do_differ r.pairs.minus r.pairs.plus) first.1 in
    record { tables = tables.0; clear = clear.0; none_minus = first.0; none_plus = second.0; minus_plus = second.1 }

can_tell : (r : ReaderTexts) (x y : Sign) → AreReaderTexts r → Tests r → do_differ (pair_for r.pairs x) (pair_for r.pairs y) ≡ true → CanTell r.tables (pair_for r.pairs x) (pair_for r.pairs y)
can_tell r x y texts tests differ = record {
  tables = texts.tables;
  readable = tests.tables;
  p_before = texts.before x;
  p_after = texts.after x;
  q_before = texts.before y;
  q_after = texts.after y;
  p_clear = clear_for r.tables.digits r.pairs x tests.clear;
  q_clear = clear_for r.tables.digits r.pairs y tests.clear;
  differ = differ;
}

abbrev SameText : ReaderTexts → Sign → Sign → Number → Number → Type 0
SameText r x y n m = text_between (pair_for r.pairs x) (unsigned_text r.tables n) ≡ text_between (pair_for r.pairs y) (unsigned_text r.tables m)

never_same : (r : ReaderTexts) (x y : Sign) (n m : Number) → AreReaderTexts r → Tests r → do_differ (pair_for r.pairs x) (pair_for r.pairs y) ≡ true → IsNumber n → IsNumber m → SameText r x y n m → ⊥
never_same r x y n m texts tests differ one other same =
    tell r.tables (pair_for r.pairs x) (pair_for r.pairs y) (can_tell r x y texts tests differ) n m one other same

same_sign : (r : ReaderTexts) (x y : Sign) (n m : Number) → AreReaderTexts r → Tests r → IsNumber n → IsNumber m → SameText r x y n m → x ≡ y
same_sign r NoSign NoSign n m texts tests one other same = refl
same_sign r NoSign Negative n m texts tests one other same = absurd (never_same r NoSign Negative n m texts tests tests.none_minus one other same)
same_sign r NoSign Positive n m texts tests one other same = absurd (never_same r NoSign Positive n m texts tests tests.none_plus one other same)
same_sign r Negative NoSign n m texts tests one other same = absurd (never_same r NoSign Negative m n texts tests tests.none_minus other one (sym same))
same_sign r Negative Negative n m texts tests one other same = refl
same_sign r Negative Positive n m texts tests one other same = absurd (never_same r Negative Positive n m texts tests tests.minus_plus one other same)
same_sign r Positive NoSign n m texts tests one other same = absurd (never_same r NoSign Positive m n texts tests tests.none_plus other one (sym same))
same_sign r Positive Negative n m texts tests one other same = absurd (never_same r Negative Positive m n texts tests tests.minus_plus other one (sym same))
same_sign r Positive Positive n m texts tests one other same = refl

-- ---- the number

same_number : (t : Tables) (pair : AffixPair) (n m : Number) → AreTables t → is_readable_by t ≡ true → IsNumber n → IsNumber m → text_between pair (unsigned_text t n) ≡ text_between pair (unsigned_text t m) → n ≡ m
same_number t pair n m tables readable one other same =
    let inner : unsigned_text t n ≡ unsigned_text t m = append_cancel_right (unsigned_text t n) (unsigned_text t m) pair.after (append_cancel_left pair.before (unsigned_text t n ++ pair.after) (unsigned_text t m ++ pair.after) same) in
    ap (λ (d : SignedValue Number). d.absolute) (one_decimal t (record { sign = NoSign; absolute = n }) (record { sign = NoSign; absolute = m }) tables readable one other (plain_unsigned t n ∙ inner ∙ sym (plain_unsigned t m)))

pub unit_texts_have_one_decimal : UnitTextsHaveOneDecimal
unit_texts_have_one_decimal r a b texts readable one other same =
    let tests : Tests r = tests_of r readable in
    let sign : a.sign ≡ b.sign = same_sign r a.sign b.sign a.absolute b.absolute texts tests one other same in
    let number : a.absolute ≡ b.absolute = same_number r.tables (pair_for r.pairs a.sign) a.absolute b.absolute texts.tables tests.tables one other (same ∙ ap (λ s. text_between (pair_for r.pairs s) (unsigned_text r.tables b.absolute)) (sym sign)) in
    λ i. record { sign = sign i; absolute = number i }

-- ---- one reading

pub one_unit_reading : HasOneUnitReading
one_unit_reading r text unreadable unreadable texts p q = refl
one_unit_reading r text unreadable not_written texts p q = absurd (both_ways (is_unit_readable_by r) p q.0)
one_unit_reading r text unreadable (decimal w) texts p q = absurd (both_ways (is_unit_readable_by r) p q.0)
one_unit_reading r text not_written unreadable texts p q = absurd (both_ways (is_unit_readable_by r) q p.0)
one_unit_reading r text not_written not_written texts p q = refl
one_unit_reading r text not_written (decimal w) texts p q = absurd (p.1 w q.1.decimal q.1.written)
one_unit_reading r text (decimal v) unreadable texts p q = absurd (both_ways (is_unit_readable_by r) q p.0)
one_unit_reading r text (decimal v) not_written texts p q = absurd (q.1 v p.1.decimal p.1.written)
one_unit_reading r text (decimal v) (decimal w) texts p q =
    ap decimal (unit_texts_have_one_decimal r v w texts p.0 p.1.decimal q.1.decimal (p.1.written ∙ sym q.1.written))

pub written_unit_reads_back : WrittenUnitReadsBack
written_unit_reads_back r v reading texts readable number reads =
    one_unit_reading r (text_by r v) reading (decimal v) texts reads (readable, record { decimal = number; written = refl })

pub read_unit_is_written_again : ReadUnitIsWrittenAgain
read_unit_is_written_again r text v reads = reads.1.written

-- ---- what is written

pair_is : (s : UnitSettings) (sign : Sign) → pair_for (reader_texts s).pairs sign ≡ sign_pair s sign
pair_is s NoSign = refl
pair_is s Negative = refl
pair_is s Positive = refl

pub readers_read_what_is_written : ReadersReadWhatIsWritten
readers_read_what_is_written s v = ap (λ pair. text_between pair (unsigned_text s.tables v.absolute)) (pair_is s v.sign)

-- six texts are those of a reader
pub are_reader_texts : (r : ReaderTexts) → AreTables r.tables → IsUtf8 r.pairs.none.before → IsUtf8 r.pairs.none.after → IsUtf8 r.pairs.minus.before → IsUtf8 r.pairs.minus.after → IsUtf8 r.pairs.plus.before → IsUtf8 r.pairs.plus.after → AreReaderTexts r
are_reader_texts r tables none_before none_after minus_before minus_after plus_before plus_after = record { tables = tables; before = before; after = after }
  where
    before : (sign : Sign) → IsUtf8 (pair_for r.pairs sign).before
    before NoSign = none_before
    before Negative = minus_before
    before Positive = plus_before

    after : (sign : Sign) → IsUtf8 (pair_for r.pairs sign).after
    after NoSign = none_after
    after Negative = minus_after
    after Positive = plus_after
