-- The steps of the reader: under a pair, under a text without the number, and under the words of each category.
use Rattle.std.proofs.Common.{◌≡◌, ◌≢◌, ℕ, Bool, true, false, List, ◌++◌, Option, None, Some, IfNone, Bor, refl, sym, ap, subst, ◌∙◌}
use Rattle.std.proofs.lemmas.Bool.{and_from, both_ways, false≢true}
use Rattle.std.proofs.lemmas.List.{append_cancel_left}
use Rattle.std.specs.Cmp.Lexicographic.{bytes_decides}
use Rattle.std.specs.Str.{bytes_eq}
use Rattle.fixed_decimal.specs.Number.{Number}
use Rattle.fixed_decimal.specs.SignedValue.{SignedValue}
use Rattle.fixed_decimal.specs.TextLaws.{IsDecimal}
use Rattle.icu_decimal_plain.specs.PlainText.{decimal_text}
use Rattle.icu_decimal_plurals.specs.declared.category.PluralCategory.{PluralCategory}
use Rattle.icu_decimal_plurals.specs.declared.category.PluralCategory.TheVariants.{Zero, One, Two, Few, Many, Other}
use Rattle.icu_decimal_reading.specs.DecimalOfText.{HasManyDigits, HasNoNumber, IsPlainText}
use Rattle.icu_decimal_reading.specs.Readable.{is_readable_by}
use Rattle.icu_decimal_reading.specs.ReadingLaws.{AreTables}
use Rattle.icu_decimal_reading.proofs.LawLemmas.{one_decimal}
use Rattle.icu_dimension_words.specs.ReadingSteps.{HasManyIn, HasNoneBare, HasNoneOf, HasNoneWith, IsNamedIfBare, TakesFrom, is_bare_text}
use Rattle.icu_dimension_words.specs.Words.{Pair, Word, around, bare, own_word}
use Rattle.icu_dimension_words.specs.WordsLaws.{digit_alone}
use Rattle.icu_dimension_words.specs.WordsReading.{HasManyBetween, HasNoDecimal, IsWordsText, is_one_pair}
use Rattle.icu_dimension_words.specs.WordsText.{WordSettings, between, is_named, is_named_number, named_number, word_for, words_text, written}
use Rattle.icu_dimension_words.proofs.AgreementLemmas.{same_pair, same_word}
use Rattle.icu_dimension_words.proofs.JustLemmas.{just_is_digit}
use Rattle.icu_dimension_words.proofs.TakenLemmas.{SomeTaken, some_taken}
use Rattle.icu_dimension_words.proofs.WordsTextLemmas.{same_between}

-- what is left of a text has no such end, and so nothing is between the two
pub strip_none : (r : Option (Bor (List ℕ))) (text rest before after : List ℕ) → text ≡ before ++ rest → IfNone r ((front : List ℕ) → rest ≢ front ++ after) → IfNone r ((inner : List ℕ) → text ≢ before ++ (inner ++ after))
strip_none (Some x) text rest before after is none = tt
strip_none None text rest before after is none =
    λ inner same. none inner (append_cancel_left before rest (inner ++ after) (sym is ∙ same))

-- ---- under a pair

pair_is : (w : Word) (pair : Pair) → is_one_pair w (around pair) ≡ true → w ≡ around pair
pair_is (around p) pair one = ap around (same_pair p pair one)
pair_is (bare text) pair one = absurd (false≢true one)

one_is : (w : Word) (pair : Pair) → w ≡ around pair → is_one_pair w (around pair) ≡ true
one_is w pair same =
    ap (λ u. is_one_pair u (around pair)) same
    ∙ and_from (bytes_eq pair.before pair.before) (bytes_eq pair.after pair.after) ((bytes_decides pair.before pair.before).1 refl) ((bytes_decides pair.after pair.after).1 refl)

pub pair_written : (s : WordSettings) (pair : Pair) (text inner : List ℕ) (v : SignedValue Number) → text ≡ between pair inner → IsPlainText s.tables inner v → is_one_pair (word_for s v) (around pair) ≡ true → IsWordsText s text v
pair_written s pair text inner v is plain takes = record {
  decimal = plain.decimal;
  written = ap (λ w. written w (decimal_text s.tables v)) (pair_is (word_for s v) pair takes) ∙ ap (between pair) plain.written ∙ sym is;
}

-- the text of a number that takes the pair is between it
inner_is : (s : WordSettings) (pair : Pair) (text inner : List ℕ) (v : SignedValue Number) → text ≡ between pair inner → word_for s v ≡ around pair → words_text s v ≡ text → decimal_text s.tables v ≡ inner
inner_is s pair text inner v is takes same =
    same_between pair (decimal_text s.tables v) inner (sym (ap (λ w. written w (decimal_text s.tables v)) takes) ∙ same ∙ is)

pub pair_other : (s : WordSettings) (pair : Pair) (text inner : List ℕ) (v : SignedValue Number) → AreTables s.tables → is_readable_by s.tables ≡ true → text ≡ between pair inner → IsPlainText s.tables inner v
    → is_one_pair (word_for s v) (around pair) ≡ false → HasNoneWith s pair text
pair_other s pair text inner v tables readable is plain other w decimal takes same =
    let number : w ≡ v = one_decimal s.tables w v tables readable decimal plain.decimal (inner_is s pair text inner w is takes same ∙ sym plain.written) in
    both_ways (is_one_pair (word_for s v) (around pair)) other (one_is (word_for s v) pair (ap (word_for s) (sym number) ∙ takes))

pub pair_missing : (s : WordSettings) (pair : Pair) (text inner : List ℕ) → text ≡ between pair inner → HasNoNumber s.tables inner → HasNoneWith s pair text
pair_missing s pair text inner is missing w decimal takes same = missing w decimal (inner_is s pair text inner w is takes same)

pub pair_nothing : (s : WordSettings) (pair : Pair) (text : List ℕ) → ((inner : List ℕ) → text ≢ pair.before ++ (inner ++ pair.after)) → HasNoneWith s pair text
pair_nothing s pair text none w decimal takes same =
    none (decimal_text s.tables w) (sym same ∙ ap (λ u. written u (decimal_text s.tables w)) takes)

pub pair_many : (s : WordSettings) (pair : Pair) (text inner : List ℕ) → text ≡ between pair inner → HasManyDigits s.tables inner → HasManyIn s pair text
pair_many s pair text inner is many = record { inner = inner; between = sym is; many = many }

-- ---- under a text without the number

bare_is : (w : Word) (text : List ℕ) → is_bare_text w text ≡ true → w ≡ bare text
bare_is (around p) text one = absurd (false≢true one)
bare_is (bare own) text one = ap bare ((bytes_decides own text).0 one)

bare_one : (w : Word) (text : List ℕ) → w ≡ bare text → is_bare_text w text ≡ true
bare_one w text same = ap (λ u. is_bare_text u text) same ∙ (bytes_decides text text).1 refl

pub bare_written : (s : WordSettings) (text : List ℕ) (v : SignedValue Number) → IsDecimal v → is_bare_text (word_for s v) text ≡ true → IsWordsText s text v
bare_written s text v decimal takes = record {
  decimal = decimal;
  written = ap (λ w. written w (decimal_text s.tables v)) (bare_is (word_for s v) text takes);
}

pub bare_other : (s : WordSettings) (category : PluralCategory) (own text : List ℕ) → bytes_eq own text ≡ false → HasNoneBare s category own text
bare_other s category own text other w decimal takes named same =
    both_ways (bytes_eq own text) other ((bytes_decides own text).1 (sym (ap (λ u. written u (decimal_text s.tables w)) takes) ∙ same))

unnamed : (category : PluralCategory) (v : SignedValue Number) → named_number category ≡ None → is_named category v ≡ true → ⊥
unnamed category v none named = false≢true (sym (ap (λ o. is_named_number o v) none) ∙ named)

pub bare_unnamed : (s : WordSettings) (category : PluralCategory) (own text : List ℕ) → named_number category ≡ None → HasNoneBare s category own text
bare_unnamed s category own text none w decimal takes named same = unnamed category w none named

pub bare_untaken : (s : WordSettings) (category : PluralCategory) (text : List ℕ) (n : ℕ) (v : SignedValue Number) → named_number category ≡ Some n → v ≡ digit_alone n → is_bare_text (word_for s v) text ≡ false → HasNoneBare s category text text
bare_untaken s category text n v number digit other w decimal takes named same =
    let one : w ≡ digit_alone n = just_is_digit n w decimal (sym (ap (λ o. is_named_number o w) number) ∙ named) in
    let word : word_for s v ≡ bare text = ap (word_for s) (digit ∙ sym one) ∙ takes in
    both_ways (is_bare_text (word_for s v) text) other (bare_one (word_for s v) text word)

pub bare_same : (s : WordSettings) (category : PluralCategory) (own text : List ℕ) → bytes_eq own text ≡ true → HasNoneBare s category text text → HasNoneBare s category own text
bare_same s category own text one none w decimal takes named same =
    none w decimal (takes ∙ ap bare ((bytes_decides own text).0 one)) named same

-- ---- under the words of a category

none_or_some : (w : Word) → None ≡ Some w → ⊥
none_or_some w e = false≢true (ap is_there e)
  where
    is_there : Option Word → Bool
    is_there None = false
    is_there (Some u) = true

pub none_without_words : (s : WordSettings) (category : PluralCategory) (text : List ℕ) → own_word s.words category ≡ None → HasNoneOf s category text
none_without_words s category text none w decimal takes same = none_or_some (word_for s w) (sym none ∙ takes.own)

pub none_of_pair : (s : WordSettings) (category : PluralCategory) (pair : Pair) (text : List ℕ) → own_word s.words category ≡ Some (around pair) → HasNoneWith s pair text → HasNoneOf s category text
none_of_pair s category pair text own none w decimal takes same =
    none w decimal (same_word (word_for s w) (around pair) (sym takes.own ∙ own)) same

pub none_of_bare : (s : WordSettings) (category : PluralCategory) (one text : List ℕ) → own_word s.words category ≡ Some (bare one) → HasNoneBare s category one text → HasNoneOf s category text
none_of_bare s category one text own none w decimal takes same =
    let word : word_for s w ≡ bare one = same_word (word_for s w) (bare one) (sym takes.own ∙ own) in
    none w decimal word (subst (λ u. IsNamedIfBare u category w) word takes.named) same

pub many_of_pair : (s : WordSettings) (category : PluralCategory) (pair : Pair) (text : List ℕ) → own_word s.words category ≡ Some (around pair) → HasManyIn s pair text → HasManyBetween s text
many_of_pair s category pair text own many = record { category = category; pair = pair; own = own; inner = many.inner; between = many.between; many = many.many }

-- ---- under those of all

pub none_of_all : (s : WordSettings) (text : List ℕ) → HasNoneOf s Zero text → HasNoneOf s One text → HasNoneOf s Two text → HasNoneOf s Few text → HasNoneOf s Many text → HasNoneOf s Other text → HasNoDecimal s text
none_of_all s text zero one two few many other v decimal same = let some : SomeTaken s v = some_taken s v in by some.category some.takes
  where
    by : (category : PluralCategory) → TakesFrom s category v → ⊥
    by Zero takes = zero v decimal takes same
    by One takes = one v decimal takes same
    by Two takes = two v decimal takes same
    by Few takes = few v decimal takes same
    by Many takes = many v decimal takes same
    by Other takes = other v decimal takes same
