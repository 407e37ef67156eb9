-- The exact reading that the function answers is the one that the relation of `icu_dimension_words` names: `specs/WordReadings.antt`.
use Rattle.std.proofs.Common.{◌≡◌, ◌⊎◌, inl, inr, ℕ, ◌*◌, ◌^◌, ◌+◌, ◌<◌, ◌%◌, Bool, true, false, cond, List, Option, None, Some, Result, Ok, Err, IfOk, IsErrOf, refl, sym, ap, subst, ◌∙◌, arith}
use Rattle.std.proofs.Math.Nat.{mul-lt-mul_of_pos_right, mul-mod_left, mul_comm}
use Rattle.std.proofs.lemmas.Bool.{both_ways, false≢true}
use Rattle.std.specs.Cmp.Lexicographic.{bytes_decides}
use Rattle.std.specs.Str.{bytes_eq}
use Rattle.fixed_decimal.specs.Number.{Number}
use Rattle.fixed_decimal.specs.SignedValue.{SignedValue}
use Rattle.fixed_decimal.specs.TextLaws.{IsDecimal}
use Rattle.fixed_decimal.proofs.TenLemmas.{tens_next, tens_positive}
use Rattle.icu_decimal_plain.specs.PlainText.{decimal_text}
use Rattle.icu_decimal_plurals.specs.declared.category.PluralCategory.{PluralCategory}
use Rattle.icu_decimal_plurals.specs.declared.category.PluralCategory.TheVariants.{Zero, One, Two, Few, Many, Other}
use Rattle.icu_decimal_reading.specs.DecimalOfText.{IsAnswered, PlainReading, decimal, not_written, unreadable}
use Rattle.icu_decimal_reading.specs.PlainReading.{plain_reading}
use Rattle.icu_decimal_reading.specs.ReadingLaws.{AreTables}
use Rattle.icu_decimal_reading.specs.declared.error.ReadError.{ReadError}
use Rattle.icu_decimal_reading.specs.declared.error.ReadError.TheVariants.{Unreadable, NotWritten, Memory}
use Rattle.icu_decimal_reading.proofs.LawLemmas.{plain_found, reads_back}
use Rattle.icu_decimal_lenient.specs.LenientReading.{or_else}
use Rattle.icu_decimal_lenient.proofs.LenientLemmas.{else_readable, from_else}
use Rattle.icu_dimension_words.specs.ReadingSteps.{IsNamedIfBare, TakesFrom}
use Rattle.icu_dimension_words.specs.Words.{Word, around, bare, own_word}
use Rattle.icu_dimension_words.specs.WordsLaws.{digit_alone}
use Rattle.icu_dimension_words.specs.WordsReading.{AreWordTexts, HasNoDecimal, IsWordsReading, IsWordsText, is_words_readable_by}
use Rattle.icu_dimension_words.specs.WordsText.{WordSettings, between, named_number, word_for, words_text, written}
use Rattle.icu_dimension_words.proofs.AgreementLemmas.{readable_tables, words_have_one_decimal}
use Rattle.icu_dimension_words.proofs.TakenLemmas.{SomeTaken, named_digit, some_taken}
use Rattle.icu_dimension_words.specs.LenientWordLaws.{HasOneExactReading}
use Rattle.icu_dimension_words.specs.WordReadings.{any_reading, if_written, inner_of, number_of, under_category, under_word, words_reading}
use Rattle.icu_dimension_words.proofs.WordSteps.{inner_there}

no_missing : (v : SignedValue Number) → not_written ≡ decimal v → ⊥
no_missing v e = cc

no_unreadable : (v : SignedValue Number) → unreadable ≡ decimal v → ⊥
no_unreadable v e = cc

missing_apart : not_written ≡ unreadable → ⊥
missing_apart e = cc

same_decimal : (v w : SignedValue Number) → decimal v ≡ decimal w → v ≡ w
same_decimal v w e = cc

-- ---- a digit alone is a decimal

ten_times : (b n : ℕ) → n < 10 → n * 10 ^ b < 10 ^ (b + 1)
ten_times b n few =
    let below : n * 10 ^ b < 10 * 10 ^ b = mul-lt-mul_of_pos_right few (tens_positive b) in
    let turned : 10 * 10 ^ b ≡ 10 ^ b * 10 = mul_comm 10 (10 ^ b) in
    let next : 10 ^ (b + 1) ≡ 10 ^ b * 10 = tens_next b in
    omega (arith, below, turned, next)

pub digit_is_decimal : (n : ℕ) → n < 10 → IsDecimal (digit_alone n)
digit_is_decimal n few = record {
  low = omega arith;
  ones = omega arith;
  high = omega arith;
  whole = mul-mod_left n (10 ^ 32768);
  below = ten_times 32768 n few;
}

same_digit : (n m : ℕ) → Some n ≡ Some m → n ≡ m
same_digit n m e = cc

few_named : (category : PluralCategory) (n : ℕ) → named_number category ≡ Some n → n < 10
few_named Zero n e = subst (λ m. m < 10) (same_digit 0 n e) (omega arith)
few_named One n e = subst (λ m. m < 10) (same_digit 1 n e) (omega arith)
few_named Two n e = subst (λ m. m < 10) (same_digit 2 n e) (omega arith)
few_named Few n e = absurd (cc)
few_named Many n e = absurd (cc)
few_named Other n e = absurd (cc)

-- ---- what is read under words is written so

if_is : (s : WordSettings) (text : List ℕ) (r : PlainReading) (v : SignedValue Number) → ((u : SignedValue Number) → r ≡ decimal u → IsDecimal u) → if_written s text r ≡ decimal v → IsWordsText s text v
if_is s text unreadable v is e = absurd (no_missing v e)
if_is s text not_written v is e = absurd (no_missing v e)
if_is s text (decimal u) v is e = by (bytes_eq (words_text s u) text) refl e
  where
    by : (b : Bool) → bytes_eq (words_text s u) text ≡ b → cond b (decimal u) not_written ≡ decimal v → IsWordsText s text v
    by true same e = subst (IsWordsText s text) (same_decimal u v e) (record { decimal = is u refl; written = (bytes_decides (words_text s u) text).0 same })
    by false other e = absurd (no_missing v e)

number_is : (s : WordSettings) (o : Option (List ℕ)) (u : SignedValue Number) → AreTables s.tables → number_of s o ≡ decimal u → IsDecimal u
number_is s None u tables e = absurd (no_missing u e)
number_is s (Some inner) u tables e = (plain_found s.tables inner u tables e).decimal

under_is : (s : WordSettings) (text : List ℕ) (category : PluralCategory) (v : SignedValue Number) → AreTables s.tables → under_category s text category ≡ decimal v → IsWordsText s text v
under_is s text category v tables e = by (named_number category) (own_word s.words category) refl e
  where
    by : (number : Option ℕ) (own : Option Word) → named_number category ≡ number → under_word s text number own ≡ decimal v → IsWordsText s text v
    by number None is e = absurd (no_missing v e)
    by number (Some (around pair)) is e = if_is s text (number_of s (inner_of pair text)) v (λ u at. number_is s (inner_of pair text) u tables at) e
    by None (Some (bare own)) is e = absurd (no_missing v e)
    by (Some n) (Some (bare own)) is e =
        if_is s text (decimal (digit_alone n)) v (λ u at. subst IsDecimal (same_decimal (digit_alone n) u at) (digit_is_decimal n (few_named category n is))) e

-- ---- what is written under words is read

if_there : (s : WordSettings) (text : List ℕ) (r : PlainReading) (v : SignedValue Number) → r ≡ decimal v → words_text s v ≡ text → if_written s text r ≡ decimal v
if_there s text r v is same =
    ap (if_written s text) is ∙ ap (λ b. cond b (decimal v) not_written) ((bytes_decides (words_text s v) text).1 same)

under_there : (s : WordSettings) (text : List ℕ) (category : PluralCategory) (v : SignedValue Number) → AreWordTexts s → is_words_readable_by s ≡ true → IsWordsText s text v → TakesFrom s category v
    → under_category s text category ≡ decimal v
under_there s text category v texts readable is takes = by (word_for s v) refl takes.named
  where
    own : (w : Word) → word_for s v ≡ w → under_category s text category ≡ under_word s text (named_number category) (Some w)
    own w same = ap (under_word s text (named_number category)) (takes.own ∙ ap Some same)

    by : (w : Word) → word_for s v ≡ w → IsNamedIfBare (word_for s v) category v → under_category s text category ≡ decimal v
    by (around pair) same named =
        let number : List ℕ = decimal_text s.tables v in
        let whole : text ≡ between pair number = sym is.written ∙ ap (λ w. written w number) same in
        let inner : inner_of pair text ≡ Some number = ap (inner_of pair) whole ∙ inner_there pair number in
        let read : number_of s (inner_of pair text) ≡ decimal v = ap (number_of s) inner ∙ reads_back s.tables v texts.tables (readable_tables s readable) is.decimal in
        own (around pair) same ∙ if_there s text (number_of s (inner_of pair text)) v read is.written
    by (bare other) same named =
        let digit = named_digit category v is.decimal (subst (λ w. IsNamedIfBare w category v) same named) in
        own (bare other) same ∙ ap (λ o. under_word s text o (Some (bare other))) digit.1.0
        ∙ if_there s text (decimal (digit_alone digit.0)) v (ap decimal (sym digit.1.1)) is.written

-- ---- no text is unreadable under words

if_never : (s : WordSettings) (text : List ℕ) (r : PlainReading) → if_written s text r ≡ unreadable → ⊥
if_never s text unreadable e = missing_apart e
if_never s text not_written e = missing_apart e
if_never s text (decimal u) e = by (bytes_eq (words_text s u) text) e
  where
    by : (b : Bool) → cond b (decimal u) not_written ≡ unreadable → ⊥
    by true e = no_unreadable u (sym e)
    by false e = missing_apart e

under_never : (s : WordSettings) (text : List ℕ) (category : PluralCategory) → under_category s text category ≡ unreadable → ⊥
under_never s text category e = by (named_number category) (own_word s.words category) e
  where
    by : (number : Option ℕ) (own : Option Word) → under_word s text number own ≡ unreadable → ⊥
    by number None e = missing_apart e
    by number (Some (around pair)) e = if_never s text (number_of s (inner_of pair text)) e
    by None (Some (bare own)) e = missing_apart e
    by (Some n) (Some (bare own)) e = if_never s text (decimal (digit_alone n)) e

-- ---- one after another

here : (v : SignedValue Number) (one other : PlainReading) → one ≡ decimal v → or_else one other ≡ decimal v
here v one other is = ap (λ r. or_else r other) is

later : (v : SignedValue Number) (one other : PlainReading) → (one ≡ not_written) ⊎ (one ≡ decimal v) → other ≡ decimal v → or_else one other ≡ decimal v
later v one other (inl none) is = ap (λ r. or_else r other) none ∙ is
later v one other (inr same) is = here v one other same

neither : (one other : PlainReading) → one ≡ not_written → other ≡ not_written → or_else one other ≡ not_written
neither one other none missing = ap (λ r. or_else r other) none ∙ missing

module _ (s : WordSettings) (text : List ℕ) (texts : AreWordTexts s) where
  abbrev under : PluralCategory → PlainReading
  under category = under_category s text category

  any_is : (v : SignedValue Number) → any_reading s text ≡ decimal v → IsWordsText s text v
  any_is v e = zero (from_else v (under Zero) (or_else (under One) (or_else (under Two) (or_else (under Few) (or_else (under Many) (under Other))))) e)
    where
      many : (under Many ≡ decimal v) ⊎ (under Other ≡ decimal v) → IsWordsText s text v
      many (inl is) = under_is s text Many v texts.tables is
      many (inr is) = under_is s text Other v texts.tables is

      few : (under Few ≡ decimal v) ⊎ (or_else (under Many) (under Other) ≡ decimal v) → IsWordsText s text v
      few (inl is) = under_is s text Few v texts.tables is
      few (inr is) = many (from_else v (under Many) (under Other) is)

      two : (under Two ≡ decimal v) ⊎ (or_else (under Few) (or_else (under Many) (under Other)) ≡ decimal v) → IsWordsText s text v
      two (inl is) = under_is s text Two v texts.tables is
      two (inr is) = few (from_else v (under Few) (or_else (under Many) (under Other)) is)

      one : (under One ≡ decimal v) ⊎ (or_else (under Two) (or_else (under Few) (or_else (under Many) (under Other))) ≡ decimal v) → IsWordsText s text v
      one (inl is) = under_is s text One v texts.tables is
      one (inr is) = two (from_else v (under Two) (or_else (under Few) (or_else (under Many) (under Other))) is)

      zero : (under Zero ≡ decimal v) ⊎ (or_else (under One) (or_else (under Two) (or_else (under Few) (or_else (under Many) (under Other)))) ≡ decimal v) → IsWordsText s text v
      zero (inl is) = under_is s text Zero v texts.tables is
      zero (inr is) = one (from_else v (under One) (or_else (under Two) (or_else (under Few) (or_else (under Many) (under Other)))) is)

  any_never : any_reading s text ≡ unreadable → ⊥
  any_never =
      else_readable (under Zero) _ (under_never s text Zero)
      (else_readable (under One) _ (under_never s text One)
      (else_readable (under Two) _ (under_never s text Two)
      (else_readable (under Few) _ (under_never s text Few) (else_readable (under Many) (under Other) (under_never s text Many) (under_never s text Other)))))

  any_none : HasNoDecimal s text → any_reading s text ≡ not_written
  any_none none =
      neither (under Zero) _ (at Zero)
      (neither (under One) _ (at One) (neither (under Two) _ (at Two) (neither (under Few) _ (at Few) (neither (under Many) (under Other) (at Many) (at Other)))))
    where
      at : (category : PluralCategory) → under category ≡ not_written
      at category = by (under category) refl
        where
          by : (r : PlainReading) → under category ≡ r → under category ≡ not_written
          by unreadable is = absurd (under_never s text category is)
          by not_written is = is
          by (decimal v) is = let found = under_is s text category v texts.tables is in absurd (none v found.decimal found.written)

  any_there : (v : SignedValue Number) → is_words_readable_by s ≡ true → IsWordsText s text v → any_reading s text ≡ decimal v
  any_there v readable is = at taken.category (under_there s text taken.category v texts readable is taken.takes)
    where
      taken : SomeTaken s v
      taken = some_taken s v

      either : (category : PluralCategory) → (under category ≡ not_written) ⊎ (under category ≡ decimal v)
      either category = by (under category) refl
        where
          by : (r : PlainReading) → under category ≡ r → (under category ≡ not_written) ⊎ (under category ≡ decimal v)
          by unreadable at = absurd (under_never s text category at)
          by not_written at = inl at
          by (decimal w) at =
              let found = under_is s text category w texts.tables at in
              inr (at ∙ ap decimal (words_have_one_decimal s w v texts readable found.decimal is.decimal (found.written ∙ sym is.written)))

      at : (category : PluralCategory) → under category ≡ decimal v → any_reading s text ≡ decimal v
      at Zero e = here v (under Zero) _ e
      at One e = later v (under Zero) _ (either Zero) (here v (under One) _ e)
      at Two e = later v (under Zero) _ (either Zero) (later v (under One) _ (either One) (here v (under Two) _ e))
      at Few e = later v (under Zero) _ (either Zero) (later v (under One) _ (either One) (later v (under Two) _ (either Two) (here v (under Few) _ e)))
      at Many e =
          later v (under Zero) _ (either Zero)
          (later v (under One) _ (either One) (later v (under Two) _ (either Two) (later v (under Few) _ (either Few) (here v (under Many) (under Other) e))))
      at Other e =
          later v (under Zero) _ (either Zero)
          (later v (under One) _ (either One) (later v (under Two) _ (either Two) (later v (under Few) _ (either Few) (later v (under Many) (under Other) (either Many) e))))

-- ---- the function and the relation

read_by : (s : WordSettings) (text : List ℕ) (b : Bool) → is_words_readable_by s ≡ b → words_reading s text ≡ cond b (any_reading s text) unreadable
read_by s text b is = ap (λ b. cond b (any_reading s text) unreadable) is

function_is : (s : WordSettings) (text : List ℕ) (reading : PlainReading) → AreWordTexts s → IsWordsReading s text reading → reading ≡ words_reading s text
function_is s text unreadable texts broken = sym (read_by s text false broken)
function_is s text not_written texts is = sym (read_by s text true is.0 ∙ any_none s text texts is.1)
function_is s text (decimal v) texts is = sym (read_by s text true is.0 ∙ any_there s text texts v is.0 is.1)

relation_is : (s : WordSettings) (text : List ℕ) → AreWordTexts s → IsWordsReading s text (words_reading s text)
relation_is s text texts = at (is_words_readable_by s) refl
  where
    none : is_words_readable_by s ≡ true → any_reading s text ≡ not_written → HasNoDecimal s text
    none readable missing v is same = no_missing v (sym missing ∙ any_there s text texts v readable (record { decimal = is; written = same }))

    by : (r : PlainReading) → is_words_readable_by s ≡ true → any_reading s text ≡ r → IsWordsReading s text r
    by unreadable readable is = absurd (any_never s text texts is)
    by not_written readable is = (readable, none readable is)
    by (decimal v) readable is = (readable, any_is s text texts v is)

    at : (b : Bool) → is_words_readable_by s ≡ b → IsWordsReading s text (cond b (any_reading s text) unreadable)
    at true readable = by (any_reading s text) readable refl
    at false broken = broken

pub one_exact : HasOneExactReading
one_exact s text reading texts = (
  (λ is. function_is s text reading texts is),
  (λ same. subst (IsWordsReading s text) (sym same) (relation_is s text texts)),
)

-- what is read is written so
pub exact_found : (s : WordSettings) (text : List ℕ) (v : SignedValue Number) → AreWordTexts s → words_reading s text ≡ decimal v → IsWordsText s text v
exact_found s text v texts is = ((one_exact s text (decimal v) texts).1 (sym is)).1

-- what no decimal is written as is not read
pub exact_missing : (s : WordSettings) (text : List ℕ) → AreWordTexts s → is_words_readable_by s ≡ true → HasNoDecimal s text → words_reading s text ≡ not_written
exact_missing s text texts readable none = sym ((one_exact s text not_written texts).0 (readable, none))

pub exact_none : (s : WordSettings) (text : List ℕ) → AreWordTexts s → words_reading s text ≡ not_written → HasNoDecimal s text
exact_none s text texts is = ((one_exact s text not_written texts).1 (sym is)).1

-- readable words are not refused
pub exact_never : (s : WordSettings) (text : List ℕ) → AreWordTexts s → is_words_readable_by s ≡ true → words_reading s text ≡ unreadable → ⊥
exact_never s text texts readable is = both_ways (is_words_readable_by s) ((one_exact s text unreadable texts).1 (sym is)) readable

-- ---- a call that reads

pub answered : (s : WordSettings) (text : List ℕ) (result : Result (SignedValue Number) ReadError) → AreWordTexts s → is_words_readable_by s ≡ true
    → (IsErrOf result Unreadable → ⊥) → (IsErrOf result NotWritten → HasNoDecimal s text) → IfOk result (λ v. IsWordsText s text v) → IsAnswered result (words_reading s text)
answered s text (Ok v) texts readable never missing is = sym ((one_exact s text (decimal v) texts).0 (readable, is))
answered s text (Err Unreadable) texts readable never missing is = absurd (never refl)
answered s text (Err NotWritten) texts readable never missing is = exact_missing s text texts readable (missing refl)
answered s text (Err Memory) texts readable never missing is = tt
