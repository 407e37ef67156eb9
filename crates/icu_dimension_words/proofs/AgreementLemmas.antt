-- Where it is readable, a text with words has one decimal: two that share it agree.
use Rattle.std.proofs.Common.{◌≡◌, ℕ, Bool, true, false, not, ◌&&◌, ◌||◌, List, ◌∷◌, ◌++◌, reverse, Option, None, Some, IfSome, ◌⊎◌, inl, inr, refl, sym, ap, subst, ◌∙◌}
use Rattle.std.proofs.lemmas.Bool.{and_from, and_parts, both_ways, false≢true, not-true}
use Rattle.std.proofs.lemmas.List.{append_assoc, reverse-append}
use Rattle.std.proofs.lemmas.Str.{chars-append}
use Rattle.std.specs.Cmp.Lexicographic.{bytes_decides}
use Rattle.std.specs.Str.{IsUtf8, bytes_eq, chars}
use Rattle.fixed_decimal.specs.Number.{Number}
use Rattle.fixed_decimal.specs.SignedValue.{SignedValue}
use Rattle.fixed_decimal.specs.TextLaws.{IsDecimal}
use Rattle.icu_decimal_plain.specs.PlainText.{Tables, decimal_text}
use Rattle.icu_decimal_plurals.specs.declared.category.PluralCategory.{PluralCategory}
use Rattle.icu_decimal_plurals.specs.declared.category.PluralCategory.TheVariants.{Zero, One, Two, Few, Many, Other}
use Rattle.icu_decimal_plurals.specs.Reading.{is_same}
use Rattle.icu_decimal_reading.specs.DecimalOfText.{decimal, not_written, unreadable}
use Rattle.icu_decimal_reading.specs.Readable.{is_readable_by}
use Rattle.icu_decimal_reading.proofs.LawLemmas.{one_decimal}
use Rattle.icu_decimal_reading.proofs.PlainLemmas.{decimal_utf8}
use Rattle.icu_dimension_words.specs.ReadingSteps.{IsNamedIfBare}
use Rattle.icu_dimension_words.specs.Words.{Pair, Word, around, bare, own_word}
use Rattle.icu_dimension_words.specs.WordsLaws.{HasOneWordsReading, ReadWordsAreWrittenAgain, WordsHaveOneDecimal, WrittenWordsReadBack, digit_alone}
use Rattle.icu_dimension_words.specs.WordsReading.{AreWordTexts, IsWordText, are_apart, are_apart_where, are_told_apart, back_of, begins, ends, front_of, is_one_pair, is_words_readable_by, may_clash, of_all}
use Rattle.icu_dimension_words.specs.WordsText.{WordSettings, between, named_number, word_for, words_text, written}
use Rattle.icu_dimension_words.proofs.ClashLemmas.{StartsWith, both_go_on, first_goes_on, same_clashes, second_goes_on, text_begins, text_ends}
use Rattle.icu_dimension_words.proofs.TakenLemmas.{IsNamedDigit, SomeTaken, around_or_bare, named_digit, some_taken}
use Rattle.icu_dimension_words.proofs.WordsTextLemmas.{same_between}

-- ---- the tests

of_all_at : (test : PluralCategory → Bool) (c : PluralCategory) → of_all test ≡ true → test c ≡ true
of_all_at test c all = by c
  where
    first : (test Zero ≡ true) × ((test One && (test Two && (test Few && (test Many && test Other)))) ≡ true)
    first = and_parts (test Zero) _ all

    second : (test One ≡ true) × ((test Two && (test Few && (test Many && test Other))) ≡ true)
    second = and_parts (test One) _ first.1

    third : (test Two ≡ true) × ((test Few && (test Many && test Other)) ≡ true)
    third = and_parts (test Two) _ second.1

    fourth : (test Few ≡ true) × ((test Many && test Other) ≡ true)
    fourth = and_parts (test Few) _ third.1

    by : (c : PluralCategory) → test c ≡ true
    by Zero = first.0
    by One = second.0
    by Two = third.0
    by Few = fourth.0
    by Many = (and_parts (test Many) (test Other) fourth.1).0
    by Other = (and_parts (test Many) (test Other) fourth.1).1

pub readable_tables : (s : WordSettings) → is_words_readable_by s ≡ true → is_readable_by s.tables ≡ true
readable_tables s readable = (and_parts (is_readable_by s.tables) _ readable).0

told_apart : (s : WordSettings) (x y : PluralCategory) → is_words_readable_by s ≡ true → are_told_apart s.tables s.words x y ≡ true
told_apart s x y readable =
    of_all_at (λ d. are_told_apart s.tables s.words x d) y
    (of_all_at (λ c. of_all (λ d. are_told_apart s.tables s.words c d)) x (and_parts (is_readable_by s.tables) _ readable).1)

or_parts : (a b : Bool) → (a || b) ≡ true → (a ≡ true) ⊎ (b ≡ true)
or_parts true b e = inl refl
or_parts false b e = inr e

same_category : (x y : PluralCategory) → is_same x y ≡ true → x ≡ y
same_category Zero Zero e = refl
same_category One One e = refl
same_category Two Two e = refl
same_category Few Few e = refl
same_category Many Many e = refl
same_category Other Other e = refl
same_category Zero One e = absurd (false≢true e)
same_category Zero Two e = absurd (false≢true e)
same_category Zero Few e = absurd (false≢true e)
same_category Zero Many e = absurd (false≢true e)
same_category Zero Other e = absurd (false≢true e)
same_category One Zero e = absurd (false≢true e)
same_category One Two e = absurd (false≢true e)
same_category One Few e = absurd (false≢true e)
same_category One Many e = absurd (false≢true e)
same_category One Other e = absurd (false≢true e)
same_category Two Zero e = absurd (false≢true e)
same_category Two One e = absurd (false≢true e)
same_category Two Few e = absurd (false≢true e)
same_category Two Many e = absurd (false≢true e)
same_category Two Other e = absurd (false≢true e)
same_category Few Zero e = absurd (false≢true e)
same_category Few One e = absurd (false≢true e)
same_category Few Two e = absurd (false≢true e)
same_category Few Many e = absurd (false≢true e)
same_category Few Other e = absurd (false≢true e)
same_category Many Zero e = absurd (false≢true e)
same_category Many One e = absurd (false≢true e)
same_category Many Two e = absurd (false≢true e)
same_category Many Few e = absurd (false≢true e)
same_category Many Other e = absurd (false≢true e)
same_category Other Zero e = absurd (false≢true e)
same_category Other One e = absurd (false≢true e)
same_category Other Two e = absurd (false≢true e)
same_category Other Few e = absurd (false≢true e)
same_category Other Many e = absurd (false≢true e)

-- two categories are one, or their words are told apart
apart_by : (s : WordSettings) (x y : PluralCategory) (w u : Word) → is_words_readable_by s ≡ true → own_word s.words x ≡ Some w → own_word s.words y ≡ Some u → (x ≡ y) ⊎ (are_apart s.tables w u ≡ true)
apart_by s x y w u readable e f = split (or_parts (is_same x y) (are_apart_where s.tables (own_word s.words x) (own_word s.words y)) (told_apart s x y readable))
  where
    split : (is_same x y ≡ true) ⊎ (are_apart_where s.tables (own_word s.words x) (own_word s.words y) ≡ true) → (x ≡ y) ⊎ (are_apart s.tables w u ≡ true)
    split (inl same) = inl (same_category x y same)
    split (inr apart) =
        let same : are_apart_where s.tables (own_word s.words x) (own_word s.words y) ≡ are_apart s.tables w u = λ i. are_apart_where s.tables (e i) (f i) in inr (sym same ∙ apart)

abbrev clash_on : Tables → Word → Word → Bool
clash_on t w u = may_clash (begins t) (chars (front_of w)) (chars (front_of u)) && may_clash (ends t) (reverse (chars (back_of w))) (reverse (chars (back_of u)))

-- words that clash on both sides are one pair
one_pair : (t : Tables) (w u : Word) → are_apart t w u ≡ true → may_clash (begins t) (chars (front_of w)) (chars (front_of u)) ≡ true → may_clash (ends t) (reverse (chars (back_of w))) (reverse (chars (back_of u))) ≡ true
    → is_one_pair w u ≡ true
one_pair t w u apart front back = split (or_parts (is_one_pair w u) (not (clash_on t w u)) apart)
  where
    both : (clash_on t w u) ≡ true
    both = and_from _ _ front back

    split : (is_one_pair w u ≡ true) ⊎ (not (clash_on t w u) ≡ true) → is_one_pair w u ≡ true
    split (inl one) = one
    split (inr other) = absurd (both_ways _ (not-true _ other) both)

pub same_pair : (p q : Pair) → is_one_pair (around p) (around q) ≡ true → p ≡ q
same_pair p q one =
    let parts = and_parts (bytes_eq p.before q.before) (bytes_eq p.after q.after) one in
    let before : p.before ≡ q.before = (bytes_decides p.before q.before).0 parts.0 in
    let after : p.after ≡ q.after = (bytes_decides p.after q.after).0 parts.1 in
    λ i. record { before = before i; after = after i }

-- ---- a number between a pair, as characters

-- its characters from the front, and from behind
record Around (good last : ℕ → Bool) (front back text : List ℕ) : Type 0 where
  pub char : ℕ
  pub is_good : good char ≡ true
  pub rest : List ℕ
  pub is : chars text ≡ chars front ++ char ∷ rest
  pub final : ℕ
  pub is_last : last final ≡ true
  pub before : List ℕ
  pub turned : reverse (chars text) ≡ reverse (chars back) ++ final ∷ before

stands : (t : Tables) (pair : Pair) (v : SignedValue Number) → IsWordText (around pair) → IsUtf8 (decimal_text t v) → StartsWith (begins t) (chars (decimal_text t v)) → StartsWith (ends t) (reverse (chars (decimal_text t v)))
    → Around (begins t) (ends t) pair.before pair.after (between pair (decimal_text t v))
stands t pair v texts utf8 start end =
    let number : List ℕ = decimal_text t v in
    let inner : chars (number ++ pair.after) ≡ chars number ++ chars pair.after = chars-append number pair.after utf8 in
    let whole : chars (between pair number) ≡ chars pair.before ++ (chars number ++ chars pair.after) = chars-append pair.before (number ++ pair.after) texts.0 ∙ ap (λ cs. chars pair.before ++ cs) inner in
    let back : reverse (chars pair.before ++ (chars number ++ chars pair.after)) ≡ reverse (chars pair.after) ++ (reverse (chars number) ++ reverse (chars pair.before)) =
    reverse-append (chars pair.before) (chars number ++ chars pair.after) ∙ ap (λ cs. cs ++ reverse (chars pair.before)) (reverse-append (chars number) (chars pair.after)) ∙ append_assoc (reverse (chars pair.after)) (reverse (chars number)) (reverse (chars pair.before)) in
    record {
      char = start.first;
      is_good = start.is_good;
      rest = start.rest ++ chars pair.after;
      is = whole ∙ ap (λ cs. chars pair.before ++ (cs ++ chars pair.after)) start.same;
      final = end.first;
      is_last = end.is_good;
      before = end.rest ++ reverse (chars pair.before);
      turned = ap reverse whole ∙ back ∙ ap (λ cs. reverse (chars pair.after) ++ (cs ++ reverse (chars pair.before))) end.same;
    }

pairs_clash : (t : Tables) (p q : Pair) (a b : List ℕ) → Around (begins t) (ends t) p.before p.after a → Around (begins t) (ends t) q.before q.after b → are_apart t (around p) (around q) ≡ true → a ≡ b → p ≡ q
pairs_clash t p q a b one other apart same =
    same_pair p q (one_pair t (around p) (around q) apart
    (both_go_on (begins t) (chars p.before) (chars q.before) one.rest other.rest one.char other.char one.is_good other.is_good (sym one.is ∙ ap chars same ∙ other.is))
    (both_go_on (ends t) (reverse (chars p.after)) (reverse (chars q.after)) one.before other.before one.final other.final one.is_last other.is_last (sym one.turned ∙ ap (λ text. reverse (chars text)) same ∙ other.turned)))

first_clashes : (t : Tables) (p : Pair) (a text : List ℕ) → Around (begins t) (ends t) p.before p.after a → are_apart t (around p) (bare text) ≡ true → a ≡ text → ⊥
first_clashes t p a text one apart same =
    false≢true (one_pair t (around p) (bare text) apart
    (first_goes_on (begins t) (chars p.before) (chars text) one.rest one.char one.is_good (sym one.is ∙ ap chars same))
    (first_goes_on (ends t) (reverse (chars p.after)) (reverse (chars text)) one.before one.final one.is_last (sym one.turned ∙ ap (λ l. reverse (chars l)) same)))

second_clashes : (t : Tables) (q : Pair) (text b : List ℕ) → Around (begins t) (ends t) q.before q.after b → are_apart t (bare text) (around q) ≡ true → text ≡ b → ⊥
second_clashes t q text b other apart same =
    false≢true (one_pair t (bare text) (around q) apart
    (second_goes_on (begins t) (chars text) (chars q.before) other.rest other.char other.is_good (ap chars same ∙ other.is))
    (second_goes_on (ends t) (reverse (chars text)) (reverse (chars q.after)) other.before other.final other.is_last (ap (λ l. reverse (chars l)) same ∙ other.turned)))

bares_clash : (t : Tables) (one other : List ℕ) → are_apart t (bare one) (bare other) ≡ true → one ≡ other → ⊥
bares_clash t one other apart same =
    false≢true (one_pair t (bare one) (bare other) apart
    (subst (λ l. may_clash (begins t) (chars one) (chars l) ≡ true) same (same_clashes (begins t) (chars one)))
    (subst (λ l. may_clash (ends t) (reverse (chars one)) (reverse (chars l)) ≡ true) same (same_clashes (ends t) (reverse (chars one)))))

-- ---- two decimals with one text

word_in : Word → Option Word → Word
word_in w None = w
word_in w (Some u) = u

pub same_word : (w u : Word) → Some w ≡ Some u → w ≡ u
unfolding word_in
same_word w u e = ap (word_in w) e

pair_in : Pair → Word → Pair
pair_in p (around q) = q
pair_in p (bare text) = p

same_around : (p q : Pair) → around p ≡ around q → p ≡ q
unfolding pair_in
same_around p q e = ap (pair_in p) e

number_in : ℕ → Option ℕ → ℕ
number_in d None = d
number_in d (Some n) = n

same_some : (n m : ℕ) → Some n ≡ Some m → n ≡ m
unfolding number_in
same_some n m e = ap (number_in n) e

same_digits : (x y : PluralCategory) (a b : SignedValue Number) → x ≡ y → IsNamedDigit x a → IsNamedDigit y b → a ≡ b
same_digits x y a b same one other =
    let number : one.0 ≡ other.0 = same_some one.0 other.0 (sym one.1.0 ∙ ap named_number same ∙ other.1.0) in
    one.1.1 ∙ ap digit_alone number ∙ sym other.1.1

module _ (s : WordSettings) (texts : AreWordTexts s) (readable : is_words_readable_by s ≡ true) where
  stands_in : (category : PluralCategory) (pair : Pair) (v : SignedValue Number) → own_word s.words category ≡ Some (around pair) → IsDecimal v
      → Around (begins s.tables) (ends s.tables) pair.before pair.after (between pair (decimal_text s.tables v))
  stands_in category pair v own is =
      let tables = readable_tables s readable in
      stands s.tables pair v (subst (λ o. IfSome o IsWordText) own (texts.words category)) (decimal_utf8 s.tables v texts.tables is) (text_begins s.tables v texts.tables tables is) (text_ends s.tables v texts.tables tables is)

  agree_pairs : (a b : SignedValue Number) (x y : PluralCategory) (p q : Pair) → IsDecimal a → IsDecimal b → own_word s.words x ≡ Some (around p) → own_word s.words y ≡ Some (around q)
      → between p (decimal_text s.tables a) ≡ between q (decimal_text s.tables b) → (x ≡ y) ⊎ (are_apart s.tables (around p) (around q) ≡ true) → p ≡ q
  agree_pairs a b x y p q one other e f same (inl category) = same_around p q (same_word (around p) (around q) (sym e ∙ ap (own_word s.words) category ∙ f))
  agree_pairs a b x y p q one other e f same (inr apart) =
      pairs_clash s.tables p q (between p (decimal_text s.tables a)) (between q (decimal_text s.tables b)) (stands_in x p a e one) (stands_in y q b f other) apart same

  agree_first : (a : SignedValue Number) (x y : PluralCategory) (p : Pair) (text : List ℕ) → IsDecimal a → own_word s.words x ≡ Some (around p) → own_word s.words y ≡ Some (bare text)
      → between p (decimal_text s.tables a) ≡ text → (x ≡ y) ⊎ (are_apart s.tables (around p) (bare text) ≡ true) → ⊥
  agree_first a x y p text one e f same (inl category) = around_or_bare p text (same_word (around p) (bare text) (sym e ∙ ap (own_word s.words) category ∙ f))
  agree_first a x y p text one e f same (inr apart) = first_clashes s.tables p (between p (decimal_text s.tables a)) text (stands_in x p a e one) apart same

  agree_second : (b : SignedValue Number) (x y : PluralCategory) (q : Pair) (text : List ℕ) → IsDecimal b → own_word s.words x ≡ Some (bare text) → own_word s.words y ≡ Some (around q)
      → text ≡ between q (decimal_text s.tables b) → (x ≡ y) ⊎ (are_apart s.tables (bare text) (around q) ≡ true) → ⊥
  agree_second b x y q text other e f same (inl category) = around_or_bare q text (same_word (around q) (bare text) (sym f ∙ ap (own_word s.words) (sym category) ∙ e))
  agree_second b x y q text other e f same (inr apart) = second_clashes s.tables q text (between q (decimal_text s.tables b)) (stands_in y q b f other) apart same

  agree_bare : (a b : SignedValue Number) (x y : PluralCategory) (one other : List ℕ) → IsNamedDigit x a → IsNamedDigit y b → one ≡ other → (x ≡ y) ⊎ (are_apart s.tables (bare one) (bare other) ≡ true) → a ≡ b
  agree_bare a b x y one other n m same (inl category) = same_digits x y a b category n m
  agree_bare a b x y one other n m same (inr apart) = absurd (bares_clash s.tables one other apart same)

  agree : (a b : SignedValue Number) (x y : PluralCategory) (w u : Word) → IsDecimal a → IsDecimal b → own_word s.words x ≡ Some w → own_word s.words y ≡ Some u → IsNamedIfBare w x a → IsNamedIfBare u y b
      → written w (decimal_text s.tables a) ≡ written u (decimal_text s.tables b) → a ≡ b
  agree a b x y (around p) (around q) one other e f n m same =
      let pair : p ≡ q = agree_pairs a b x y p q one other e f same (apart_by s x y (around p) (around q) readable e f) in
      let moved : between p (decimal_text s.tables a) ≡ between p (decimal_text s.tables b) = same ∙ ap (λ r. between r (decimal_text s.tables b)) (sym pair) in
      one_decimal s.tables a b texts.tables (readable_tables s readable) one other (same_between p (decimal_text s.tables a) (decimal_text s.tables b) moved)
  agree a b x y (around p) (bare text) one other e f n m same = absurd (agree_first a x y p text one e f same (apart_by s x y (around p) (bare text) readable e f))
  agree a b x y (bare text) (around q) one other e f n m same = absurd (agree_second b x y q text other e f same (apart_by s x y (bare text) (around q) readable e f))
  agree a b x y (bare text) (bare more) one other e f n m same =
      agree_bare a b x y text more (named_digit x a one n) (named_digit y b other m) same (apart_by s x y (bare text) (bare more) readable e f)

pub words_have_one_decimal : WordsHaveOneDecimal
words_have_one_decimal s a b texts readable one other same =
    let first : SomeTaken s a = some_taken s a in
    let second : SomeTaken s b = some_taken s b in
    agree s texts readable a b first.category second.category (word_for s a) (word_for s b) one other first.takes.own second.takes.own first.takes.named second.takes.named same

-- ---- one reading

pub one_words_reading : HasOneWordsReading
one_words_reading s text unreadable unreadable texts p q = refl
one_words_reading s text unreadable not_written texts p q = absurd (both_ways (is_words_readable_by s) p q.0)
one_words_reading s text unreadable (decimal w) texts p q = absurd (both_ways (is_words_readable_by s) p q.0)
one_words_reading s text not_written unreadable texts p q = absurd (both_ways (is_words_readable_by s) q p.0)
one_words_reading s text not_written not_written texts p q = refl
one_words_reading s text not_written (decimal w) texts p q = absurd (p.1 w q.1.decimal q.1.written)
one_words_reading s text (decimal v) unreadable texts p q = absurd (both_ways (is_words_readable_by s) q p.0)
one_words_reading s text (decimal v) not_written texts p q = absurd (q.1 v p.1.decimal p.1.written)
one_words_reading s text (decimal v) (decimal w) texts p q = ap decimal (words_have_one_decimal s v w texts p.0 p.1.decimal q.1.decimal (p.1.written ∙ sym q.1.written))

pub written_words_read_back : WrittenWordsReadBack
written_words_read_back s v reading texts readable is read =
    one_words_reading s (words_text s v) reading (decimal v) texts read (readable, record { decimal = is; written = refl })

pub read_words_are_written_again : ReadWordsAreWrittenAgain
read_words_are_written_again s text v read = read.1.written
