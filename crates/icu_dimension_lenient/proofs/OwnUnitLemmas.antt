-- A text is the formatter's own exactly where what is between its affixes is a number's own.
use Rattle.std.proofs.Common.{◌≡◌, ℕ, Bool, true, false, ◌||◌, List, ◌++◌, None, Some, refl, sym, ap, ◌∙◌}
use Rattle.std.proofs.lemmas.Bool.{or_left, or_right}
use Rattle.std.proofs.lemmas.List.{append_cancel_left, append_cancel_right}
use Rattle.std.specs.Cmp.Lexicographic.{bytes_decides}
use Rattle.std.specs.Str.{bytes_eq}
use Rattle.fixed_decimal.specs.Number.{Number}
use Rattle.fixed_decimal.specs.SignedValue.{SignedValue}
use Rattle.icu_decimal_symbols.specs.declared.options.GroupingStrategy.{GroupingStrategy}
use Rattle.icu_decimal_symbols.specs.declared.options.GroupingStrategy.TheVariants.{Auto, Never, Always, Min2, OnAligned}
use Rattle.icu_decimal_plain.specs.PlainText.{Tables, decimal_text, unsigned_text}
use Rattle.icu_decimal_reading.specs.DecimalOfText.{decimal}
use Rattle.icu_decimal_reading.specs.PlainReading.{is_text_of, plain_reading}
use Rattle.icu_decimal_reading.proofs.LawLemmas.{written_again}
use Rattle.icu_decimal_lenient.specs.LenientReading.{is_own_text, under}
use Rattle.icu_dimension_affixes.specs.UnitPatterns.{AffixPair}
use Rattle.icu_dimension_affixes.specs.UnitReading.{ReaderTexts, pair_for, text_by}
use Rattle.icu_dimension_affixes.specs.UnitText.{text_between}
use Rattle.icu_dimension_affixes.proofs.ReaderLemmas.{plain_unsigned}
use Rattle.icu_dimension_lenient.specs.LenientUnits.{back_of_some, between}
use Rattle.icu_dimension_lenient.specs.OwnUnitTexts.{is_own_unit_text, is_unit_text_of, reader_under}
use Rattle.icu_dimension_lenient.specs.TypedUnits.{unsigned}
use Rattle.icu_dimension_lenient.proofs.EndLemmas.{back_some, front_some}
use Rattle.icu_dimension_lenient.proofs.TypedUnitLemmas.{between_again}

-- two tests that hold together
same_tests : (a b : Bool) → (a ≡ true → b ≡ true) → (b ≡ true → a ≡ true) → a ≡ b
same_tests true b there back = sym (there refl)
same_tests false true there back = back refl
same_tests false false there back = refl

-- what is between affixes is found
pub between_some : (pair : AffixPair) (inner : List ℕ) → between pair (text_between pair inner) ≡ Some inner
between_some pair inner = ap (back_of_some pair.after) (front_some pair.before (inner ++ pair.after)) ∙ back_some pair.after inner

pub inner_same : (pair : AffixPair) (one other : List ℕ) → text_between pair one ≡ text_between pair other → one ≡ other
inner_same pair one other same = append_cancel_right one other pair.after (append_cancel_left pair.before (one ++ pair.after) (other ++ pair.after) same)

none_some : (inner : List ℕ) → None ≡ Some inner → ⊥
none_some inner e = cc

pub own_inner : (r : ReaderTexts) (text inner : List ℕ) (v : SignedValue Number) (strategy : GroupingStrategy) → Some inner ≡ between (pair_for r.pairs v.sign) text
    → is_unit_text_of (reader_under strategy r) text v ≡ is_text_of (under strategy r.tables) inner (unsigned v)
own_inner r text inner v strategy is =
    let pair : AffixPair = pair_for r.pairs v.sign in
    let number : List ℕ = unsigned_text (under strategy r.tables) v.absolute in
    let around : text_between pair inner ≡ text = between_again pair text inner (sym is) in
    let plain : decimal_text (under strategy r.tables) (unsigned v) ≡ number = plain_unsigned (under strategy r.tables) v.absolute in
    same_tests (bytes_eq (text_between pair number) text) (bytes_eq (decimal_text (under strategy r.tables) (unsigned v)) inner)
    (λ own. (bytes_decides (decimal_text (under strategy r.tables) (unsigned v)) inner).1 (plain ∙ inner_same pair number inner ((bytes_decides (text_between pair number) text).0 own ∙ sym around)))
    (λ own. (bytes_decides (text_between pair number) text).1 (ap (text_between pair) (sym plain ∙ (bytes_decides (decimal_text (under strategy r.tables) (unsigned v)) inner).0 own) ∙ around))

pub own_nothing : (r : ReaderTexts) (text : List ℕ) (v : SignedValue Number) (strategy : GroupingStrategy) → None ≡ between (pair_for r.pairs v.sign) text
    → is_unit_text_of (reader_under strategy r) text v ≡ false
own_nothing r text v strategy none = by (is_unit_text_of (reader_under strategy r) text v) refl
  where
    by : (b : Bool) → is_unit_text_of (reader_under strategy r) text v ≡ b → b ≡ false
    by false is = refl
    by true is =
        absurd (none_some (unsigned_text (under strategy r.tables) v.absolute)
        (none ∙ ap (between (pair_for r.pairs v.sign)) (sym ((bytes_decides (text_by (reader_under strategy r) v) text).0 is)) ∙ between_some (pair_for r.pairs v.sign) (unsigned_text (under strategy r.tables) v.absolute)))

-- a text of two groupings, and of three
abbrev by_two : ReaderTexts → List ℕ → SignedValue Number → Bool
by_two r text v = is_unit_text_of (reader_under Min2 r) text v || is_unit_text_of (reader_under OnAligned r) text v

abbrev by_three : ReaderTexts → List ℕ → SignedValue Number → Bool
by_three r text v = is_unit_text_of (reader_under Always r) text v || by_two r text v

-- under any grouping
pub own_between : (r : ReaderTexts) (text inner : List ℕ) (v : SignedValue Number) → Some inner ≡ between (pair_for r.pairs v.sign) text
    → is_own_text r.tables inner (unsigned v) ≡ is_own_unit_text r text v
own_between r text inner v is =
    sym (ap (λ b. b || by_three r text v) (own_inner r text inner v Never is)
    ∙ ap (λ b. is_text_of (under Never r.tables) inner (unsigned v) || (b || by_two r text v)) (own_inner r text inner v Always is)
    ∙ ap (λ b. is_text_of (under Never r.tables) inner (unsigned v) || (is_text_of (under Always r.tables) inner (unsigned v) || (b || is_unit_text_of (reader_under OnAligned r) text v))) (own_inner r text inner v Min2 is)
    ∙ ap (λ b. is_text_of (under Never r.tables) inner (unsigned v) || (is_text_of (under Always r.tables) inner (unsigned v) || (is_text_of (under Min2 r.tables) inner (unsigned v) || b))) (own_inner r text inner v OnAligned is))

pub own_without : (r : ReaderTexts) (text : List ℕ) (v : SignedValue Number) → None ≡ between (pair_for r.pairs v.sign) text → is_own_unit_text r text v ≡ false
own_without r text v none =
    ap (λ b. b || by_three r text v) (own_nothing r text v Never none)
    ∙ ap (λ b. b || by_two r text v) (own_nothing r text v Always none)
    ∙ ap (λ b. b || is_unit_text_of (reader_under OnAligned r) text v) (own_nothing r text v Min2 none)
    ∙ own_nothing r text v OnAligned none

-- ---- what is written

is_written : (r : ReaderTexts) (text : List ℕ) (v : SignedValue Number) → text_by r v ≡ text → is_unit_text_of r text v ≡ true
is_written r text v written = (bytes_decides (text_by r v) text).1 written

of_three : (r : ReaderTexts) (text : List ℕ) (v : SignedValue Number) → by_three r text v ≡ true → is_own_unit_text r text v ≡ true
of_three r text v is = or_right (is_unit_text_of (reader_under Never r) text v) (by_three r text v) is

of_two : (r : ReaderTexts) (text : List ℕ) (v : SignedValue Number) → by_two r text v ≡ true → is_own_unit_text r text v ≡ true
of_two r text v is = of_three r text v (or_right (is_unit_text_of (reader_under Always r) text v) (by_two r text v) is)

as_always : (r : ReaderTexts) (text : List ℕ) (v : SignedValue Number) → text_by (reader_under Always r) v ≡ text → is_own_unit_text r text v ≡ true
as_always r text v written =
    of_three r text v (or_left (is_unit_text_of (reader_under Always r) text v) (by_two r text v) (is_written (reader_under Always r) text v written))

pub own_under : (r : ReaderTexts) (strategy : GroupingStrategy) (text : List ℕ) (v : SignedValue Number) → text_by (reader_under strategy r) v ≡ text → is_own_unit_text r text v ≡ true
own_under r Auto text v written = as_always r text v written
own_under r Never text v written =
    or_left (is_unit_text_of (reader_under Never r) text v) (by_three r text v) (is_written (reader_under Never r) text v written)
own_under r Always text v written = as_always r text v written
own_under r Min2 text v written =
    of_two r text v (or_left (is_unit_text_of (reader_under Min2 r) text v) (is_unit_text_of (reader_under OnAligned r) text v) (is_written (reader_under Min2 r) text v written))
own_under r OnAligned text v written =
    of_two r text v (or_right (is_unit_text_of (reader_under Min2 r) text v) (is_unit_text_of (reader_under OnAligned r) text v) (is_written (reader_under OnAligned r) text v written))

-- a number that is read without a unit is written so
pub plain_written : (t : Tables) (text : List ℕ) (v : SignedValue Number) → plain_reading t text ≡ decimal v → decimal_text t v ≡ text
plain_written t text v is = written_again t text v is
