-- How often a category is among those of rules, and the category of a range: `specs/Laws.antt`.
use Rattle.std.proofs.Common.{◌≡◌, ℕ, ◌+◌, Bool, true, false, cond, List, [], ◌∷◌, ◌++◌, Option, None, Some, All, Contains, is_some, refl, arith, ◌∙◌}
use Rattle.std.proofs.lemmas.Bool.{cond_both}
use Rattle.std.proofs.lemmas.List.Elements.{All-head, All-tail}
use Rattle.icu_decimal_plurals.specs.declared.category.PluralCategory.{PluralCategory}
use Rattle.icu_decimal_plurals.specs.declared.category.PluralCategory.TheVariants.{Zero, One, Two, Few, Many, Other}
use Rattle.icu_decimal_plurals.specs.Conditions.{ConditionData}
use Rattle.icu_decimal_plurals.specs.Reading.{is_same}
use Rattle.icu_decimal_plurals.specs.Rules.{Rules}
use Rattle.icu_plurals.specs.declared.ranges.PluralRange.{PluralRange}
use Rattle.icu_plurals.specs.Laws.{is_had, times}
use Rattle.icu_decimal_plurals.specs.ListedRules.{Conditioned, categories_of, with_condition}
use Rattle.icu_plurals.specs.Ranges.{is_for, range_category}
use Rattle.icu_decimal_plurals.proofs.ListedLemmas.{from_few, from_many, from_one, from_two, names}

-- how often a category is what a condition is given for
abbrev once : PluralCategory → PluralCategory → Option ConditionData → ℕ
once wanted category found = cond (is_some found) (cond (is_same wanted category) 1 0) 0

step : (wanted category : PluralCategory) (found : Option ConditionData) (rest : List Conditioned)
    → times wanted (names (with_condition category found ++ rest)) ≡ once wanted category found + times wanted (names rest)
step wanted category None rest = omega arith
step wanted category (Some condition) rest = by (is_same wanted category) (times wanted (names rest))
  where
    by : (b : Bool) (n : ℕ) → cond b (1 + n) n ≡ cond b 1 0 + n
    by true n = refl
    by false n = omega arith

last : (wanted category : PluralCategory) (found : Option ConditionData)
    → times wanted (names (with_condition category found)) ≡ once wanted category found + times wanted (Other ∷ [])
last wanted category None = omega arith
last wanted category (Some condition) = by (is_same wanted category) (times wanted (Other ∷ []))
  where
    by : (b : Bool) (n : ℕ) → cond b (1 + n) n ≡ cond b 1 0 + n
    by true n = refl
    by false n = omega arith

all_steps : (wanted : PluralCategory) (rules : Rules) → times wanted (categories_of rules)
    ≡ once wanted Zero rules.zero + (once wanted One rules.one + (once wanted Two rules.two + (once wanted Few rules.few + (once wanted Many rules.many + times wanted (Other ∷ [])))))
all_steps wanted rules =
    rw (step wanted Zero rules.zero (from_one rules), step wanted One rules.one (from_two rules), step wanted Two rules.two (from_few rules), step wanted Few rules.few (from_many rules), last wanted Many rules.many) refl

-- a condition of another category counts nothing
abbrev uncounted : Bool → ℕ
uncounted b = cond b 0 0

nothing : (b : Bool) → uncounted b ≡ 0
nothing true = refl
nothing false = refl

pub had_times : (rules : Rules) (category : PluralCategory) → times category (categories_of rules) ≡ cond (is_had rules category) 1 0
had_times rules Zero = all_steps Zero rules ∙ rw (nothing (is_some rules.one), nothing (is_some rules.two), nothing (is_some rules.few), nothing (is_some rules.many)) (omega arith)
had_times rules One = all_steps One rules ∙ rw (nothing (is_some rules.zero), nothing (is_some rules.two), nothing (is_some rules.few), nothing (is_some rules.many)) (omega arith)
had_times rules Two = all_steps Two rules ∙ rw (nothing (is_some rules.zero), nothing (is_some rules.one), nothing (is_some rules.few), nothing (is_some rules.many)) (omega arith)
had_times rules Few = all_steps Few rules ∙ rw (nothing (is_some rules.zero), nothing (is_some rules.one), nothing (is_some rules.two), nothing (is_some rules.many)) (omega arith)
had_times rules Many = all_steps Many rules ∙ rw (nothing (is_some rules.zero), nothing (is_some rules.one), nothing (is_some rules.two), nothing (is_some rules.few)) (omega arith)
had_times rules Other = all_steps Other rules ∙ rw (nothing (is_some rules.zero), nothing (is_some rules.one), nothing (is_some rules.two), nothing (is_some rules.few), nothing (is_some rules.many)) refl

-- ---- ranges

pub range_is_one : (categories : List PluralCategory) (ranges : List PluralRange) (start end : PluralCategory)
    → All (λ (range : PluralRange). Contains categories range.result) ranges → Contains categories end → Contains categories (range_category ranges start end)
range_is_one categories [] start end all at = at
range_is_one categories (range ∷ rest) start end all at =
    let there : PluralRange → Type 0 = λ (r : PluralRange). Contains categories r.result in
    cond_both (is_for start end range) range.result (range_category rest start end) (Contains categories)
    (λ is. All-head there range rest all)
    (λ is. range_is_one categories rest start end (All-tail there range rest all) at)
