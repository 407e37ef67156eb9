-- What is told, and one more entry: `specs/Faults.antt`.
use Rattle.std.proofs.Common.{◌≡◌, if◌then◌else◌, Bool, true, false, List, [], ◌∷◌, ◌++◌, Option, None, Some, is_some, refl, sym, ap, ◌∙◌, subst}
use Rattle.std.specs.Option.{option_or}
use Rattle.serde_json.specs.Data.{Data, Items, item}
use Rattle.locale_numbers_tables.specs.Keys.{table_at}
use Rattle.locale_numbers_words.specs.declared.error.WordsError.{WordsError}
use Rattle.locale_numbers_words.specs.declared.error.WordsError.TheVariants.{Shape, Tag, Text, Duplicate, Memory, Unit, Code, Measure}
use Rattle.locale_numbers_words.specs.declared.tables.Found.TheVariants.{Nothing, Same, Other}
use Rattle.locale_numbers_words.specs.Faults.{IsTold, agrees, first_broken, first_fault_after, found_of, said_fault, table_after, under, with_said}

-- ---- what is told

pub told_at : (a b : Option WordsError) (e : WordsError) → a ≡ b → IsTold a e → IsTold b e
told_at a b e same told = subst (λ found. IsTold found e) same told

-- a fault that is told is the first one
pub told_first : (a b : Option WordsError) (e : WordsError) → IsTold a e → IsTold (option_or a b) e
told_first a b Shape h = rw h refl
told_first a b Tag h = rw h refl
told_first a b Text h = rw h refl
told_first a b Duplicate h = rw h refl
told_first a b Memory h = tt
told_first a b Unit h = rw h refl
told_first a b Code h = rw h refl
told_first a b Measure h = rw h refl

-- where there is none, what is told is out of memory
pub told_of_none : (found : Option WordsError) (e : WordsError) → IsTold None e → IsTold found e
told_of_none found Shape h = absurd (cc)
told_of_none found Tag h = absurd (cc)
told_of_none found Text h = absurd (cc)
told_of_none found Duplicate h = absurd (cc)
told_of_none found Memory h = tt
told_of_none found Unit h = absurd (cc)
told_of_none found Code h = absurd (cc)
told_of_none found Measure h = absurd (cc)

pub told_some : (found : Option WordsError) (e : WordsError) → found ≡ Some e → IsTold found e
told_some found Shape h = h
told_some found Tag h = h
told_some found Text h = h
told_some found Duplicate h = h
told_some found Memory h = tt
told_some found Unit h = h
told_some found Code h = h
told_some found Measure h = h

-- ---- rules in their order

-- a fault that the first rules tell, after a rule that holds, is that of all
pub told_ahead : (shape tag text : Bool) (rest : List (WordsError × Bool)) (e : WordsError) → shape ≡ true
    → IsTold (first_broken ((Tag, tag) ∷ (Text, text) ∷ [])) e → IsTold (first_broken ((Shape, shape) ∷ (Tag, tag) ∷ (Text, text) ∷ rest)) e
told_ahead true false text rest e h told = told
told_ahead true true false rest e h told = told
told_ahead true true true rest e h told = told_of_none _ e told
told_ahead false tag text rest e h told = absurd (cc)

pub past_three : (shape tag text : Bool) (rest : List (WordsError × Bool)) → shape ≡ true → first_broken ((Tag, tag) ∷ (Text, text) ∷ []) ≡ None
    → first_broken ((Shape, shape) ∷ (Tag, tag) ∷ (Text, text) ∷ rest) ≡ first_broken rest
past_three true true true rest h none = refl
past_three true true false rest h none = absurd (cc)
past_three true false text rest h none = absurd (cc)
past_three false tag text rest h none = absurd (cc)

-- the same where the code is told too
pub told_ahead_code : (shape tag text code : Bool) (rest : List (WordsError × Bool)) (e : WordsError) → shape ≡ true
    → IsTold (first_broken ((Tag, tag) ∷ (Text, text) ∷ (Code, code) ∷ [])) e
    → IsTold (first_broken ((Shape, shape) ∷ (Tag, tag) ∷ (Text, text) ∷ (Code, code) ∷ rest)) e
told_ahead_code true false text code rest e h told = told
told_ahead_code true true false code rest e h told = told
told_ahead_code true true true false rest e h told = told
told_ahead_code true true true true rest e h told = told_of_none _ e told
told_ahead_code false tag text code rest e h told = absurd (cc)

pub past_four : (shape tag text code : Bool) (rest : List (WordsError × Bool)) → shape ≡ true
    → first_broken ((Tag, tag) ∷ (Text, text) ∷ (Code, code) ∷ []) ≡ None
    → first_broken ((Shape, shape) ∷ (Tag, tag) ∷ (Text, text) ∷ (Code, code) ∷ rest) ≡ first_broken rest
past_four true true true true rest h none = refl
past_four true true true false rest h none = absurd (cc)
past_four true true false code rest h none = absurd (cc)
past_four true false text code rest h none = absurd (cc)
past_four false tag text code rest h none = absurd (cc)

-- a code that is none, after a locale and texts
pub no_code : (tag text code : Bool) → first_broken ((Tag, tag) ∷ (Text, text) ∷ []) ≡ None → code ≡ false
    → first_broken ((Tag, tag) ∷ (Text, text) ∷ (Code, code) ∷ []) ≡ Some Code
no_code true true false none h = refl
no_code true true true none h = absurd (cc)
no_code true false code none h = absurd (cc)
no_code false text code none h = absurd (cc)

pub with_code : (tag text code : Bool) → first_broken ((Tag, tag) ∷ (Text, text) ∷ []) ≡ None → code ≡ true
    → first_broken ((Tag, tag) ∷ (Text, text) ∷ (Code, code) ∷ []) ≡ None
with_code true true true none h = refl
with_code true true false none h = absurd (cc)
with_code true false code none h = absurd (cc)
with_code false text code none h = absurd (cc)

pub told_tag : (tag text code : Bool) (e : WordsError) → IsTold (first_broken ((Tag, tag) ∷ (Text, text) ∷ [])) e
    → IsTold (first_broken ((Tag, tag) ∷ (Text, text) ∷ (Code, code) ∷ [])) e
told_tag false text code e told = told
told_tag true false code e told = told
told_tag true true code e told = told_of_none _ e told

pub no_shape : (shape : Bool) (rest : List (WordsError × Bool)) → shape ≡ false → first_broken ((Shape, shape) ∷ rest) ≡ Some Shape
no_shape false rest h = refl
no_shape true rest h = absurd (cc)

module _ {V : Type 0} (same_said : V → V → Bool) where
  -- the last two rules, by what is said
  pub last_two : (late : WordsError) (earlier said : Option V)
      → first_broken ((Duplicate, agrees same_said earlier said) ∷ (late, is_some said) ∷ []) ≡ said_fault same_said late earlier said
  last_two late None None = refl
  last_two late None (Some said) = refl
  last_two late (Some earlier) None = refl
  last_two late (Some earlier) (Some said) =
      elim (same_said earlier said) as (λ b. (if b then None else Some Duplicate) ≡ (if b then None else Some Duplicate)) [ true ↦ refl | false ↦ refl ]

  -- the last one, where something is said
  pub last_one : (late : WordsError) (earlier : Option V) (said : V)
      → first_broken ((Duplicate, agrees same_said earlier (Some said)) ∷ []) ≡ said_fault same_said late earlier (Some said)
  last_one late None said = refl
  last_one late (Some earlier) said = refl

  -- ---- what a table has

  pub found_nothing : (earlier said : Option V) → Nothing ≡ found_of same_said earlier said → earlier ≡ None
  found_nothing None said is = refl
  found_nothing (Some earlier) said is = by (agrees same_said (Some earlier) said) is
    where
      by : (b : Bool) → Nothing ≡ (if b then Same else Other) → Some earlier ≡ None
      by true e = absurd (cc)
      by false e = absurd (cc)

  pub found_same : (late : WordsError) (earlier said : Option V) → Same ≡ found_of same_said earlier said → said_fault same_said late earlier said ≡ None
  found_same late None said is = absurd (cc)
  found_same late (Some earlier) None is = absurd (cc)
  found_same late (Some earlier) (Some said) is = by (same_said earlier said) is
    where
      by : (b : Bool) → Same ≡ (if b then Same else Other) → (if b then None else Some Duplicate) ≡ None
      by true e = refl
      by false e = absurd (cc)

  pub found_other : (late : WordsError) (earlier said : Option V) → Other ≡ found_of same_said earlier said
      → said_fault same_said late earlier said ≡ Some Duplicate
  found_other late None said is = absurd (cc)
  found_other late (Some earlier) None is = refl
  found_other late (Some earlier) (Some said) is = by (same_said earlier said) is
    where
      by : (b : Bool) → Other ≡ (if b then Same else Other) → (if b then None else Some Duplicate) ≡ Some Duplicate
      by true e = absurd (cc)
      by false e = refl

  module _ {K : Type 0} (same : K → K → Bool) where
    -- nothing is added for what is there
    pub stays : (before : List (K × V)) (key : K) (said : Option V) → Same ≡ found_of same_said (table_at same key before) said
        → before ≡ with_said same before (Some key) said
    stays before key None is = refl
    stays before key (Some said) is = by (table_at same key before) is
      where
        by : (o : Option V) → Same ≡ found_of same_said o (Some said) → before ≡ (if is_some o then before else before ++ (key, said) ∷ [])
        by None e = absurd (cc)
        by (Some earlier) e = refl

    pub added : (before : List (K × V)) (key : K) (said : V) → table_at same key before ≡ None
        → before ++ (key, said) ∷ [] ≡ with_said same before (Some key) (Some said)
    added before key said none = rw none refl

-- ---- one more entry of an array

pub option_or_none : (a b : Option WordsError) → a ≡ None → option_or a b ≡ b
option_or_none a b none = rw none refl

module _ {K V : Type 0} (same : K → K → Bool) (key : Data → Option K) (said : Data → Option V) (fault : Option V → Data → Option WordsError) where
  abbrev pub faults_after : List (K × V) → Items → Option WordsError
  faults_after before entries = first_fault_after same key said fault before entries

  pub table_step : (entry : Data) (rest : Items) (before after : List (K × V)) → after ≡ with_said same before (key entry) (said entry)
      → table_after same key said after rest ≡ table_after same key said before (item entry rest)
  table_step entry rest before after adds = ap (λ t. table_after same key said t rest) adds

  pub fault_step : (entry : Data) (rest : Items) (before after : List (K × V)) → after ≡ with_said same before (key entry) (said entry)
      → fault (under same before (key entry)) entry ≡ None → faults_after after rest ≡ faults_after before (item entry rest)
  fault_step entry rest before after adds sound =
      ap (λ t. faults_after t rest) adds
      ∙ sym (option_or_none (fault (under same before (key entry)) entry) (faults_after (with_said same before (key entry) (said entry)) rest) sound)

  pub told_entry : (entry : Data) (rest : Items) (before : List (K × V)) (e : WordsError) → IsTold (fault (under same before (key entry)) entry) e
      → IsTold (faults_after before (item entry rest)) e
  told_entry entry rest before e told =
      told_first (fault (under same before (key entry)) entry) (faults_after (with_said same before (key entry) (said entry)) rest) e told
