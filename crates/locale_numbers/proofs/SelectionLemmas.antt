-- The book of what preferences ask for serves them: `specs/Selection.antt`.
use Rattle.std.proofs.Common.{◌≡◌, ℕ, ◌+◌, ◌*◌, ◌==◌, Bool, true, false, ◌||◌, List, [], ◌∷◌, ◌++◌, length, Option, Some, None, Result, Ok, Err, if◌then◌else◌, refl, sym, ap, ◌∙◌, subst, arith}
use Rattle.std.specs.Prelude.{IfSome, codes, filter, option_and_then, option_map}
use Rattle.std.specs.Map.{lookup}
use Rattle.std.specs.Option.{option_or}
use Rattle.std.specs.Str.{bytes_eq}
use Rattle.std.proofs.lemmas.Bool.{and_from}
use Rattle.std.proofs.lemmas.Slice.Eq.{bytes_eq-Decides}
use Rattle.std.proofs.lemmas.Bool.Decides.{nat_tests}
use Rattle.std.proofs.lemmas.List.{append-nil}
use Rattle.std.proofs.lemmas.Option.{same_Some}
use Rattle.serde_json.specs.Data.{Data}
use Rattle.icu_decimal.specs.Choice.{answered, found_or}
use Rattle.icu_decimal.specs.Identifiers.{Identifier, digits_identifiers, identifiers_along, of_system, under_each}
use Rattle.icu_decimal.specs.Symbols.{Symbols}
use Rattle.icu_decimal.specs.declared.error.DataError.{DataError}
use Rattle.icu_decimal_chains.specs.Chains.{Follows, chain, walk}
use Rattle.icu_decimal_chains.proofs.ChainLemmas.{never_again, walked}
use Rattle.icu_dimension.specs.UnitChoice.{unknown_last}
use Rattle.icu_locale_core.specs.DataLocales.{truncated, unknown_data}
use Rattle.icu_locale_core.specs.Subtags.{Text}
use Rattle.icu_locale_core.specs.TagPreferences.{DataLocaleMeaning, Preferences, language_priority}
use Rattle.icu_plurals.specs.declared.PluralRuleType.{PluralRuleType}
use Rattle.locale_numbers.specs.Answer.{answer_of}
use Rattle.locale_numbers_book.specs.Book.{BookTables, IsBook}
use Rattle.locale_numbers_book.specs.FoundFormats.{beside_second, both_found, formats_for, found_for, in_latin, mapped}
use Rattle.locale_numbers_book.specs.FoundLocale.{found_locale, locale_for}
use Rattle.locale_numbers_book.specs.FoundRules.{chain_with_unknown, plural_rules_for, plural_rules_of}
use Rattle.locale_numbers_book.specs.Tables.{chain_in, digits_under, fractions_under, ordinals_there, ranges_there, rules_under, step_in, steps_in, symbols_under}
use Rattle.locale_numbers_book.specs.TagFormatters.{found_by, or_no_table}
use Rattle.locale_numbers_book.specs.Wanted.{wanted_of}
use Rattle.locale_numbers_book.proofs.BookChains.{chains_end}
use Rattle.locale_numbers_book.specs.Parents.{Entry, IsParents, leads_to, listed_parent, most_steps, parent_step}
use Rattle.locale_numbers_parents.proofs.ParentsLemmas.{no_longer, no_parents, one_more, stays_open}
use Rattle.locale_numbers_formats.specs.declared.NumberShape.{NumberShape}
use Rattle.locale_numbers_formatter.specs.FormatText.{FormatTables}
use Rattle.locale_numbers_requests.specs.Request.{Asked, request_of}
use Rattle.locale_numbers_book.specs.Keys.{same_data_locale, same_key, table_at}
use Rattle.locale_numbers_tables.proofs.KeyLemmas.{same_data_locales, same_keys}
use Rattle.locale_numbers_book.specs.Units.{UnitsTables}
use Rattle.locale_numbers_plurals.specs.Plurals.{PluralTables}
use Rattle.locale_numbers.specs.Serving.{Agree, Serves, unit_locales_in}
use Rattle.locale_numbers.specs.Selection.{SelectedBooksHaveTheFormatters, SelectedParentsAreParents, is_among, is_asked, is_text_among, kept_named, kept_of, named_by, own_step, selected, selected_plurals, selected_units, steps_along, systems_of}
use Rattle.locale_numbers.proofs.SecondLemmas.{second_same}
use Rattle.locale_numbers.proofs.ServingLemmas.{agreed, answered_alike, located, plain_same, rules_served, shape_same}

-- ---- what a selection finds

module _ {K V : Type 0} (same : K → K → Bool) (test : K → Bool) (respects : (key other : K) → same key other ≡ true → test key ≡ true → test other ≡ true) (key : K) (passes : test key ≡ true) where
  kept : (pairs : List (K × V)) → table_at same key (filter (λ pair. test pair.0) pairs) ≡ table_at same key pairs
  kept [] = refl
  kept (pair ∷ pairs) = by (kept pairs) (test pair.0) refl (same key pair.0) refl
    where
      by : table_at same key (filter (λ pair. test pair.0) pairs) ≡ table_at same key pairs → (t : Bool) → test pair.0 ≡ t → (s : Bool) → same key pair.0 ≡ s
          → table_at same key (filter (λ pair. test pair.0) (pair ∷ pairs)) ≡ table_at same key (pair ∷ pairs)
      by rest true t true s = rw (t, s) refl
      by rest true t false s = rw (t, s) rest
      by rest false t true s = absurd (let w : test pair.0 ≡ true = respects key pair.0 s passes in cc)
      by rest false t false s = rw (t, s) rest

-- ---- locales

or_first : (a b : Bool) → a ≡ true → (a || b) ≡ true
or_first true b h = refl
or_first false b h = absurd (cc)

or_second : (a b : Bool) → b ≡ true → (a || b) ≡ true
or_second true b h = refl
or_second false b h = h

abbrev AllAmong : List DataLocaleMeaning → List DataLocaleMeaning → Type 0
AllAmong locales [] = Unit {0}
AllAmong locales (x ∷ xs) = (is_among locales x ≡ true) × AllAmong locales xs

all_more : (y : DataLocaleMeaning) (locales xs : List DataLocaleMeaning) → AllAmong locales xs → AllAmong (y ∷ locales) xs
all_more y locales [] h = tt
all_more y locales (x ∷ xs) h = (or_second (same_data_locale y x) (is_among locales x) h.0, all_more y locales xs h.1)

all_own : (locales : List DataLocaleMeaning) → AllAmong locales locales
all_own [] = tt
all_own (x ∷ xs) = (or_first (same_data_locale x x) (is_among xs x) ((same_data_locales x x).1 refl), all_more x xs xs (all_own xs))

-- ---- tables along locales

agree_same : {T : Type 0} (table : Identifier → Result T DataError) (ids : List Identifier) → Agree table table ids
agree_same table [] = tt
agree_same table (id ∷ ids) = (refl, agree_same table ids)

agree_both : {T : Type 0} (small whole : Identifier → Result T DataError) (xs ys : List Identifier) → Agree small whole xs → Agree small whole ys → Agree small whole (xs ++ ys)
agree_both small whole [] ys h g = g
agree_both small whole (x ∷ xs) ys h g = (h.0, agree_both small whole xs ys h.1 g)

-- each identifier passes a test
abbrev AllPassIds : (Identifier → Bool) → List Identifier → Type 0
AllPassIds test [] = Unit {0}
AllPassIds test (id ∷ ids) = (test id ≡ true) × AllPassIds test ids

pass_both : (test : Identifier → Bool) (xs ys : List Identifier) → AllPassIds test xs → AllPassIds test ys → AllPassIds test (xs ++ ys)
pass_both test [] ys h g = g
pass_both test (x ∷ xs) ys h g = (h.0, pass_both test xs ys h.1 g)

agree_ids : {T : Type 0} (test : Identifier → Bool) (entries : List (Identifier × T)) (ids : List Identifier) → AllPassIds test ids
    → Agree (λ id. answered (table_at same_key id (filter (λ pair. test pair.0) entries))) (λ id. answered (table_at same_key id entries)) ids
agree_ids test entries [] h = tt
agree_ids test entries (id ∷ ids) h = (
  ap answered (kept same_key test (λ key other e t. subst (λ (k : Identifier). test k ≡ true) ((same_keys key other).0 e) t) id h.0 entries),
  agree_ids test entries ids h.1,
)

-- by locale
each_among : (locales : List DataLocaleMeaning) (attributes : Text) (xs : List DataLocaleMeaning) → AllAmong locales xs → AllPassIds (λ id. is_among locales id.locale) (under_each attributes xs)
each_among locales attributes [] h = tt
each_among locales attributes (x ∷ xs) h = (h.0, each_among locales attributes xs h.1)

along_among : (locales : List DataLocaleMeaning) (system : Option Text) (xs : List DataLocaleMeaning) → AllAmong locales xs → AllPassIds (λ id. is_among locales id.locale) (identifiers_along system xs)
along_among locales None xs h = each_among locales [] xs h
along_among locales (Some system) xs h = pass_both (λ id. is_among locales id.locale) (under_each system xs) (under_each [] xs) (each_among locales system xs h) (each_among locales [] xs h)

-- by locale and system
each_asked : (locales : List DataLocaleMeaning) (systems : List Text) (attributes : Text) → is_text_among systems attributes ≡ true → (xs : List DataLocaleMeaning) → AllAmong locales xs → AllPassIds (is_asked locales systems) (under_each attributes xs)
each_asked locales systems attributes s [] h = tt
each_asked locales systems attributes s (x ∷ xs) h = (and_from (is_among locales x) (is_text_among systems attributes) h.0 s, each_asked locales systems attributes s xs h.1)

along_asked : (locales : List DataLocaleMeaning) (systems : List Text) → is_text_among systems [] ≡ true → (system : Option Text) → IfSome system (λ s. is_text_among systems s ≡ true)
    → (xs : List DataLocaleMeaning) → AllAmong locales xs → AllPassIds (is_asked locales systems) (identifiers_along system xs)
along_asked locales systems e None s xs h = each_asked locales systems [] e xs h
along_asked locales systems e (Some system) s xs h = pass_both (is_asked locales systems) (under_each system xs) (under_each [] xs) (each_asked locales systems system s xs h) (each_asked locales systems [] e xs h)

-- ---- digits

same_texts : (t : Text) → bytes_eq t t ≡ true
same_texts t = (bytes_eq-Decides t t).1 refl

among_front : (xs ys : List Text) (t : Text) → is_text_among xs t ≡ true → is_text_among (xs ++ ys) t ≡ true
among_front [] ys t h = absurd (cc)
among_front (x ∷ xs) ys t h = by (among_front xs ys t) (bytes_eq x t) refl
  where
    by : (is_text_among xs t ≡ true → is_text_among (xs ++ ys) t ≡ true) → (b : Bool) → bytes_eq x t ≡ b → (bytes_eq x t || is_text_among (xs ++ ys) t) ≡ true
    by rest true is = or_first (bytes_eq x t) (is_text_among (xs ++ ys) t) is
    by rest false is = or_second (bytes_eq x t) (is_text_among (xs ++ ys) t) (rest (sym (ap (λ b. b || is_text_among xs t) is) ∙ h))

among_back : (xs ys : List Text) (t : Text) → is_text_among ys t ≡ true → is_text_among (xs ++ ys) t ≡ true
among_back [] ys t h = h
among_back (x ∷ xs) ys t h = or_second (bytes_eq x t) (is_text_among (xs ++ ys) t) (among_back xs ys t h)

-- symbols that are there name a system that is named
same_there : (s t : Symbols) → ◌≡◌ {A = Result Symbols DataError} (Ok s) (Ok t) → s ≡ t
same_there s t h = ap (or_other s) h
  where
    or_other : Symbols → Result Symbols DataError → Symbols
    or_other other (Ok found) = found
    or_other other (Err error) = other

there_named : (entries : List (Identifier × Symbols)) (id : Identifier) (symbols : Symbols) → table_at same_key id entries ≡ Some symbols → is_text_among (named_by entries) symbols.strings.numsys ≡ true
there_named [] id symbols h = absurd (cc)
there_named (e ∷ es) id symbols h = by (there_named es id symbols) (same_key id e.0) refl
  where
    by : (table_at same_key id es ≡ Some symbols → is_text_among (named_by es) symbols.strings.numsys ≡ true) → (b : Bool) → same_key id e.0 ≡ b → is_text_among (named_by (e ∷ es)) symbols.strings.numsys ≡ true
    by rest true is =
        let one : e.1 ≡ symbols = same_Some e.1 symbols (rw is at h) in
        or_first (bytes_eq e.1.strings.numsys symbols.strings.numsys) (is_text_among (named_by es) symbols.strings.numsys)
        (subst (λ (z : Symbols). bytes_eq e.1.strings.numsys z.strings.numsys ≡ true) one (same_texts e.1.strings.numsys))
    by rest false is = or_second (bytes_eq e.1.strings.numsys symbols.strings.numsys) (is_text_among (named_by es) symbols.strings.numsys) (rest (rw is at h))

found_named : (entries : List (Identifier × Symbols)) (otherwise : DataError) (ids : List Identifier) (symbols : Symbols)
    → found_or (λ id. answered (table_at same_key id entries)) otherwise ids ≡ Ok symbols → is_text_among (named_by entries) symbols.strings.numsys ≡ true
found_named entries otherwise [] symbols h = absurd (cc)
found_named entries otherwise (id ∷ ids) symbols h = by (found_named entries DataError.IdentifierNotFound ids symbols) (table_at same_key id entries) refl
  where
    by : (found_or (λ id. answered (table_at same_key id entries)) DataError.IdentifierNotFound ids ≡ Ok symbols → is_text_among (named_by entries) symbols.strings.numsys ≡ true)
        → (m : Option Symbols) → table_at same_key id entries ≡ m → is_text_among (named_by entries) symbols.strings.numsys ≡ true
    by rest None is = rest (rw is at h)
    by rest (Some s) is =
        let one : s ≡ symbols = same_there s symbols (rw is at h) in
        there_named entries id symbols (is ∙ ap (λ z. Some z) one)

digits_at : (small whole : BookTables) (asked : List Text) (text : Text) → small.digits ≡ filter (λ pair. is_text_among asked pair.0) whole.digits → is_text_among asked text ≡ true
    → digits_under small (of_system text) ≡ digits_under whole (of_system text)
digits_at small whole asked text is h =
    let one : table_at bytes_eq text small.digits ≡ table_at bytes_eq text whole.digits =
    ap (table_at bytes_eq text) is
    ∙ kept bytes_eq (is_text_among asked) (λ key other e t. subst (λ (z : Text). is_text_among asked z ≡ true) ((bytes_eq-Decides key other).0 e) t) text h whole.digits in
    ap (λ there. answered (if same_data_locale unknown_data unknown_data then there else None)) one

digits_agree : (small whole : BookTables) (asked : List Text) (named : Text) → small.digits ≡ filter (λ pair. is_text_among asked pair.0) whole.digits → is_text_among asked named ≡ true
    → (system : Option Text) → IfSome system (λ s. is_text_among asked s ≡ true) → Agree (digits_under small) (digits_under whole) (digits_identifiers system named)
digits_agree small whole asked named is h None s = (digits_at small whole asked named is h, tt)
digits_agree small whole asked named is h (Some system) s = (digits_at small whole asked system is s, (digits_at small whole asked named is h, tt))

some_front : (xs ys : List Text) (system : Option Text) → IfSome system (λ s. is_text_among xs s ≡ true) → IfSome system (λ s. is_text_among (xs ++ ys) s ≡ true)
some_front xs ys None h = tt
some_front xs ys (Some s) h = among_front xs ys s h

-- ---- systems

empty_asked : (system : Option Text) → is_text_among (systems_of system) [] ≡ true
empty_asked system = refl

own_asked : (system : Option Text) → IfSome system (λ s. is_text_among (systems_of system) s ≡ true)
own_asked None = tt
own_asked (Some s) =
    or_second (bytes_eq [] s) (bytes_eq (codes "latn") s || (bytes_eq s s || false)) (or_second (bytes_eq (codes "latn") s) (bytes_eq s s || false) (or_first (bytes_eq s s) false (same_texts s)))

latin_asked : (system : Option Text) → is_text_among (systems_of system) (codes "latn") ≡ true
latin_asked system = refl

agree_rules : (small whole : BookTables) (locales xs : List DataLocaleMeaning) → small.rules ≡ kept_of locales whole.rules → AllAmong locales xs → Agree (rules_under small) (rules_under whole) (under_each [] xs)
agree_rules small whole locales [] is h = tt
agree_rules small whole locales (x ∷ xs) is h = (
  ap (λ rules. answered (table_at same_data_locale x rules)) is
      ∙ ap answered (kept same_data_locale (is_among locales) (λ key other e t. subst (λ (l : DataLocaleMeaning). is_among locales l ≡ true) ((same_data_locales key other).0 e) t) x h.0 whole.rules),
  agree_rules small whole locales xs is h.1,
)

-- ---- parents

lookup_joined : (test : DataLocaleMeaning → Bool) (xs ys : List Entry) → lookup test (xs ++ ys) ≡ option_or (lookup test xs) (lookup test ys)
lookup_joined test [] ys = refl
lookup_joined test (x ∷ xs) ys = by (lookup_joined test xs ys) (test x.0) refl
  where
    by : lookup test (xs ++ ys) ≡ option_or (lookup test xs) (lookup test ys) → (t : Bool) → test x.0 ≡ t → lookup test ((x ∷ xs) ++ ys) ≡ option_or (lookup test (x ∷ xs)) (lookup test ys)
    by rest true t = rw t refl
    by rest false t = rw t rest

or_itself : {T : Type 0} (b : Bool) (m : Option T) → option_or (if b then m else None) m ≡ m
or_itself true None = refl
or_itself true (Some x) = refl
or_itself false m = refl

or_none : {T : Type 0} (m : Option T) → option_or m None ≡ m
or_none None = refl
or_none (Some x) = refl

own_found : (x : DataLocaleMeaning) (m : Option DataLocaleMeaning) → lookup (same_data_locale x) (own_step x m) ≡ m
own_found x None = refl
own_found x (Some parent) = rw ((same_data_locales x x).1 refl) refl

own_absent : (x y : DataLocaleMeaning) (m : Option DataLocaleMeaning) → same_data_locale x y ≡ false → lookup (same_data_locale x) (own_step y m) ≡ None
own_absent x y None h = refl
own_absent x y (Some parent) h = rw h refl

apart : (x y : DataLocaleMeaning) → same_data_locale x y ≡ false → (b : Bool) → same_data_locale y x ≡ b → b ≡ false
apart x y h false is = refl
apart x y h true is = absurd (let w : same_data_locale x y ≡ true = (same_data_locales x y).1 (sym ((same_data_locales y x).0 is)) in cc)

module _ (entries : List Entry) (x : DataLocaleMeaning) where
  listed_along : (ys : List DataLocaleMeaning) → listed_parent (steps_along entries ys) x ≡ (if is_among ys x then listed_parent entries x else None)
  listed_along [] = refl
  listed_along (y ∷ ys) =
      lookup_joined (same_data_locale x) (steps_along entries ys) (own_step y (listed_parent entries y))
      ∙ ap (λ m. option_or m (lookup (same_data_locale x) (own_step y (listed_parent entries y)))) (listed_along ys)
      ∙ by (same_data_locale x y) refl
    where
      by : (b : Bool) → same_data_locale x y ≡ b
          → option_or (if is_among ys x then listed_parent entries x else None) (lookup (same_data_locale x) (own_step y (listed_parent entries y))) ≡ (if is_among (y ∷ ys) x then listed_parent entries x else None)
      by true is =
          let one : x ≡ y = (same_data_locales x y).0 is in
          let found : lookup (same_data_locale x) (own_step y (listed_parent entries y)) ≡ listed_parent entries x = subst (λ (z : DataLocaleMeaning). lookup (same_data_locale x) (own_step z (listed_parent entries z)) ≡ listed_parent entries x) one (own_found x (listed_parent entries x)) in
          ap (option_or (if is_among ys x then listed_parent entries x else None)) found
          ∙ or_itself (is_among ys x) (listed_parent entries x)
          ∙ sym (ap (λ b. if b then listed_parent entries x else None) (or_first (same_data_locale y x) (is_among ys x) ((same_data_locales y x).1 (sym one))))
      by false is =
          ap (option_or (if is_among ys x then listed_parent entries x else None)) (own_absent x y (listed_parent entries y) is)
          ∙ or_none (if is_among ys x then listed_parent entries x else None)
          ∙ sym (ap (λ b. if b || is_among ys x then listed_parent entries x else None) (apart x y is (same_data_locale y x) refl))

-- along the chain the steps are those of all entries
stepped : (entries : List Entry) (along : List DataLocaleMeaning) (x : DataLocaleMeaning) → is_among along x ≡ true → parent_step (steps_along entries along) x ≡ parent_step entries x
stepped entries along x h = ap (λ m. option_or m (truncated x)) (listed_along entries x along ∙ ap (λ b. if b then listed_parent entries x else None) h)

followed : (entries : List Entry) (along : List DataLocaleMeaning) (start : DataLocaleMeaning) (xs : List DataLocaleMeaning) → Follows (parent_step entries) start xs → AllAmong along (start ∷ xs)
    → Follows (parent_step (steps_along entries along)) start xs
followed entries along start [] f h = stepped entries along start h.0 ∙ f
followed entries along start (x ∷ xs) f h = (stepped entries along start h.0 ∙ f.0, followed entries along x xs f.1 h.1)

chains_same : (parents : Option (List Entry)) (locale : DataLocaleMeaning) → Follows (step_in parents) locale (walk (step_in parents) (steps_in parents) locale)
    → chain (step_in (option_map (λ entries. steps_along entries (chain (step_in parents) (steps_in parents) locale)) parents)) (steps_in (option_map (λ entries. steps_along entries (chain (step_in parents) (steps_in parents) locale)) parents)) locale
    ≡ chain (step_in parents) (steps_in parents) locale
chains_same None locale f = refl
chains_same (Some entries) locale f =
    let along : List DataLocaleMeaning = chain (parent_step entries) (most_steps entries) locale in
    let xs : List DataLocaleMeaning = walk (parent_step entries) (most_steps entries) locale in
    let g : Follows (parent_step (steps_along entries along)) locale xs = followed entries along locale xs f (all_own along) in
    ap (λ (ys : List DataLocaleMeaning). locale ∷ ys) (walked (parent_step (steps_along entries along)) (most_steps (steps_along entries along)) locale xs g (no_longer (steps_along entries along) locale xs g))

-- no locale is twice among them, and none of them closes a cycle
parents_along : (entries : List Entry) (x : DataLocaleMeaning) (xs : List DataLocaleMeaning) → Follows (parent_step entries) x xs → IsParents (steps_along entries (x ∷ xs))
parents_along entries x [] f = by (listed_parent entries x) refl
  where
    by : (m : Option DataLocaleMeaning) → listed_parent entries x ≡ m → IsParents (steps_along entries [] ++ own_step x m)
    by None is = no_parents
    by (Some p) is = absurd (let w : option_or (Some p) (truncated x) ≡ None = ap (λ m. option_or m (truncated x)) (sym is) ∙ f in cc)
parents_along entries x (y ∷ ys) f = by (parents_along entries y ys f.1) (listed_parent entries x) refl
  where
    by : IsParents (steps_along entries (y ∷ ys)) → (m : Option DataLocaleMeaning) → listed_parent entries x ≡ m → IsParents (steps_along entries (y ∷ ys) ++ own_step x m)
    by rest None is = subst IsParents (sym (append-nil (steps_along entries (y ∷ ys)))) rest
    by rest (Some p) is =
        let one : p ≡ y = same_Some p y (ap (λ m. option_or m (truncated x)) (sym is) ∙ f.0) in
        let new : is_among (y ∷ ys) x ≡ false = never_again same_data_locale same_data_locales (parent_step entries) x (y ∷ ys) f in
        let absent : listed_parent (steps_along entries (y ∷ ys)) x ≡ None = listed_along entries x (y ∷ ys) ∙ ap (λ b. if b then listed_parent entries x else None) new in
        let g : Follows (parent_step (steps_along entries (y ∷ ys))) y ys = followed entries (y ∷ ys) y ys f.1 (all_own (y ∷ ys)) in
        let walks : walk (parent_step (steps_along entries (y ∷ ys))) (most_steps (steps_along entries (y ∷ ys))) y ≡ ys = walked (parent_step (steps_along entries (y ∷ ys))) (most_steps (steps_along entries (y ∷ ys))) y ys g (no_longer (steps_along entries (y ∷ ys)) y ys g) in
        let ends : Follows (parent_step (steps_along entries (y ∷ ys))) y (walk (parent_step (steps_along entries (y ∷ ys))) (most_steps (steps_along entries (y ∷ ys))) y) =
        subst (λ (zs : List DataLocaleMeaning). Follows (parent_step (steps_along entries (y ∷ ys))) y zs) (sym walks) g in
        let away : leads_to (steps_along entries (y ∷ ys)) y x ≡ false = ap (λ (zs : List DataLocaleMeaning). is_among (y ∷ zs) x) walks ∙ new in
        subst (λ (q : DataLocaleMeaning). IsParents (steps_along entries (y ∷ ys) ++ (x, q) ∷ [])) (sym one)
        (one_more (steps_along entries (y ∷ ys)) (x, y) rest absent (stays_open (steps_along entries (y ∷ ys)) x y absent ends away))

parents_of : (parents : Option (List Entry)) (locale : DataLocaleMeaning) → Follows (step_in parents) locale (walk (step_in parents) (steps_in parents) locale)
    → IfSome (option_map (λ entries. steps_along entries (chain (step_in parents) (steps_in parents) locale)) parents) IsParents
parents_of None locale f = tt
parents_of (Some entries) locale f = parents_along entries locale (walk (parent_step entries) (most_steps entries) locale) f

pub selected_parents : SelectedParentsAreParents
selected_parents value whole is p = parents_of whole.parents (language_priority p.locale) (chains_end value whole is (language_priority p.locale))

some_steps : (n : ℕ) → (5 * n + 4 == 0) ≡ false
some_steps n = grind (arith, nat_tests)

rooted_same : (parents : Option (List Entry)) (along : List DataLocaleMeaning) → unknown_last (steps_in (option_map (λ entries. steps_along entries along) parents)) ≡ unknown_last (steps_in parents)
rooted_same None along = refl
rooted_same (Some entries) along = rw (some_steps (length (steps_along entries along)), some_steps (length entries)) refl

-- ---- units

module _ (locales xs : List DataLocaleMeaning) (h : AllAmong locales xs) (systems : List Text) (empty : is_text_among systems [] ≡ true) where
  percents_agree : (units : Option UnitsTables) (system : Option Text) → IfSome system (λ s. is_text_among systems s ≡ true)
      → Agree (λ id. answered (option_and_then (λ u. table_at same_key id u.percents) (option_map (selected_units locales systems) units))) (λ id. answered (option_and_then (λ u. table_at same_key id u.percents) units)) (identifiers_along system xs)
  percents_agree None system s = agree_same _ (identifiers_along system xs)
  percents_agree (Some units) system s = agree_ids (is_asked locales systems) units.percents (identifiers_along system xs) (along_asked locales systems empty system s xs h)

  currencies_agree : (units : Option UnitsTables) (system : Option Text) → IfSome system (λ s. is_text_among systems s ≡ true)
      → Agree (λ id. answered (option_and_then (λ u. table_at same_key id u.currencies) (option_map (selected_units locales systems) units))) (λ id. answered (option_and_then (λ u. table_at same_key id u.currencies) units)) (identifiers_along system xs)
  currencies_agree None system s = agree_same _ (identifiers_along system xs)
  currencies_agree (Some units) system s = agree_ids (λ id. is_among locales id.locale) units.currencies (identifiers_along system xs) (along_among locales system xs h)

  accounts_agree : (units : Option UnitsTables) (system : Option Text) → IfSome system (λ s. is_text_among systems s ≡ true)
      → Agree (λ id. answered (option_and_then (λ u. table_at same_key id u.accounts) (option_map (selected_units locales systems) units))) (λ id. answered (option_and_then (λ u. table_at same_key id u.accounts) units)) (identifiers_along system xs)
  accounts_agree None system s = agree_same _ (identifiers_along system xs)
  accounts_agree (Some units) system s = agree_ids (is_asked locales systems) units.accounts (identifiers_along system xs) (along_asked locales systems empty system s xs h)

  coded_agree : (units : Option UnitsTables) (code : Text)
      → Agree (λ id. answered (option_and_then (λ u. table_at same_key id u.currencies) (option_map (selected_units locales systems) units))) (λ id. answered (option_and_then (λ u. table_at same_key id u.currencies) units)) (under_each code xs)
  coded_agree None code = agree_same _ (under_each code xs)
  coded_agree (Some units) code = agree_ids (λ id. is_among locales id.locale) units.currencies (under_each code xs) (each_among locales code xs h)

  names_agree : (units : Option UnitsTables) (code : Text)
      → Agree (λ id. answered (option_and_then (λ u. table_at same_key id u.symbols) (option_map (selected_units locales systems) units))) (λ id. answered (option_and_then (λ u. table_at same_key id u.symbols) units)) (under_each code xs)
  names_agree None code = agree_same _ (under_each code xs)
  names_agree (Some units) code = agree_ids (λ id. is_among locales id.locale) units.symbols (under_each code xs) (each_among locales code xs h)

fractions_agree : (small whole : BookTables) (locales : List DataLocaleMeaning) (systems : List Text) (code : Text) → (units : Option UnitsTables) → whole.units ≡ units → small.units ≡ option_map (selected_units locales systems) units
    → fractions_under small (of_system code) ≡ fractions_under whole (of_system code)
fractions_agree small whole locales systems code None w s = rw (w, s) refl
fractions_agree small whole locales systems code (Some units) w s = rw (w, s) refl

-- ---- plurals

of_kept : {V : Type 0} (locales : List DataLocaleMeaning) (x : DataLocaleMeaning) → is_among locales x ≡ true → (entries : List (DataLocaleMeaning × V))
    → table_at same_data_locale x (kept_of locales entries) ≡ table_at same_data_locale x entries
of_kept locales x h entries =
    kept same_data_locale (is_among locales) (λ key other e t. subst (λ (l : DataLocaleMeaning). is_among locales l ≡ true) ((same_data_locales key other).0 e) t) x h entries

module _ (locales : List DataLocaleMeaning) where
  ordinals_agree : (plurals : Option PluralTables) (xs : List DataLocaleMeaning) → AllAmong locales xs
      → Agree (λ id. answered (option_and_then (λ q. ordinals_there q id) (option_map (selected_plurals locales) plurals))) (λ id. answered (option_and_then (λ q. ordinals_there q id) plurals)) (under_each [] xs)
  ordinals_agree None xs h = agree_same _ (under_each [] xs)
  ordinals_agree (Some q) [] h = tt
  ordinals_agree (Some q) (x ∷ xs) h = (ap answered (of_kept locales x h.0 q.ordinals), ordinals_agree (Some q) xs h.1)

  ranges_agree : (plurals : Option PluralTables) (xs : List DataLocaleMeaning) → AllAmong locales xs
      → Agree (λ id. answered (option_and_then (λ q. ranges_there q id) (option_map (selected_plurals locales) plurals))) (λ id. answered (option_and_then (λ q. ranges_there q id) plurals)) (under_each [] xs)
  ranges_agree None xs h = agree_same _ (under_each [] xs)
  ranges_agree (Some q) [] h = tt
  ranges_agree (Some q) (x ∷ xs) h = (ap answered (of_kept locales x h.0 q.ranges), ranges_agree (Some q) xs h.1)

-- ---- all

serving : (whole : BookTables) (p : Preferences) (system : Option Text) → IfSome system (λ s. is_text_among (systems_of p.numbering_system) s ≡ true)
    → Follows (step_in whole.parents) (language_priority p.locale) (walk (step_in whole.parents) (steps_in whole.parents) (language_priority p.locale))
    → Serves (selected whole p) whole (record { locale = p.locale; numbering_system = system })
serving whole p system s f =
    let along : List DataLocaleMeaning = chain_in whole (language_priority p.locale) in
    let last : List DataLocaleMeaning = unit_locales_in whole p in
    let unknown : List DataLocaleMeaning = chain_with_unknown whole (language_priority p.locale) in
    let systems : List Text = systems_of p.numbering_system in
    let empty : is_text_among systems [] ≡ true = empty_asked p.numbering_system in
    let ids : List Identifier = identifiers_along system along in
    let passes : AllPassIds (is_asked along systems) ids = along_asked along systems empty system s along (all_own along) in
    let named : List Text = named_by (kept_named along systems whole.symbols) in
    let symbols_agree = agree_ids (is_asked along systems) whole.symbols ids passes in
    record {
      chains = chains_same whole.parents (language_priority p.locale) f;
      rooted = rooted_same whole.parents along;
      symbols = symbols_agree;
      digits = λ symbols is. digits_agree (selected whole p) whole (systems ++ named) symbols.strings.numsys refl
          (among_back systems named symbols.strings.numsys
          (found_named (kept_named along systems whole.symbols) DataError.InvalidRequest ids symbols (agreed (symbols_under (selected whole p)) (symbols_under whole) ids symbols_agree ∙ is)))
          system (some_front systems named system s);
      rules = agree_rules (selected whole p) whole along along refl (all_own along);
      short = agree_ids (is_asked along systems) whole.short ids passes;
      long = agree_ids (is_asked along systems) whole.long ids passes;
      percents = percents_agree last last (all_own last) systems empty whole.units system s;
      currencies = currencies_agree last last (all_own last) systems empty whole.units system s;
      coded = λ code. coded_agree last last (all_own last) systems empty whole.units code;
      accounts = accounts_agree last last (all_own last) systems empty whole.units system s;
      names = λ code. names_agree last last (all_own last) systems empty whole.units code;
      fractions = λ code. fractions_agree (selected whole p) whole last systems code whole.units refl refl;
      ordinals = ordinals_agree unknown whole.plurals unknown (all_own unknown);
      ranges = ranges_agree unknown whole.plurals unknown (all_own unknown);
      signs = agree_ids (is_asked last systems) whole.signs (identifiers_along system last) (along_asked last systems empty system s last (all_own last));
    }

pub selected_alike : (value : Data) (whole : BookTables) → IsBook value whole → (line : List ℕ) (asked : Asked) (p : Preferences)
    → request_of line ≡ Some asked → wanted_of asked.tag ≡ Some p → answer_of (selected whole p) line ≡ answer_of whole line
selected_alike value whole is line asked p requested wants =
    let f = chains_end value whole is (language_priority p.locale) in
    answered_alike (selected whole p) whole line asked p requested wants
    (serving whole p p.numbering_system (own_asked p.numbering_system) f) (serving whole p (in_latin p).numbering_system (latin_asked p.numbering_system) f)

pub located_alike : (value : Data) (whole : BookTables) → IsBook value whole → (tag : Text) (p : Preferences)
    → wanted_of tag ≡ Some p → locale_for (selected whole p) tag ≡ locale_for whole tag
located_alike value whole is tag p wants =
    let serves = serving whole p p.numbering_system (own_asked p.numbering_system) (chains_end value whole is (language_priority p.locale)) in
    ap (found_by (found_locale (selected whole p))) wants
    ∙ ap or_no_table (located (selected whole p) whole p serves)
    ∙ sym (ap (found_by (found_locale whole)) wants)

-- ---- formatters and rules

-- both that are found for a shape
both_same : (small whole : BookTables) (p : Preferences) (shape : NumberShape) → Serves small whole p → Serves small whole (in_latin p) → both_found shape small p ≡ both_found shape whole p
both_same small whole p shape serves latin =
    ap (mapped (beside_second shape small p)) (shape_same small whole p serves shape)
    ∙ ap (λ (second : FormatTables → Option FormatTables). mapped {A = FormatTables} {B = FormatTables × Option FormatTables} (λ f. (f, second f)) (found_for shape whole p))
    (second_same small whole p p shape (plain_same small whole p serves shape.grouping) (shape_same small whole (in_latin p) latin shape))

formats_alike : (small whole : BookTables) (tag : Text) (p : Preferences) → wanted_of tag ≡ Some p → Serves small whole p → Serves small whole (in_latin p)
    → (shape : NumberShape) → formats_for small tag shape ≡ formats_for whole tag shape
formats_alike small whole tag p wants serves latin shape =
    ap (found_by (both_found shape small)) wants ∙ ap or_no_table (both_same small whole p shape serves latin) ∙ sym (ap (found_by (both_found shape whole)) wants)

rules_alike : (small whole : BookTables) (tag : Text) (p : Preferences) → wanted_of tag ≡ Some p → Serves small whole p
    → (rule_type : PluralRuleType) → plural_rules_of small tag rule_type ≡ plural_rules_of whole tag rule_type
rules_alike small whole tag p wants serves rule_type =
    ap (found_by (λ q. answered (plural_rules_for rule_type small q))) wants
    ∙ ap (λ rules. or_no_table (answered rules)) (rules_served small whole p serves rule_type)
    ∙ sym (ap (found_by (λ q. answered (plural_rules_for rule_type whole q))) wants)

pub selected_formatters : SelectedBooksHaveTheFormatters
selected_formatters value whole is tag p wants =
    let f = chains_end value whole is (language_priority p.locale) in
    let serves = serving whole p p.numbering_system (own_asked p.numbering_system) f in (
      formats_alike (selected whole p) whole tag p wants serves (serving whole p (in_latin p).numbering_system (latin_asked p.numbering_system) f),
      rules_alike (selected whole p) whole tag p wants serves,
    )
