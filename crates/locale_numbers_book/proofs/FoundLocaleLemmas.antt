-- The symbols that are found are those of the locale that is: `specs/FoundLocale.antt`.
use Rattle.std.proofs.Common.{◌≡◌, ℕ, suc, Bool, true, false, cond, List, [], ◌∷◌, ◌++◌, Option, None, Some, option_map, Result, Ok, Err, refl, sym, ap, ◌∙◌, arith, if◌then◌else◌}
use Rattle.std.specs.List.{AllByRecursion, Contains}
use Rattle.std.specs.Map.{lookup_key}
use Rattle.icu_decimal.specs.Choice.{answered, first_found, found_or, or_next}
use Rattle.icu_decimal.specs.FoundTables.{with_digits, with_symbols}
use Rattle.icu_decimal.specs.Identifiers.{Identifier, digits_identifiers, identifiers_along, symbols_identifiers, under_each}
use Rattle.icu_decimal.specs.Options.{strategy_in}
use Rattle.icu_decimal.specs.PlainText.{Tables}
use Rattle.icu_decimal.specs.Symbols.{Symbols}
use Rattle.icu_decimal.specs.declared.error.DataError.{DataError}
use Rattle.icu_decimal.specs.declared.options.GroupingStrategy.{GroupingStrategy}
use Rattle.icu_locale_core.specs.Subtags.{Text}
use Rattle.icu_locale_core.specs.TagPreferences.{DataLocaleMeaning, Preferences, language_priority}
use Rattle.locale_numbers_book.specs.Book.{BookTables}
use Rattle.locale_numbers_book.specs.FoundFormats.{mapped}
use Rattle.locale_numbers_book.specs.FoundLocale.{AreOfFoundLocale, locale_under}
use Rattle.locale_numbers_book.specs.TagFormatters.{found_plain}
use Rattle.locale_numbers_book.specs.Tables.{chain_in, digits_under, symbols_under}
use Rattle.locale_numbers_tables.specs.Keys.{same_key, table_at}
use Rattle.locale_numbers_tables.proofs.KeyLemmas.{same_keys}

-- ---- the key of an entry

abbrev pub key_locale : Option Identifier → Result DataLocaleMeaning DataError
key_locale key = answered (option_map {T = Identifier} {U = DataLocaleMeaning} (λ k. k.locale) key)

-- the locale of the key that is found is that which is asked for
pub key_found : (id : Identifier) (entries : List (Identifier × Symbols)) → key_locale (lookup_key (same_key id) entries) ≡ mapped (λ symbols. id.locale) (answered (table_at same_key id entries))
key_found id [] = refl
key_found id (entry ∷ entries) = by (same_key id entry.0) (same_keys id entry.0).0 (key_found id entries)
  where
    by : (b : Bool) → (b ≡ true → id ≡ entry.0) → key_locale (lookup_key (same_key id) entries) ≡ mapped (λ symbols. id.locale) (answered (table_at same_key id entries))
        → key_locale (cond b (Some entry.0) (lookup_key (same_key id) entries)) ≡ mapped (λ symbols. id.locale) (answered (if b then Some entry.1 else table_at same_key id entries))
    by true same later = ap (λ (key : Identifier). key_locale (Some key)) (sym (same refl))
    by false same later = later

-- ---- a chain has its locales

contained_later : (y : DataLocaleMeaning) (whole xs : List DataLocaleMeaning) → AllByRecursion (Contains whole) xs → AllByRecursion (Contains (y ∷ whole)) xs
contained_later y whole [] h = tt
contained_later y whole (x ∷ xs) h = ((suc h.0.0, omega (arith, h.0.1), h.0.2), contained_later y whole xs h.1)

contained : (xs : List DataLocaleMeaning) → AllByRecursion (Contains xs) xs
contained [] = tt
contained (x ∷ xs) = ((0, omega arith, refl), contained_later x xs xs (contained xs))

module _ (whole : List DataLocaleMeaning) where
  abbrev AreAlong : List Identifier → Type 0
  AreAlong ids = AllByRecursion (λ id. Contains whole id.locale) ids

  each_along : (attributes : Text) (xs : List DataLocaleMeaning) → AllByRecursion (Contains whole) xs → AreAlong (under_each attributes xs)
  each_along attributes [] h = tt
  each_along attributes (x ∷ xs) h = (h.0, each_along attributes xs h.1)

  both_along : (ids others : List Identifier) → AreAlong ids → AreAlong others → AreAlong (ids ++ others)
  both_along [] others h g = g
  both_along (id ∷ ids) others h g = (h.0, both_along ids others h.1 g)

  all_along : (system : Option Text) (xs : List DataLocaleMeaning) → AllByRecursion (Contains whole) xs → AreAlong (identifiers_along system xs)
  all_along None xs h = each_along [] xs h
  all_along (Some system) xs h = both_along (under_each system xs) (under_each [] xs) (each_along system xs h) (each_along [] xs h)

-- ---- the first that is found

-- symbols are under an identifier, whose locale is found
record IsAt (book : BookTables) (whole : List DataLocaleMeaning) (answer : Result DataLocaleMeaning DataError) (symbols : Symbols) : Type 0 where
  id : Identifier
  under : symbols_under book id ≡ Ok symbols
  found : answer ≡ Ok id.locale
  along : Contains whole id.locale

module _ (book : BookTables) (whole : List DataLocaleMeaning) where
  abbrev locale_or : DataError → List Identifier → Result DataLocaleMeaning DataError
  locale_or otherwise ids = found_or (locale_under book) otherwise ids

  is_at : (otherwise : DataError) (ids : List Identifier) (symbols : Symbols) → AreAlong whole ids → found_or (symbols_under book) otherwise ids ≡ Ok symbols → IsAt book whole (locale_or otherwise ids) symbols
  is_at otherwise [] symbols along is = absurd (cc)
  is_at otherwise (id ∷ ids) symbols along is = by (table_at same_key id book.symbols) refl is (is_at DataError.IdentifierNotFound ids symbols along.1)
    where
      by : (there : Option Symbols) → table_at same_key id book.symbols ≡ there
          → or_next (answered there) (found_or (symbols_under book) DataError.IdentifierNotFound ids) ≡ Ok symbols
          → (found_or (symbols_under book) DataError.IdentifierNotFound ids ≡ Ok symbols → IsAt book whole (locale_or DataError.IdentifierNotFound ids) symbols)
          → IsAt book whole (or_next (locale_under book id) (locale_or DataError.IdentifierNotFound ids)) symbols
      by (Some one) there is later = record {
        id = id;
        under = ap answered there ∙ is;
        found = ap (λ (o : Option Symbols). or_next (mapped (λ (s : Symbols). id.locale) (answered o)) (locale_or DataError.IdentifierNotFound ids)) there;
        along = along.0;
      }
      by None there is later =
          let next = later is in
          record {
            id = next.id;
            under = next.under;
            found = ap (λ (o : Option Symbols). or_next (mapped (λ (s : Symbols). id.locale) (answered o)) (locale_or DataError.IdentifierNotFound ids)) there ∙ next.found;
            along = next.along;
          }

-- ---- with digits

module _ (book : BookTables) (p : Preferences) (strategy : GroupingStrategy) where
  of_digits : (symbols : Symbols) (digits : Result (List ℕ) DataError) (tables : Tables) → with_digits strategy symbols digits ≡ Ok tables → symbols ≡ tables.symbols
  of_digits symbols (Ok digits) tables is = let one : ◌≡◌ {A = Tables} (record { symbols = symbols; digits = digits; strategy = strategy }) tables = cc in ap (λ (t : Tables). t.symbols) one
  of_digits symbols (Err error) tables is = absurd (cc)

  of_symbols : (found : Result Symbols DataError) (tables : Tables) → with_symbols strategy (digits_under book) p found ≡ Ok tables → found ≡ Ok tables.symbols
  of_symbols (Ok symbols) tables is = ap Ok (of_digits symbols (first_found (digits_under book) (digits_identifiers p.numbering_system symbols.strings.numsys)) tables is)
  of_symbols (Err error) tables is = absurd (cc)

pub of_found_locale : (book : BookTables) (preferences : Preferences) (option : Option GroupingStrategy) (tables : Tables)
    → found_plain book preferences option ≡ Ok tables → AreOfFoundLocale book preferences tables.symbols
of_found_locale book preferences option tables is =
    let whole = chain_in book (language_priority preferences.locale) in
    let ids = symbols_identifiers (chain_in book) preferences in
    let at = is_at book whole DataError.InvalidRequest ids tables.symbols (all_along whole preferences.numbering_system whole (contained whole))
    (of_symbols book preferences (strategy_in option) (first_found (symbols_under book) ids) tables is) in
    record { locale = at.id.locale; found = at.found; along = at.along; system = at.id.attributes; under = at.under }
