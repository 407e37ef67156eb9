-- The fields of own symbols, as those of an entry of symbols: `specs/OwnSymbols.antt`.
use Rattle.std.proofs.Common.{◌≡◌, ℕ, suc, ◌+◌, ◌==◌, [], Option, refl, ap, arith}
use Rattle.std.specs.Prelude.{option_and_then}
use Rattle.std.proofs.lemmas.Bool.Decides.{nat_tests}
use Rattle.serde_json.specs.Data.{Data, Items, no_items, item, null, boolean, number, string, array, object}
use Rattle.serde_json.specs.Find.{get_item}
use Rattle.locale_numbers_tables.specs.Entries.{count_of_items, field_at, has_count}
use Rattle.locale_numbers_units.specs.OwnSymbols.{as_entry}

two_on : (n : ℕ) (a b : Data) (ds : Items) → get_item (2 + n) (item a (item b ds)) ≡ get_item n ds
two_on n a b ds = let both : 2 + n ≡ suc (suc n) = omega arith in ap (λ m. get_item m (item a (item b ds))) both

-- a field is two places further on
pub shifted : {T : Type 0} (read : Data → Option T) (n : ℕ) (own : Data) → field_at read (2 + n) (as_entry own) ≡ field_at read n own
shifted read n null = ap (option_and_then read) (two_on n (string []) (string []) no_items)
shifted read n (boolean b) = ap (option_and_then read) (two_on n (string []) (string []) no_items)
shifted read n (number x) = ap (option_and_then read) (two_on n (string []) (string []) no_items)
shifted read n (string s) = ap (option_and_then read) (two_on n (string []) (string []) no_items)
shifted read n (array ds) = ap (option_and_then read) (two_on n (string []) (string []) ds)
shifted read n (object ms) = ap (option_and_then read) (two_on n (string []) (string []) no_items)

two_more : (c : ℕ) → ((1 + (1 + c)) == 12) ≡ (c == 10)
two_more c = grind (arith, nat_tests)

-- and there are two more
pub counted : (own : Data) → has_count 12 (as_entry own) ≡ has_count 10 own
counted null = refl
counted (boolean b) = refl
counted (number x) = refl
counted (string s) = refl
counted (array ds) = two_more (count_of_items ds)
counted (object ms) = refl
