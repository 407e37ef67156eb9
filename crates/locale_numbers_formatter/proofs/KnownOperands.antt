-- Values from outside that a wrong definition of the operands shown does not survive: rows of docs/plurals.md, "Numbers as they are shown".
use Rattle.std.proofs.Common.{◌≡◌, ℕ, suc, ◌+◌, ◌-◌, ◌*◌, ◌^◌, ◌<◌, ◌≤◌, cond, max, nat_lt, List, [], ◌∷◌, Option, None, Some, refl, ap, ◌∙◌, codes, lit≤}
use Rattle.fixed_decimal.specs.Number.{Number}
use Rattle.fixed_decimal.specs.Rounding.{count_limit}
use Rattle.fixed_decimal.specs.SignedValue.{SignedValue}
use Rattle.fixed_decimal.specs.declared.Sign.TheVariants.{None as NoSign, Negative}
use Rattle.icu_decimal.specs.CompactTables.{CompactTables}
use Rattle.icu_decimal.specs.CompactText.{lowest_place}
use Rattle.icu_decimal.specs.Elements.{only_other}
use Rattle.icu_decimal.specs.KeptEntries.{TypePatterns, table_of}
use Rattle.icu_decimal.specs.Operands.{Operands, operands_of}
use Rattle.icu_decimal.specs.Pattern.{around}
use Rattle.icu_decimal.specs.PlainText.{Tables}
use Rattle.icu_decimal.specs.ShownChoice.{Choice, entry_at, exponent_place, is_carried_to, next_at, under}
use Rattle.icu_decimal.specs.ShownValue.{even_count, top, unit_place}
use Rattle.icu_decimal.specs.Significand.{plain_one}
use Rattle.icu_decimal.specs.Symbols.{english_symbols}
use Rattle.icu_decimal.specs.declared.options.GroupingStrategy.TheVariants.{Auto}
use Rattle.icu_decimal_compact_value.specs.declared.entry.CompactEntry.{CompactEntry}
use Rattle.icu_decimal_compact_value.proofs.MagnitudeLemmas.{magnitude_unique, top_unique}
use Rattle.locale_numbers_formatter.specs.FormatText.{compact_tables, plain_tables}
use Rattle.locale_numbers_formatter.specs.ShownOperands.{shown_operands}

abbrev pub seen : ℕ → ℕ → ℕ → ℕ → ℕ → ℕ → Operands
seen i v f t w c = record { i = i; v = v; f = f; t = t; w = w; c = c }

abbrev decimals : Tables
decimals = record { symbols = english_symbols; digits = codes "0123456789"; strategy = Auto }

-- ---- numbers that are shown as they are

one_seen : shown_operands (plain_tables decimals) (record { sign = NoSign; absolute = record { count = 10 ^ 32768; low = 32768; high = 32768 } }) ≡ Some (seen 1 0 0 0 0 0)
one_seen = refl

-- 1.0, and -1.50
tenths_seen : shown_operands (plain_tables decimals) (record { sign = NoSign; absolute = record { count = 10 ^ 32768; low = 32767; high = 32768 } }) ≡ Some (seen 1 1 0 0 0 0)
tenths_seen = refl

sign_unseen : shown_operands (plain_tables decimals) (record { sign = Negative; absolute = record { count = 15 * 10 ^ 32767; low = 32766; high = 32768 } }) ≡ Some (seen 1 2 50 5 1 0)
sign_unseen = refl

-- ---- compact numbers, by the places of the first digits of the number and of what is shown

abbrev value_at : List CompactEntry → ℕ → ℕ → ℕ
value_at entries count k = let u = 10 ^ unit_place (exponent_place 32768 entries) k in even_count u count * u

abbrev choice_at : List CompactEntry → ℕ → ℕ → Choice
choice_at entries count k =
    under (value_at entries count k) (cond (is_carried_to 32768 entries k (value_at entries count k)) (next_at 32768 entries k) (entry_at 32768 entries k))

abbrev significand_at : List CompactEntry → Number → ℕ → ℕ → Number
significand_at entries number k j =
    let c = choice_at entries number.count k in
    cond (is_carried_to 32768 entries k (value_at entries number.count k)) plain_one
    (record { count = c.count; low = lowest_place 32768 c.count; high = max (max 32768 (number.high - c.exponent)) j })

abbrev operands_at : List CompactEntry → Number → ℕ → ℕ → Option Operands
operands_at entries number k j =
    cond (nat_lt (value_at entries number.count k) count_limit)
    (Some (operands_of (significand_at entries number k j) (choice_at entries number.count k).exponent)) None

seen_at : (t : CompactTables) (d : SignedValue Number) (k j : ℕ) → 10 ^ k ≤ d.absolute.count → d.absolute.count < 10 ^ suc k
    → 10 ^ j ≤ (choice_at t.patterns.entries d.absolute.count k).count → (choice_at t.patterns.entries d.absolute.count k).count < 10 ^ suc j
    → shown_operands (compact_tables t) d ≡ operands_at t.patterns.entries d.absolute k j
seen_at t d k j reaches below reaches_too below_too =
    ap (λ m. operands_at t.patterns.entries d.absolute m (top (choice_at t.patterns.entries d.absolute.count m).count))
    (magnitude_unique 32768 d.absolute.count k (record { reaches = reaches; below = below }))
    ∙ ap (λ m. operands_at t.patterns.entries d.absolute k m)
    (top_unique (choice_at t.patterns.entries d.absolute.count k).count j (record { reaches = reaches_too; below = below_too }))

abbrev of_type : ℕ → List ℕ → TypePatterns
of_type place suffix = record { log10_type = place; exponent = place; patterns = only_other (around [] suffix) }

-- `K` from thousands on, `M` from millions on
abbrev pub short : CompactTables
short = record {
  plain = decimals;
  rules = record { zero = None; one = None; two = None; few = None; many = None };
  patterns = table_of (of_type 3 (codes "K") ∷ of_type 6 (codes "M") ∷ []);
}

abbrev pub whole : ℕ → ℕ → SignedValue Number
whole n digits = record { sign = NoSign; absolute = record { count = n * 10 ^ 32768; low = 32768; high = 32767 + digits } }

-- 1650 is shown as 1.6 thousands
pub tie_seen : shown_operands (compact_tables short) (whole 1650 4) ≡ Some (seen 1600 0 0 0 0 3)
unfolding count_limit lowest_place
tie_seen = seen_at short (whole 1650 4) 32771 32768 (lit≤ tt) (lit≤ tt) (lit≤ tt) (lit≤ tt)

-- a million, and 999500, as 1 with the exponent 6
pub million_seen : shown_operands (compact_tables short) (whole 1000000 7) ≡ Some (seen 1000000 0 0 0 0 6)
unfolding count_limit lowest_place
million_seen = seen_at short (whole 1000000 7) 32774 32768 (lit≤ tt) (lit≤ tt) (lit≤ tt) (lit≤ tt)

carried_seen : shown_operands (compact_tables short) (whole 999500 6) ≡ Some (seen 1000000 0 0 0 0 6)
unfolding count_limit lowest_place
carried_seen = seen_at short (whole 999500 6) 32773 32768 (lit≤ tt) (lit≤ tt) (lit≤ tt) (lit≤ tt)

-- 0.2222 has no pattern, and two digits
fraction_seen : shown_operands (compact_tables short) (record { sign = NoSign; absolute = record { count = 2222 * 10 ^ 32764; low = 32764; high = 32768 } }) ≡ Some (seen 0 2 22 22 2 0)
unfolding count_limit lowest_place
fraction_seen = seen_at short (record { sign = NoSign; absolute = record { count = 2222 * 10 ^ 32764; low = 32764; high = 32768 } }) 32767 32767 (lit≤ tt) (lit≤ tt) (lit≤ tt) (lit≤ tt)
