-- Tables of English, and numbers, that known values are about.
use Rattle.std.proofs.Common.{ℕ, ◌+◌, ◌*◌, ◌^◌, false, List, [], ◌∷◌, None, Some, codes}
use Rattle.fixed_decimal.specs.Number.{Number}
use Rattle.icu_decimal_patterns.specs.Elements.{only_other, with_explicit_one}
use Rattle.icu_decimal_patterns.specs.KeptEntries.{Patterns}
use Rattle.icu_decimal_patterns.specs.Pattern.{literal, around}
use Rattle.icu_decimal_plurals.specs.declared.operand.Operand.{Operand}
use Rattle.icu_decimal_plurals.specs.declared.operand.Operand.TheVariants as operand
use Rattle.icu_decimal_plurals.specs.Conditions.{RelationData}
use Rattle.icu_decimal_plurals.specs.Rules.{Rules}
use Rattle.icu_decimal_symbols.specs.declared.options.GroupingStrategy.{GroupingStrategy}
use Rattle.icu_decimal_symbols.specs.declared.options.GroupingStrategy.TheVariants.{Auto, Never}
use Rattle.icu_decimal_symbols.specs.Symbols.{english_symbols}
use Rattle.icu_decimal_compact_value.specs.declared.entry.CompactEntry.{CompactEntry}
use Rattle.icu_decimal_plain.specs.PlainText.{Tables}
use Rattle.icu_decimal.specs.CompactTables.{CompactTables}

-- what is written with in English
abbrev pub english : GroupingStrategy → Tables
english strategy = record { symbols = english_symbols; digits = codes "0123456789"; strategy = strategy }

abbrev pub is_number : Operand → ℕ → RelationData
is_number o n = record { operand = o; modulus = None; is_denied = false; intervals = record { low = n; high = n } ∷ [] }

-- one: i = 1 and v = 0
abbrev pub rules : Rules
rules = record { zero = None; one = Some ((is_number operand.I 1 ∷ is_number operand.V 0 ∷ []) ∷ []); two = None; few = None; many = None }

abbrev pub typed : ℕ → ℕ → CompactEntry
typed log10_type exponent = record { log10_type = log10_type; exponent = exponent }

abbrev pub letter : List ℕ → Patterns
letter text = only_other (around [] text)

abbrev pub with_table : GroupingStrategy → List CompactEntry → List Patterns → CompactTables
with_table strategy entries patterns = record { plain = english strategy; rules = rules; patterns = record { entries = entries; patterns = patterns } }

abbrev pub short : CompactTables
short = with_table Auto (typed 3 3 ∷ typed 6 6 ∷ []) (letter (codes "K") ∷ letter (codes "M") ∷ [])

-- a whole number that is shown with so many digits
abbrev pub whole : ℕ → ℕ → Number
whole n digits = record { count = n * 10 ^ 32768; low = 32768; high = 32767 + digits }

-- 0.2222 and 0.996
abbrev pub small : Number
small = record { count = 2222 * 10 ^ 32764; low = 32764; high = 32768 }

abbrev pub almost_one : Number
almost_one = record { count = 996 * 10 ^ 32765; low = 32765; high = 32768 }

-- of types 3 and 6 that are both `K` the first is kept
abbrev pub same_letter : CompactTables
same_letter = with_table Auto (typed 3 3 ∷ []) (letter (codes "K") ∷ [])

-- types 3 and 7 with the exponents 3 and 6; types 3 and 5, both with the exponent 3; type 20 with the exponent 5; type 3 with 0
abbrev pub apart : CompactTables
apart = with_table Auto (typed 3 3 ∷ typed 7 6 ∷ []) (letter (codes "K") ∷ letter (codes "M") ∷ [])

abbrev pub close : CompactTables
close = with_table Auto (typed 3 3 ∷ typed 5 3 ∷ []) (letter (codes "K") ∷ letter (codes "k") ∷ [])

abbrev pub wide : CompactTables
wide = with_table Auto (typed 20 5 ∷ []) (letter (codes "J") ∷ [])

abbrev pub low : CompactTables
low = with_table Auto (typed 3 0 ∷ []) (letter (codes "K") ∷ [])

-- the long form, of type 3 alone
abbrev pub long : CompactTables
long = with_table Never (typed 3 3 ∷ []) (with_explicit_one (letter (codes "-thousands")) (Some (literal (codes "a thousand"))) ∷ [])
