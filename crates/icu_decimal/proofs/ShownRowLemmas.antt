-- What is shown for a number whose first digit is at a place that is given. Known values use it, since no digit is then looked for.
use Rattle.std.proofs.Common.{◌≡◌, ℕ, suc, ◌+◌, ◌-◌, ◌*◌, ◌^◌, ◌==◌, ◌<◌, ◌≤◌, Bool, cond, max, List, Option, None, Some, option_map, ap, ◌∙◌}
use Rattle.fixed_decimal.specs.Number.{Number}
use Rattle.fixed_decimal.specs.SignedValue.{SignedValue}
use Rattle.icu_decimal_plurals.specs.Operands.{operands_of}
use Rattle.icu_decimal_compact_value.specs.declared.entry.CompactEntry.{CompactEntry}
use Rattle.icu_decimal_compact_value.specs.Choice.{Choice, entry_at, exponent_of, exponent_place, is_carried_to, next_at, under}
use Rattle.icu_decimal_compact_value.specs.ShownValue.{even_count, top, unit_place}
use Rattle.icu_decimal_compact_value.specs.Significand.{plain_one}
use Rattle.icu_decimal_compact_value.proofs.MagnitudeLemmas.{magnitude_unique, top_unique}
use Rattle.icu_decimal.specs.CompactTables.{CompactTables}
use Rattle.icu_decimal.specs.CompactText.{CompactNumber, compact_of, compact_text, lowest_place, pattern_of}
use Rattle.icu_decimal.specs.ExactText.{exact_formatted, exact_text, written_text, written_under}

-- the value shown for a count whose first digit is at the place k
abbrev pub value_at : List CompactEntry → ℕ → ℕ → ℕ
value_at entries count k = let u = 10 ^ unit_place (exponent_place 32768 entries) k in even_count u count * u

abbrev pub carried_at : List CompactEntry → ℕ → ℕ → Bool
carried_at entries count k = is_carried_to 32768 entries k (value_at entries count k)

abbrev pub choice_at : List CompactEntry → ℕ → ℕ → Choice
choice_at entries count k =
    under (value_at entries count k) (cond (carried_at entries count k) (next_at 32768 entries k) (entry_at 32768 entries k))

-- the significand, where its own first digit is at the place j
abbrev pub significand_at : List CompactEntry → Number → ℕ → ℕ → Number
significand_at entries number k j =
    let c = choice_at entries number.count k in
    cond (carried_at entries number.count k) plain_one
    (record { count = c.count; low = lowest_place 32768 c.count; high = max (max 32768 (number.high - c.exponent)) j })

abbrev pub compact_at : CompactTables → Number → ℕ → ℕ → CompactNumber
compact_at t number k j =
    let entries = t.patterns.entries in
    let c = choice_at entries number.count k in
    let significand = significand_at entries number k j in
    record {
      plain = record { number = significand; tables = t.plain };
      exponent = c.exponent;
      pattern = pattern_of t c.entry (operands_of significand 0);
    }

-- with the places at which the first digits are, that is what is shown
pub shown_at : (t : CompactTables) (number : Number) (k j : ℕ) → 10 ^ k ≤ number.count → number.count < 10 ^ suc k
    → 10 ^ j ≤ (choice_at t.patterns.entries number.count k).count → (choice_at t.patterns.entries number.count k).count < 10 ^ suc j
    → compact_of t number ≡ compact_at t number k j
shown_at t number k j reaches below reaches_too below_too =
    ap (λ m. compact_at t number m (top (choice_at t.patterns.entries number.count m).count)) (magnitude_unique 32768 number.count k (record { reaches = reaches; below = below }))
    ∙ ap (λ m. compact_at t number k m) (top_unique (choice_at t.patterns.entries number.count k).count j (record { reaches = reaches_too; below = below_too }))

-- the text of what is shown, and the exponent
abbrev pub said : CompactNumber → List ℕ × ℕ
said c = (compact_text c, c.exponent)

pub said_at : (t : CompactTables) (number : Number) (k j : ℕ) → 10 ^ k ≤ number.count → number.count < 10 ^ suc k
    → 10 ^ j ≤ (choice_at t.patterns.entries number.count k).count → (choice_at t.patterns.entries number.count k).count < 10 ^ suc j
    → said (compact_of t number) ≡ said (compact_at t number k j)
said_at t number k j reaches below reaches_too below_too = ap said (shown_at t number k j reaches below reaches_too below_too)

-- the entry of an exact form whose significand has its first digit at the place k
abbrev pub entry_at_place : CompactTables → ℕ → ℕ → Option (Option CompactEntry)
entry_at_place t x k =
    let entry = entry_at 32768 t.patterns.entries (k + x) in
    cond (exponent_of entry == x) (Some entry) None

pub written_at_place : (t : CompactTables) (d : SignedValue Number) (x k : ℕ) → 10 ^ k ≤ d.absolute.count → d.absolute.count < 10 ^ suc k → exact_formatted t d x ≡ option_map (written_under t d) (entry_at_place t x k)
written_at_place t d x k reaches below = ap (λ m. option_map (written_under t d) (entry_at_place t x m)) (magnitude_unique 32768 d.absolute.count k (record { reaches = reaches; below = below }))

pub text_at_place : (t : CompactTables) (d : SignedValue Number) (x k : ℕ) → 10 ^ k ≤ d.absolute.count → d.absolute.count < 10 ^ suc k → exact_text t d x ≡ option_map (written_text t d) (entry_at_place t x k)
text_at_place t d x k reaches below = ap (λ m. option_map (written_text t d) (entry_at_place t x m)) (magnitude_unique 32768 d.absolute.count k (record { reaches = reaches; below = below }))
