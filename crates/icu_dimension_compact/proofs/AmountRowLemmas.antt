-- What is shown for an amount whose first digit is at a place that is given. Known values use it, since no digit is then looked for.
use Rattle.std.proofs.Common.{◌≡◌, ℕ, suc, ◌-◌, ◌*◌, ◌^◌, ◌<◌, ◌≤◌, Bool, cond, max, List, ap, ◌∙◌}
use Rattle.fixed_decimal.specs.Number.{Number}
use Rattle.fixed_decimal.specs.SignedValue.{SignedValue}
use Rattle.icu_decimal_compact_value.specs.declared.entry.CompactEntry.{CompactEntry}
use Rattle.icu_decimal_compact_value.specs.Choice.{Choice, entry_at, exponent_place, is_carried_to, next_at, under}
use Rattle.icu_decimal_compact_value.specs.ShownValue.{even_count, top, unit_place}
use Rattle.icu_decimal_compact_value.specs.Significand.{plain_one}
use Rattle.icu_decimal_compact_value.proofs.MagnitudeLemmas.{magnitude_unique, top_unique}
use Rattle.icu_decimal_plurals.specs.Operands.{operands_of}
use Rattle.icu_decimal.specs.CompactText.{lowest_place}
use Rattle.icu_dimension_compact.specs.CompactAmounts.{AmountSettings, ShownAmount, amount_of, amount_text, settings_under}

-- the value shown for a count whose first digit is at the place k
abbrev pub value_at : List CompactEntry → ℕ → ℕ → ℕ
value_at entries count k = let u = 10 ^ unit_place (exponent_place 32768 entries) k in even_count u count * u

abbrev pub carried_at : List CompactEntry → ℕ → ℕ → Bool
carried_at entries count k = is_carried_to 32768 entries k (value_at entries count k)

abbrev pub choice_at : List CompactEntry → ℕ → ℕ → Choice
choice_at entries count k =
    under (value_at entries count k) (cond (carried_at entries count k) (next_at 32768 entries k) (entry_at 32768 entries k))

-- the significand, where its own first digit is at the place j
abbrev pub significand_at : List CompactEntry → Number → ℕ → ℕ → Number
significand_at entries number k j =
    let c = choice_at entries number.count k in
    cond (carried_at entries number.count k) plain_one
    (record { count = c.count; low = lowest_place 32768 c.count; high = max (max 32768 (number.high - c.exponent)) j })

abbrev pub amount_at : AmountSettings → SignedValue Number → ℕ → ℕ → ShownAmount
amount_at s d k j =
    let c = choice_at s.table.entries d.absolute.count k in
    let significand = significand_at s.table.entries d.absolute k j in
    record {
      value = record { significand = record { sign = d.sign; absolute = significand }; exponent = c.exponent };
      settings = settings_under s c.entry (operands_of significand 0);
    }

-- the text of what is shown, and the exponent
abbrev pub said : ShownAmount → List ℕ × ℕ
said a = (amount_text a, a.value.exponent)

-- with the places at which the first digits are, that is what is shown
pub said_at : (s : AmountSettings) (d : SignedValue Number) (k j : ℕ) → 10 ^ k ≤ d.absolute.count → d.absolute.count < 10 ^ suc k
    → 10 ^ j ≤ (choice_at s.table.entries d.absolute.count k).count → (choice_at s.table.entries d.absolute.count k).count < 10 ^ suc j
    → said (amount_of s d) ≡ said (amount_at s d k j)
said_at s d k j reaches below reaches_too below_too =
    ap (λ m. said (amount_at s d m (top (choice_at s.table.entries d.absolute.count m).count))) (magnitude_unique 32768 d.absolute.count k (record { reaches = reaches; below = below }))
    ∙ ap (λ m. said (amount_at s d k m)) (top_unique (choice_at s.table.entries d.absolute.count k).count j (record { reaches = reaches_too; below = below_too }))
