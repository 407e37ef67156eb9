-- What is shown for an amount is what its definition names, and what it writes is the text of the definition.
use Rattle.std.proofs.Common.{◌≡◌, ℕ, List, Option, None, Some, refl, sym, ap, ◌∙◌, subst}
use Rattle.writeable.specs.AnnotatedText.{text_of}
use Rattle.fixed_decimal.specs.Number.{Number}
use Rattle.fixed_decimal.specs.SignedValue.{SignedValue}
use Rattle.fixed_decimal.specs.declared.Sign.{Sign}
use Rattle.icu_decimal_compact_value.specs.declared.entry.CompactEntry.{CompactEntry}
use Rattle.icu_decimal_compact_value.specs.Choice.{chosen, entry_of}
use Rattle.icu_decimal_compact_value.specs.Significand.{ShownNumber, Shows}
use Rattle.icu_decimal_patterns.specs.Elements.{Elements, slot_of}
use Rattle.icu_decimal_plain.specs.PlainText.{Tables}
use Rattle.icu_decimal_plurals.specs.Operands.{Operands, operands_of}
use Rattle.icu_decimal.specs.CompactText.{significand_of}
use Rattle.icu_decimal.proofs.ShownLemmas.{significand_is}
use Rattle.icu_dimension_affixes.specs.UnitPatterns.{PatternChoice, PatternTexts, chosen as chosen_pattern}
use Rattle.icu_dimension_affixes.specs.UnitText.{UnitName, UnitSettings, unit_decimal_text}
use Rattle.icu_dimension_affixes.proofs.UnitTextLemmas.{unit_is_text}
use Rattle.icu_dimension_compact.specs.AmountTables.{AmountPatterns, patterns_of}
use Rattle.icu_dimension_compact.specs.CompactAmounts.{AmountSettings, ShownAmount, amount_of, pattern_in, settings_under}
use Rattle.icu_dimension_compact.specs.CompactAmountLaws.{AmountIsText, AmountsShowWhatCompactShows, PatternlessIsPlain}

-- what a number that is shown so is written as
abbrev pub made_of : AmountSettings → Sign → ShownNumber → ShownAmount
made_of s sign n = record {
  value = record { significand = record { sign = sign; absolute = n.significand }; exponent = n.exponent };
  settings = settings_under s (entry_of s.table.entries n.entry) (operands_of n.significand 0);
}

pub shown_is : (s : AmountSettings) (d : SignedValue Number) (n : ShownNumber) → Shows s.table.entries d.absolute n → made_of s d.sign n ≡ amount_of s d
shown_is s d n shows =
    let significand : n.significand ≡ significand_of s.table.entries d.absolute = significand_is s.table.entries d.absolute n shows in
    let exponent : n.exponent ≡ (chosen 32768 s.table.entries d.absolute.count).exponent = sym (ap (λ c. c.exponent) shows.choice) in
    let entry : entry_of s.table.entries n.entry ≡ (chosen 32768 s.table.entries d.absolute.count).entry = sym (ap (λ c. c.entry) shows.choice) in
    λ i. record {
      value = record { significand = record { sign = d.sign; absolute = significand i }; exponent = exponent i };
      settings = settings_under s (entry i) (operands_of (significand i) 0);
    }

-- with the number and its sign as they are held
pub made_is : (s : AmountSettings) (d : SignedValue Number) (sign : Sign) (absolute : Number) (entries : List CompactEntry) (inside shown : ShownNumber) (settings : UnitSettings) (made : ShownAmount)
    → made ≡ record { value = record { significand = record { sign = sign; absolute = inside.significand }; exponent = inside.exponent }; settings = settings }
    → settings ≡ settings_under s (entry_of s.table.entries inside.entry) (operands_of inside.significand 0)
    → inside ≡ shown → record { sign = sign; absolute = absolute } ≡ d → entries ≡ s.table.entries → Shows entries absolute shown → made ≡ amount_of s d
made_is s d sign absolute entries inside shown settings made is with_settings same whole tables shows =
    let number : SignedValue Number = record { sign = sign; absolute = absolute } in
    is
    ∙ ap (λ (u : UnitSettings). record { value = record { significand = record { sign = sign; absolute = inside.significand }; exponent = inside.exponent }; settings = u }) with_settings
    ∙ ap (λ n. made_of s sign n) same
    ∙ shown_is s number shown (subst (λ xs. Shows xs absolute shown) tables shows)
    ∙ ap (λ n. amount_of s n) whole

-- what a number is written with, where the entry has patterns
pub under_is : (s : AmountSettings) (entry : Option CompactEntry) (o : Operands) (tables : Tables) (pattern : PatternTexts) (unit : UnitName)
    (patterns : Elements PatternChoice) (choice : PatternChoice) (made : UnitSettings)
    → made ≡ record { tables = tables; pattern = pattern; unit = unit } → tables ≡ s.plain.tables → pattern ≡ chosen_pattern choice s.ends
    → choice ≡ slot_of patterns s.rules o → Some patterns ≡ patterns_of s.table entry → unit ≡ s.plain.unit → made ≡ settings_under s entry o
under_is s entry o tables pattern unit patterns choice made is same_tables of_choice slot found same_unit =
    let same_pattern : pattern ≡ pattern_in s.plain.pattern (patterns_of s.table entry) s.ends s.rules o =
    of_choice
    ∙ ap (λ (c : PatternChoice). chosen_pattern c s.ends) slot
    ∙ ap (λ (p : AmountPatterns). pattern_in s.plain.pattern p s.ends s.rules o) found in
    is ∙ (λ i. record { tables = same_tables i; pattern = same_pattern i; unit = same_unit i })

pub same_value : AmountsShowWhatCompactShows
same_value t s d same =
    λ i. record {
      significand = record { sign = d.sign; absolute = significand_of (sym same i) d.absolute };
      exponent = (chosen 32768 (sym same i) d.absolute.count).exponent;
    }

pub amount_is_text : AmountIsText
amount_is_text s d = unit_is_text (amount_of s d).settings (amount_of s d).value.significand

pub patternless : PatternlessIsPlain
patternless s d none =
    let significand = significand_of s.table.entries d.absolute in
    ap (λ p. unit_decimal_text (record { tables = s.plain.tables; pattern = pattern_in s.plain.pattern p s.ends s.rules (operands_of significand 0); unit = s.plain.unit }) (record { sign = d.sign; absolute = significand })) none
