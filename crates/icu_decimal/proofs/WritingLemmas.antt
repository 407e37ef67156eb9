-- A decimal that became what is shown for it, and what is written for it then.
use Rattle.std.proofs.Common.{◌≡◌, ℕ, ◌++◌, Option, ap, ◌∙◌}
use Rattle.writeable.specs.AnnotatedText.{without_parts}
use Rattle.fixed_decimal.specs.Number.{Number}
use Rattle.fixed_decimal.specs.SignedValue.{SignedValue}
use Rattle.icu_decimal_symbols.specs.Symbols.{Symbols}
use Rattle.icu_decimal_patterns.specs.Pattern.{InPattern, PatternText, interpolated_events}
use Rattle.icu_decimal_plurals.specs.Operands.{operands_of}
use Rattle.icu_decimal_compact_value.specs.Entries.{Rises}
use Rattle.icu_decimal_compact_value.specs.Significand.{Shows}
use Rattle.icu_decimal_plain.specs.Affixes.{WithSign, affixes_of, events_with_sign, prefix_events, suffix_events}
use Rattle.icu_decimal_plain.specs.PlainText.{PlainNumber, unsigned_events}
use Rattle.icu_decimal.specs.CompactTables.{CompactTables}
use Rattle.icu_decimal.specs.CompactText.{compact_decimal_events, compact_events, compact_formatted, value_shown}
use Rattle.icu_decimal.specs.PatternAt.{pattern_at}
use Rattle.icu_decimal.proofs.CompactTextLemmas.{text_in_pattern}
use Rattle.icu_decimal.proofs.ShownLemmas.{shown_is, significand_is}

module _ (t : CompactTables) (d new : SignedValue Number) (x : ℕ) (entry : Option ℕ) (same : new.sign ≡ d.sign) (shows : Shows t.patterns.entries d.absolute (record { significand = new.absolute; exponent = x; entry = entry })) where
  -- it is the significand of the value shown
  pub shown_value_is : new ≡ (value_shown t d).significand
  shown_value_is =
      let absolute = significand_is t.patterns.entries d.absolute (record { significand = new.absolute; exponent = x; entry = entry }) shows in
      λ i. record { sign = same i; absolute = absolute i }

  -- with the pattern of the entry, between the affixes of its sign, it is written as the decimal was
  pub shown_events : (rises : Rises 0 t.patterns.entries) (inside : SignedValue Number) (symbols : Symbols) (n : PlainNumber) (p : Option PatternText) (placed : InPattern PlainNumber) (s : WithSign (InPattern PlainNumber))
      → inside ≡ new → symbols ≡ t.plain.symbols → n ≡ record { number = inside.absolute; tables = t.plain } → p ≡ pattern_at t entry (operands_of inside.absolute 0)
      → placed ≡ record { pattern = p; value = n } → s ≡ record { value = placed; affixes = affixes_of symbols.strings inside.sign }
      → events_with_sign (interpolated_events (λ n. without_parts (unsigned_events n))) s ≡ compact_decimal_events (compact_formatted t d)
  shown_events rises inside symbols n p placed s is symbols_is n_is p_is placed_is s_is =
      let pattern : p ≡ pattern_at t entry (operands_of new.absolute 0) = p_is ∙ ap (λ (v : SignedValue Number). pattern_at t entry (operands_of v.absolute 0)) is in
      let number : n ≡ record { number = new.absolute; tables = t.plain } = n_is ∙ ap (λ (v : SignedValue Number). record { number = v.absolute; tables = t.plain }) is in
      let inner : placed ≡ record { pattern = pattern_at t entry (operands_of new.absolute 0); value = record { number = new.absolute; tables = t.plain } } = placed_is ∙ (λ i. record { pattern = pattern i; value = number i }) in
      let sign : inside.sign ≡ d.sign = ap (λ (v : SignedValue Number). v.sign) is ∙ same in
      let whole : s ≡ record { value = record { pattern = pattern_at t entry (operands_of new.absolute 0); value = record { number = new.absolute; tables = t.plain } }; affixes = affixes_of t.plain.symbols.strings d.sign } =
      s_is ∙ (λ i. record { value = inner i; affixes = affixes_of (symbols_is i).strings (sign i) }) in
      ap (events_with_sign (interpolated_events (λ n. without_parts (unsigned_events n)))) whole
      ∙ ap (λ es. prefix_events (affixes_of t.plain.symbols.strings d.sign) ++ (es ++ suffix_events (affixes_of t.plain.symbols.strings d.sign)))
      (text_in_pattern (pattern_at t entry (operands_of new.absolute 0)) (record { number = new.absolute; tables = t.plain })
      ∙ ap compact_events (shown_is t d.absolute (record { significand = new.absolute; exponent = x; entry = entry }) rises shows))
