-- The text of a number in a pattern, and of the affixes around it.
use Rattle.std.proofs.Common.{◌≡◌, ℕ, List, ◌++◌, Option, None, Some, is_none, option_map, true, refl, sym, ap, ◌∙◌}
use Rattle.writeable.specs.AnnotatedText.{Event, bytes, text_of, without_parts}
use Rattle.writeable.proofs.AnnotatedTextLemmas.{bytes_joined, text_of_bytes}
use Rattle.fixed_decimal.specs.Number.{Number}
use Rattle.fixed_decimal.specs.SignedValue.{SignedValue}
use Rattle.icu_decimal_compact_value.specs.declared.entry.CompactEntry.{CompactEntry}
use Rattle.icu_decimal_compact_value.specs.Choice.{exact_entry}
use Rattle.icu_decimal_patterns.specs.Pattern.{InPattern, PatternText, literal, around, optional_events}
use Rattle.icu_decimal_plurals.specs.Operands.{operands_of}
use Rattle.icu_decimal_plain.specs.Affixes.{AffixTexts, WithSign, affixes_of, prefix_events, suffix_events}
use Rattle.icu_decimal_plain.specs.PlainText.{PlainNumber, prefix_text, suffix_text, unsigned_events, unsigned_text}
use Rattle.icu_decimal_plain.proofs.TextLemmas.{text_in_unit, text_with_sign, unsigned_is_text}
use Rattle.icu_decimal.specs.CompactTables.{CompactTables}
use Rattle.icu_decimal.specs.CompactText.{compact_decimal_events, compact_decimal_text, compact_formatted, compact_of, compact_text, pattern_of, text_in}
use Rattle.icu_decimal.specs.ExactText.{exact_events, exact_formatted, exact_text, written_text, written_under}

bytes_in : (p : Option PatternText) (text : List ℕ) → optional_events p (bytes text) ≡ bytes (text_in p text)
bytes_in None text = refl
bytes_in (Some (literal other)) text = refl
bytes_in (Some (around before after)) text =
    sym (bytes_joined before (text ++ after) ∙ ap (λ es. bytes before ++ es) (bytes_joined text after))

-- a number without its parts in a pattern writes the compact text
pub text_in_pattern : (p : Option PatternText) (n : PlainNumber) → optional_events p (without_parts (unsigned_events n)) ≡ bytes (text_in p (unsigned_text n.tables n.number))
text_in_pattern p n = ap (λ text. optional_events p (bytes text)) (unsigned_is_text n) ∙ bytes_in p (unsigned_text n.tables n.number)

-- and the affixes are around it
pub compact_is_text : (t : CompactTables) (d : SignedValue Number) → text_of (compact_decimal_events (compact_formatted t d)) ≡ compact_decimal_text t d
compact_is_text t d =
    let text : List ℕ = compact_text (compact_of t d.absolute) in
    text_with_sign (affixes_of t.plain.symbols.strings d.sign) (bytes text) text (text_of_bytes text)

-- a text before it and one after it, and the affixes around all three
pub unit_is_text : (affixes : Option AffixTexts) (before behind : List ℕ) (es : List Event) (text : List ℕ) → text_of es ≡ text → text_of (prefix_events affixes ++ ((bytes before ++ (es ++ bytes behind)) ++ suffix_events affixes)) ≡ prefix_text affixes ++ ((before ++ (text ++ behind)) ++ suffix_text affixes)
unit_is_text affixes before behind es text same =
    text_with_sign affixes (bytes before ++ (es ++ bytes behind)) (before ++ (text ++ behind)) (text_in_unit before behind es text same)

-- Exact forms, with their parts.

number_in : (p : Option PatternText) (n : PlainNumber) → text_of (optional_events p (unsigned_events n)) ≡ text_in p (unsigned_text n.tables n.number)
number_in None n = unsigned_is_text n
number_in (Some (literal text)) n = text_of_bytes text
number_in (Some (around before after)) n = text_in_unit before after (unsigned_events n) (unsigned_text n.tables n.number) (unsigned_is_text n)

pub under_is_text : (t : CompactTables) (d : SignedValue Number) (entry : Option CompactEntry) → text_of (exact_events (written_under t d entry)) ≡ written_text t d entry
under_is_text t d entry =
    let p = pattern_of t entry (operands_of d.absolute 0) in
    let n : PlainNumber = record { number = d.absolute; tables = t.plain } in
    text_with_sign (affixes_of t.plain.symbols.strings d.sign) (optional_events p (unsigned_events n)) (text_in p (unsigned_text t.plain d.absolute)) (number_in p n)

module _ {A B C : Type 0} (f : A → B) (g : A → C) (h : B → C) where
  mapped_twice : ((a : A) → h (f a) ≡ g a) → (found : Option A) → option_map g found ≡ option_map h (option_map f found)
  mapped_twice same None = refl
  mapped_twice same (Some a) = ap Some (sym (same a))

  none_mapped : (found : Option B) → is_none found ≡ true → option_map h found ≡ None
  none_mapped None is = refl
  none_mapped (Some b) is = absurd (cc)

-- the text of an exact form is that of its events
pub exact_is_text : (t : CompactTables) (d : SignedValue Number) (x : ℕ) → exact_text t d x ≡ option_map (λ shown. text_of (exact_events shown)) (exact_formatted t d x)
exact_is_text t d x =
    mapped_twice (written_under t d) (written_text t d) (λ shown. text_of (exact_events shown)) (under_is_text t d) (exact_entry 32768 t.patterns.entries d.absolute.count x)

-- of one that is written
pub exact_text_is : (t : CompactTables) (d : SignedValue Number) (x : ℕ) (shown : WithSign (InPattern PlainNumber)) → exact_formatted t d x ≡ Some shown → exact_text t d x ≡ Some (text_of (exact_events shown))
exact_text_is t d x shown is = exact_is_text t d x ∙ ap (option_map (λ (s : WithSign (InPattern PlainNumber)). text_of (exact_events s))) is

-- and of one that is refused there is none
pub no_exact_text : (t : CompactTables) (d : SignedValue Number) (x : ℕ) → is_none (exact_formatted t d x) ≡ true → exact_text t d x ≡ None
no_exact_text t d x is = exact_is_text t d x ∙ none_mapped (written_under t d) (written_text t d) (λ shown. text_of (exact_events shown)) (exact_formatted t d x) is
