-- Exact forms by layers, and the text of events.
use Rattle.std.proofs.Common.{◌≡◌, ◌==◌, Bool, true, false, cond, List, ◌++◌, Option, None, Some, option_map, refl, sym, ap, ◌∙◌}
use Rattle.writeable.specs.AnnotatedText.{Event, text_of}
use Rattle.fixed_decimal.specs.CompactText.{CompactValue}
use Rattle.fixed_decimal.specs.Number.{Number}
use Rattle.fixed_decimal.specs.SignedValue.{SignedValue}
use Rattle.icu_decimal.specs.Affixes.{affixes_of, prefix_events, suffix_events}
use Rattle.icu_decimal.specs.CompactLaws.{ExactTextIsOfEvents}
use Rattle.icu_decimal.specs.CompactTables.{CompactTables}
use Rattle.icu_decimal.specs.CompactText.{pattern_of}
use Rattle.icu_decimal.specs.ExactText.{exact_events, exact_formatted, written_text, written_under}
use Rattle.icu_decimal.specs.Operands.{operands_of}
use Rattle.icu_decimal.specs.PlainText.{prefix_text, suffix_text, unsigned_events, unsigned_text}
use Rattle.icu_decimal.specs.ShownChoice.{exact_entry, exponent_of}
use Rattle.icu_decimal.specs.TextLaws.{DecimalIsText}
use Rattle.icu_decimal.specs.declared.provider.CompactEntry.{CompactEntry}
use Rattle.icu_decimal_scientific.specs.ScientificTextLaws.{ScientificIsText}
use Rattle.icu_dimension.specs.UnitTextLaws.{UnitIsText}
use Rattle.icu_decimal.proofs.CompactTextLemmas.{compact_is_text, under_is_text}
use Rattle.locale_numbers_formats.specs.declared.options.NumberOptions.{NumberOptions}
use Rattle.locale_numbers_formatter.specs.CompactDigits.{DigitsShown, digits_shown}
use Rattle.locale_numbers_formatter.specs.ExactForms.{exact_format_text, under_entry}
use Rattle.locale_numbers_formatter.specs.FormatParts.{events_around, events_of_digits, exact_format_events, format_events}
use Rattle.locale_numbers_formatter.specs.FormatText.{Shown, compact_tables, digits_tables, format_text, plain_tables, scientific_tables, shown_as_it_is, text_of_shown, unit_tables}
use Rattle.locale_numbers_formatter.specs.Laws.{CompactIsLayered, CompactPartsAreLayered, ExactFormatIsText, ExactIsLayered, ExactPartsAreLayered, FormatIsText, PlainIsLayered, PlainPartsAreLayered, ScientificIsLayered, ScientificPartsAreLayered, UnitIsLayered, UnitPartsAreLayered}
use Rattle.locale_numbers_formatter.proofs.LayerLemmas.{events_in_layer, text_in_layer}
use Rattle.locale_numbers_formatter.proofs.ScientificLemmas.{scientific_texts}

-- two steps over what may be there are one
mapped_twice : {A B C : Type 0} (f : A → B) (g : B → C) (h : A → C) → ((a : A) → g (f a) ≡ h a) → (o : Option A) → option_map g (option_map f o) ≡ option_map h o
mapped_twice f g h same None = refl
mapped_twice f g h same (Some a) = ap Some (same a)

module _ (t : CompactTables) (form : CompactValue) where
  entry_found : Option (Option CompactEntry)
  entry_found = exact_entry 32768 t.patterns.entries form.significand.absolute.count form.exponent

  pub text_under : (entry : Option CompactEntry) → text_of_shown (under_entry t form entry) ≡ written_text t form.significand entry
  text_under entry =
      let affixes = affixes_of t.plain.symbols.strings form.significand.sign in
      ap (λ text. prefix_text affixes ++ (text ++ suffix_text affixes))
      (text_in_layer (pattern_of t entry (operands_of form.significand.absolute 0)) (unsigned_text t.plain form.significand.absolute))

  pub events_under : (entry : Option CompactEntry) → events_around (compact_tables t) (under_entry t form entry) (events_of_digits (under_entry t form entry)) ≡ exact_events (written_under t form.significand entry)
  events_under entry =
      let affixes = affixes_of t.plain.symbols.strings form.significand.sign in
      ap (λ es. prefix_events affixes ++ (es ++ suffix_events affixes))
      (events_in_layer (pattern_of t entry (operands_of form.significand.absolute 0)) (unsigned_events (record { number = form.significand.absolute; tables = t.plain })))

pub exact_text_is : ExactIsLayered
exact_text_is t form =
    mapped_twice (under_entry t form) text_of_shown (written_text t form.significand) (text_under t form)
    (exact_entry 32768 t.patterns.entries form.significand.absolute.count form.exponent)

pub exact_parts_are : ExactPartsAreLayered
exact_parts_are t form =
    let found = exact_entry 32768 t.patterns.entries form.significand.absolute.count form.exponent in
    mapped_twice (under_entry t form) (λ s. events_around (compact_tables t) s (events_of_digits s)) (λ entry. exact_events (written_under t form.significand entry)) (events_under t form) found
    ∙ sym (mapped_twice (written_under t form.significand) exact_events (λ entry. exact_events (written_under t form.significand entry)) (λ entry. refl) found)

-- ---- the text of events

-- with digits of their own
digits_text : (t : CompactTables) (o : NumberOptions) (d : SignedValue Number) → text_of (format_events (digits_tables t o) d) ≡ format_text (digits_tables t o) d
digits_text t o d =
    let shown : DigitsShown = digits_shown t.patterns.entries o d in
    let form : CompactValue = record { significand = shown.significand; exponent = exponent_of shown.entry } in
    ap text_of (events_under t form shown.entry) ∙ under_is_text t shown.significand shown.entry ∙ sym (text_under t form shown.entry)

pub format_texts : PlainIsLayered → PlainPartsAreLayered → CompactIsLayered → CompactPartsAreLayered → UnitIsLayered → UnitPartsAreLayered → ScientificIsLayered → ScientificPartsAreLayered
    → DecimalIsText → UnitIsText → ScientificIsText → FormatIsText
format_texts plain plain_parts compact compact_parts united unit_parts scientific scientific_parts decimal_law unit_law scientific_law (plain_tables t) d =
    ap text_of (plain_parts t d) ∙ decimal_law t d ∙ sym (plain t d)
format_texts plain plain_parts compact compact_parts united unit_parts scientific scientific_parts decimal_law unit_law scientific_law (compact_tables t) d =
    ap text_of (compact_parts t d) ∙ compact_is_text t d ∙ sym (compact t d)
format_texts plain plain_parts compact compact_parts united unit_parts scientific scientific_parts decimal_law unit_law scientific_law (digits_tables t o) d = digits_text t o d
format_texts plain plain_parts compact compact_parts united unit_parts scientific scientific_parts decimal_law unit_law scientific_law (unit_tables u) d =
    ap text_of (unit_parts u d) ∙ unit_law u.settings d ∙ sym (united u d)
format_texts plain plain_parts compact compact_parts united unit_parts scientific scientific_parts decimal_law unit_law scientific_law (scientific_tables s) d =
    scientific_texts scientific scientific_parts scientific_law s d

-- of one shown thing, where it is there
shown_text : (events : Shown → List Event) (is : Bool) (s : Shown) → text_of_shown s ≡ text_of (events s)
    → option_map text_of_shown (cond is (Some s) None) ≡ option_map text_of (option_map events (cond is (Some s) None))
shown_text events true s same = ap Some same
shown_text events false s same = refl

-- options change no exact form
compact_exact_text : ExactIsLayered → ExactPartsAreLayered → ExactTextIsOfEvents → (t : CompactTables) (form : CompactValue)
    → exact_format_text (compact_tables t) form ≡ option_map text_of (exact_format_events (compact_tables t) form)
compact_exact_text exact parts written t form =
    exact t form ∙ written t form.significand form.exponent
    ∙ sym (mapped_twice exact_events text_of (λ shown. text_of (exact_events shown)) (λ shown. refl) (exact_formatted t form.significand form.exponent))
    ∙ ap (option_map text_of) (sym (parts t form))

pub exact_texts : FormatIsText → ExactIsLayered → ExactPartsAreLayered → ExactTextIsOfEvents → ExactFormatIsText
exact_texts number exact parts written (plain_tables t) form =
    shown_text (λ s. events_around (plain_tables t) s (events_of_digits s)) (form.exponent == 0) (shown_as_it_is (plain_tables t) form.significand) (sym (number (plain_tables t) form.significand))
exact_texts number exact parts written (compact_tables t) form = compact_exact_text exact parts written t form
exact_texts number exact parts written (digits_tables t o) form = compact_exact_text exact parts written t form
exact_texts number exact parts written (unit_tables u) form =
    shown_text (λ s. events_around (unit_tables u) s (events_of_digits s)) (form.exponent == 0) (shown_as_it_is (unit_tables u) form.significand) (sym (number (unit_tables u) form.significand))
exact_texts number exact parts written (scientific_tables s) form = refl
