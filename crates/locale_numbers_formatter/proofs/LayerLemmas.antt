-- The layers of plain and of compact text.
use Rattle.std.proofs.Common.{◌≡◌, ℕ, List, ◌++◌, Option, None, Some, refl, sym, ap, ◌∙◌}
use Rattle.writeable.specs.AnnotatedText.{Event, bytes}
use Rattle.icu_decimal.specs.Affixes.{affixes_of, prefix_events, suffix_events}
use Rattle.icu_decimal.specs.CompactText.{compact_of, text_in}
use Rattle.icu_decimal.specs.Pattern.{PatternText, literal, around, optional_events}
use Rattle.icu_decimal.specs.PlainText.{PlainNumber, prefix_text, suffix_text, unsigned_text}
use Rattle.icu_decimal.specs.TextLaws.{UnsignedIsText}
use Rattle.icu_decimal.proofs.CompactTextLemmas.{text_in_pattern}
use Rattle.locale_numbers_formatter.specs.Laws.{CompactIsLayered, CompactPartsAreLayered}
use Rattle.locale_numbers_formatter.specs.Layers.{in_pattern}

-- a pattern of layers is one of compact text
pub text_in_layer : (p : Option PatternText) (inner : List ℕ) → in_pattern (λ text. text) p inner ≡ text_in p inner
text_in_layer None inner = refl
text_in_layer (Some (literal text)) inner = refl
text_in_layer (Some (around before after)) inner = refl

-- with its parts too
pub events_in_layer : (p : Option PatternText) (inner : List Event) → in_pattern bytes p inner ≡ optional_events p inner
events_in_layer None inner = refl
events_in_layer (Some (literal text)) inner = refl
events_in_layer (Some (around before after)) inner = refl

pub compact_text_is : CompactIsLayered
compact_text_is t d =
    let affixes = affixes_of t.plain.symbols.strings d.sign in
    let c = compact_of t d.absolute in
    ap (λ text. prefix_text affixes ++ (text ++ suffix_text affixes)) (text_in_layer c.pattern (unsigned_text t.plain c.plain.number))

-- without the parts of the digits
bytes_in_layer : UnsignedIsText → (p : Option PatternText) (n : PlainNumber) → in_pattern bytes p (bytes (unsigned_text n.tables n.number)) ≡ bytes (text_in p (unsigned_text n.tables n.number))
bytes_in_layer law p n =
    ap (λ text. in_pattern bytes p (bytes text)) (sym (law n))
    ∙ events_in_layer p _
    ∙ text_in_pattern p n

pub compact_parts_are : UnsignedIsText → CompactPartsAreLayered
compact_parts_are law t d =
    let affixes = affixes_of t.plain.symbols.strings d.sign in
    let c = compact_of t d.absolute in
    ap (λ es. prefix_events affixes ++ (es ++ suffix_events affixes)) (bytes_in_layer law c.pattern c.plain)
