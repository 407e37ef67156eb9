-- The text of a number with a unit.
use Rattle.std.proofs.Common.{◌≡◌, ℕ, ◌+◌, ◌≤◌, List, [], ◌++◌, length, length-append, Option, None, Some, refl, sym, ap, ◌∙◌, arith}
use Rattle.std.proofs.lemmas.List.{append-nil, append_assoc}
use Rattle.writeable.specs.AnnotatedText.{Event, bytes, closing, opening, text_of, without_parts}
use Rattle.writeable.specs.PartName.{PartName}
use Rattle.writeable.specs.SinkLaws.{text_of_joined}
use Rattle.writeable.proofs.AnnotatedTextLemmas.{bytes_joined, text_of_bytes, text_of_opening, text_of_closing}
use Rattle.fixed_decimal.specs.Number.{Number}
use Rattle.fixed_decimal.specs.SignedValue.{SignedValue}
use Rattle.fixed_decimal.specs.declared.Sign.{Sign}
use Rattle.fixed_decimal.specs.declared.Sign.TheVariants.{None as NoSign, Negative, Positive}
use Rattle.icu_decimal_plain.specs.Affixes.{AffixTexts, affixes_of}
use Rattle.icu_decimal_plain.specs.PlainText.{PlainNumber, prefix_text, suffix_text, unsigned_events, unsigned_text}
use Rattle.icu_decimal_plain.proofs.TextLemmas.{text_of_part, text_with_sign, unsigned_is_text}
use Rattle.icu_dimension_affixes.specs.UnitPatterns.{AffixPair, AffixText, AffixesText, after_in, affix_text, around, before_in, literal, own_affixes, pair_with}
use Rattle.icu_dimension_affixes.specs.declared.affixes.UnitPlace.{UnitPlace}
use Rattle.icu_dimension_affixes.specs.declared.affixes.UnitPlace.TheVariants.{Before, After}
use Rattle.icu_dimension_affixes.specs.UnitTextLaws.{EmptyUnitIsPlain, no_texts}
use Rattle.icu_dimension_affixes.specs.PartlessUnits.{affix_bytes, partless_events}
use Rattle.icu_dimension_affixes.specs.UnitText.{UnitName, UnitNumber, UnitSettings, affix_events, formatted_by, in_part, in_unit_events, pair_by, side_events, sign_part, sign_pair, signed_pair, text_between, unit_decimal_events, unit_decimal_text, unit_events, unit_formatted, unit_part}

-- two texts one after another
both_texts : (first second : List Event) (one other : List ℕ) → text_of first ≡ one → text_of second ≡ other → text_of (first ++ second) ≡ one ++ other
both_texts first second one other same alike =
    text_of_joined first second ∙ ap (λ text. text ++ text_of second) same ∙ ap (λ text. one ++ text) alike

text_in_part : (part : Option PartName) (es : List Event) → text_of (in_part part es) ≡ text_of es
text_in_part None es = refl
text_in_part (Some part) es =
    text_of_joined (opening part) (es ++ closing)
    ∙ ap (λ text. text ++ text_of (es ++ closing)) (text_of_opening part)
    ∙ text_of_joined es closing
    ∙ ap (λ text. text_of es ++ text) text_of_closing
    ∙ append-nil (text_of es)

text_of_affix : (affix : AffixText) (unit : UnitName) → text_of (affix_events affix unit) ≡ affix_text affix unit.text
text_of_affix (literal text) unit = text_of_bytes text
text_of_affix (around before after) unit =
    both_texts (bytes before) (unit_events unit ++ bytes after) before (unit.text ++ after) (text_of_bytes before)
    (both_texts (unit_events unit) (bytes after) unit.text after (text_of_part (unit_part unit.kind) unit.text) (text_of_bytes after))

pub text_of_side : (own : Sign) (affix : AffixText) (unit : UnitName) → text_of (side_events own affix unit) ≡ affix_text affix unit.text
text_of_side own affix unit = text_in_part (sign_part own) (affix_events affix unit) ∙ text_of_affix affix unit

-- a number without its sign, between its affixes
pub text_in_unit : (n : UnitNumber) → text_of (in_unit_events n) ≡ text_between (pair_with n.affixes n.unit.text) (unsigned_text n.number.tables n.number.number)
text_in_unit n =
    let before = side_events n.own (before_in n.affixes) n.unit in
    let after = side_events n.own (after_in n.affixes) n.unit in
    both_texts before (unsigned_events n.number ++ after) (affix_text (before_in n.affixes) n.unit.text) (unsigned_text n.number.tables n.number.number ++ affix_text (after_in n.affixes) n.unit.text) (text_of_side n.own (before_in n.affixes) n.unit)
    (both_texts (unsigned_events n.number) after (unsigned_text n.number.tables n.number.number) (affix_text (after_in n.affixes) n.unit.text) (unsigned_is_text n.number) (text_of_side n.own (after_in n.affixes) n.unit))

-- without parts
affix_bytes_is : (affix : AffixText) (unit : List ℕ) → bytes (affix_text affix unit) ≡ affix_bytes affix unit
affix_bytes_is (literal text) unit = refl
affix_bytes_is (around before after) unit =
    bytes_joined before (unit ++ after) ∙ ap (λ es. bytes before ++ es) (bytes_joined unit after)

pub without_parts_is : (n : UnitNumber) → without_parts (in_unit_events n) ≡ partless_events n.number n.affixes n.unit.text
without_parts_is n =
    let before = affix_text (before_in n.affixes) n.unit.text in
    let number = unsigned_text n.number.tables n.number.number in
    let after = affix_text (after_in n.affixes) n.unit.text in
    ap bytes (text_in_unit n)
    ∙ bytes_joined before (number ++ after)
    ∙ ap (λ es. bytes before ++ es) (bytes_joined number after)
    ∙ ap (λ text. bytes before ++ (bytes text ++ bytes after)) (sym (unsigned_is_text n.number))
    ∙ ap (λ es. es ++ (without_parts (unsigned_events n.number) ++ bytes after)) (affix_bytes_is (before_in n.affixes) n.unit.text)
    ∙ ap (λ es. affix_bytes (before_in n.affixes) n.unit.text ++ (without_parts (unsigned_events n.number) ++ es)) (affix_bytes_is (after_in n.affixes) n.unit.text)

-- affixes make no text shorter
pub number_is_shorter : (n : UnitNumber) → length (text_of (unsigned_events n.number)) ≤ length (text_of (in_unit_events n))
number_is_shorter n =
    let before = affix_text (before_in n.affixes) n.unit.text in
    let number = unsigned_text n.number.tables n.number.number in
    let after = affix_text (after_in n.affixes) n.unit.text in
    let whole : length (text_of (in_unit_events n)) ≡ length before + length (number ++ after) = ap length (text_in_unit n) ∙ length-append before (number ++ after) in
    let both : length (number ++ after) ≡ length number + length after = length-append number after in
    let same : length (text_of (unsigned_events n.number)) ≡ length number = ap length (unsigned_is_text n.number) in
    omega (arith, whole, both, same)

-- affixes of the symbols around affixes are affixes
regroup : (prefix before text after suffix : List ℕ) → prefix ++ ((before ++ (text ++ after)) ++ suffix) ≡ (prefix ++ before) ++ (text ++ (after ++ suffix))
regroup prefix before text after suffix = simp append_assoc

formatted_text : (own : Option AffixesText) (unsigned : AffixesText) (affixes : Option AffixTexts) (sign : Sign) (number : PlainNumber) (unit : UnitName) → text_of (unit_decimal_events (formatted_by own unsigned affixes sign number unit)) ≡ text_between (pair_by own unsigned affixes unit.text) (unsigned_text number.tables number.number)
formatted_text None unsigned affixes sign number unit =
    let n : UnitNumber = record { number = number; affixes = unsigned; unit = unit; own = NoSign } in
    let pair : AffixPair = pair_with unsigned unit.text in
    let text : List ℕ = unsigned_text number.tables number.number in
    text_with_sign affixes (in_unit_events n) (text_between pair text) (text_in_unit n)
    ∙ regroup (prefix_text affixes) pair.before text pair.after (suffix_text affixes)
formatted_text (Some own) unsigned affixes sign number unit =
    let n : UnitNumber = record { number = number; affixes = own; unit = unit; own = sign } in
    ap text_of (append-nil (in_unit_events n)) ∙ text_in_unit n

pub unit_is_text : (s : UnitSettings) (d : SignedValue Number) → text_of (unit_decimal_events (unit_formatted s d)) ≡ unit_decimal_text s d
unit_is_text s d =
    formatted_text (own_affixes s.pattern d.sign) s.pattern.unsigned (affixes_of s.tables.symbols.strings d.sign) d.sign (record { number = d.absolute; tables = s.tables }) s.unit

-- an empty unit in three empty texts
plain_text : (affixes : Option AffixTexts) (place : UnitPlace) (text : List ℕ) → text_between (signed_pair affixes (pair_with (no_texts place) [])) text ≡ prefix_text affixes ++ (text ++ suffix_text affixes)
plain_text affixes Before text = ap (λ prefix. prefix ++ (text ++ suffix_text affixes)) (append-nil (prefix_text affixes))
plain_text affixes After text = ap (λ prefix. prefix ++ (text ++ suffix_text affixes)) (append-nil (prefix_text affixes))

no_own : (unsigned : AffixesText) (sign : Sign) → own_affixes (record { unsigned = unsigned; minus = None; plus = None }) sign ≡ None
no_own unsigned NoSign = refl
no_own unsigned Negative = refl
no_own unsigned Positive = refl

plain_pair : (s : UnitSettings) (place : UnitPlace) (sign : Sign) → s.pattern ≡ record { unsigned = no_texts place; minus = None; plus = None } → s.unit.text ≡ [] → sign_pair s sign ≡ signed_pair (affixes_of s.tables.symbols.strings sign) (pair_with (no_texts place) [])
plain_pair s place sign same empty =
    let affixes : Option AffixTexts = affixes_of s.tables.symbols.strings sign in
    ap (λ p. pair_by (own_affixes p sign) p.unsigned affixes s.unit.text) same
    ∙ ap (λ own. pair_by own (no_texts place) affixes s.unit.text) (no_own (no_texts place) sign)
    ∙ ap (λ unit. signed_pair affixes (pair_with (no_texts place) unit)) empty

pub empty_unit_is_plain : EmptyUnitIsPlain
empty_unit_is_plain s place d same empty =
    let text : List ℕ = unsigned_text s.tables d.absolute in
    ap (λ pair. text_between pair text) (plain_pair s place d.sign same empty)
    ∙ plain_text (affixes_of s.tables.symbols.strings d.sign) place text
