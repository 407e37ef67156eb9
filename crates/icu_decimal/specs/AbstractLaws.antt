-- The affixes of a sign around what is written for a number without it are the text of the number with its sign; they are around a unit too.
-- Defined in docs/formatters.md, "Abstract formatters".
-- Cited by `laws::sign_round_unsigned` and `laws::sign_round_unit`.
use Rattle.std.specs.Prelude.{◌≡◌, ℕ, List, ◌++◌, Option}
use Rattle.writeable.specs.AnnotatedText.{Event, bytes, text_of}
use Rattle.fixed_decimal.specs.declared.Sign.{Sign}
use Rattle.fixed_decimal.specs.Number.{Number}
use Rattle.fixed_decimal.specs.SignedValue.{SignedValue}
use Rattle.icu_decimal_plain.specs.Affixes.{AffixTexts, WithSign, events_with_sign}
use Rattle.icu_decimal_plain.specs.PlainText.{prefix_text, suffix_text}

-- a number and the affixes of its sign, by the affixes that a formatter has for signs
abbrev pub between : (Sign → Option AffixTexts) → SignedValue Number → WithSign Number
between affixes d = record { value = d.absolute; affixes = affixes d.sign }

-- formatters that write these events for numbers and these affixes for signs, one around the other, write these events for decimals
abbrev pub WritesTogether : {F : Type 0} → (F → Number → List Event) → (F → Sign → Option AffixTexts) → (F → SignedValue Number → List Event) → Type 0
WritesTogether {F} unsigned affixes whole = (f : F) (d : SignedValue Number) → events_with_sign (unsigned f) (between (affixes f) d) ≡ whole f d

-- and these texts
abbrev pub WritesText : {F : Type 0} → (F → Number → List Event) → (F → Sign → Option AffixTexts) → (F → SignedValue Number → List ℕ) → Type 0
WritesText {F} unsigned affixes text = (f : F) (d : SignedValue Number) → text_of (events_with_sign (unsigned f) (between (affixes f) d)) ≡ text f d

-- with a text before the number and one after it, these affixes around all three, and these texts for the number
abbrev pub WritesUnit : {F : Type 0} → (F → Number → List Event) → (F → Sign → Option AffixTexts) → (F → Number → List ℕ) → Type 0
WritesUnit {F} unsigned affixes text = (f : F) (before : List ℕ) (d : SignedValue Number) (behind : List ℕ)
    → text_of (events_with_sign (λ number. bytes before ++ (unsigned f number ++ bytes behind)) (between (affixes f) d))
    ≡ prefix_text (affixes f d.sign) ++ ((before ++ (text f d.absolute ++ behind)) ++ suffix_text (affixes f d.sign))
