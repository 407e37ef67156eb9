-- A pattern writes at least what is in it, and one without a placeholder its text; an empty text has no events.
use Rattle.std.proofs.Common.{◌≡◌, ℕ, ◌+◌, ◌≤◌, List, [], ◌∷◌, ◌++◌, length, length-append, ap, ◌∙◌, arith}
use Rattle.writeable.specs.AnnotatedText.{Event, bytes, text_of}
use Rattle.writeable.specs.SinkLaws.{text_of_joined}
use Rattle.writeable.proofs.AnnotatedTextLemmas.{no_bytes, text_of_bytes}
use Rattle.icu_decimal_patterns.specs.Pattern.{PatternText, literal, around, pattern_events}
use Rattle.icu_decimal_patterns.specs.HeldPattern.{least_length}

-- an empty text has no events
pub empty_text : (text : List ℕ) → length text ≡ 0 → bytes text ≡ []
empty_text [] h = no_bytes
empty_text (b ∷ bs) h = absurd (omega (arith, h))

pub pattern_is_longer : (p : PatternText) (inner : ℕ) (es : List Event) → inner ≤ length (text_of es) → least_length p inner ≤ length (text_of (pattern_events p es))
pattern_is_longer (literal text) inner es least = let same : length (text_of (bytes text)) ≡ length text = ap length (text_of_bytes text) in omega (arith, same)
pattern_is_longer (around before after) inner es least =
    let first : length (text_of (bytes before ++ (es ++ bytes after))) ≡ length (text_of (bytes before)) + length (text_of (es ++ bytes after)) = ap length (text_of_joined (bytes before) (es ++ bytes after)) ∙ length-append (text_of (bytes before)) (text_of (es ++ bytes after)) in
    let second : length (text_of (es ++ bytes after)) ≡ length (text_of es) + length (text_of (bytes after)) = ap length (text_of_joined es (bytes after)) ∙ length-append (text_of es) (text_of (bytes after)) in
    omega (arith, least, first, second)
