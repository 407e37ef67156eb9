-- The text of events.
use Rattle.std.proofs.Common.{◌≡◌, ℕ, ◌+◌, List, [], ◌∷◌, ◌++◌, length, refl, ap, arith}
use Rattle.std.proofs.lemmas.List.{length-append}
use Rattle.writeable.specs.AnnotatedText.{Event, byte, bytes, opening, closing, text_of}
use Rattle.writeable.specs.SinkLaws.{text_of_joined}
use Rattle.writeable.specs.PartName.{PartName}

-- bytes alone write themselves
pub text_of_bytes : (text : List ℕ) → text_of (bytes text) ≡ text
unfolding bytes
text_of_bytes [] = refl
text_of_bytes (b ∷ text) = ap (λ rest. b ∷ rest) (text_of_bytes text)

-- no text is no events
pub no_bytes : bytes [] ≡ []
unfolding bytes
no_bytes = refl

-- a text in two pieces is the one piece and then the other
pub bytes_joined : (front back : List ℕ) → bytes (front ++ back) ≡ bytes front ++ bytes back
unfolding bytes
bytes_joined [] back = refl
bytes_joined (b ∷ front) back = ap (λ rest. byte b ∷ rest) (bytes_joined front back)

-- a part that opens writes nothing
pub text_of_opening : (part : PartName) → text_of (opening part) ≡ []
unfolding opening
text_of_opening part = refl

-- nor does one that ends
pub text_of_closing : text_of closing ≡ []
unfolding closing
text_of_closing = refl

-- the text of events between two texts
pub text_of_affixed : (before behind : List ℕ) (es : List Event) → text_of (bytes before ++ (es ++ bytes behind)) ≡ before ++ (text_of es ++ behind)
text_of_affixed before behind es =
    rw (text_of_joined (bytes before) (es ++ bytes behind), text_of_joined es (bytes behind), text_of_bytes before, text_of_bytes behind) refl

-- and its length
pub affixed_length : (before behind : List ℕ) (es : List Event)
    → length (text_of es) + length before + length behind ≡ length (text_of (bytes before ++ (es ++ bytes behind)))
affixed_length before behind es =
    rw (text_of_affixed before behind es, length-append before (text_of es ++ behind), length-append (text_of es) behind) (omega arith)
