-- How long the text of a number is at least: a byte a digit.
use Rattle.std.proofs.Common.{◌≡◌, ℕ, ◌+◌, ◌-◌, ◌<◌, ◌≤◌, Bool, true, false, cond, List, [], ◌∷◌, ◌++◌, length, length-append, map, ap, ◌∙◌, arith}
use Rattle.std.proofs.lemmas.List.{append-nil}
use Rattle.std.proofs.lemmas.Str.{length-le-encodes}
use Rattle.writeable.specs.AnnotatedText.{Event, text_of}
use Rattle.writeable.specs.SinkLaws.{text_of_joined}
use Rattle.fixed_decimal.specs.Number.{fraction_digits, whole_digits}
use Rattle.icu_decimal_plain.specs.Affixes.{WithSign, events_with_sign, prefix_events, suffix_events}
use Rattle.icu_decimal_grouping.specs.Grouper.{ends_at, group_sizes, marked}
use Rattle.icu_decimal_plain.specs.PlainText.{PlainNumber, Tables, chained, digit_text, fraction_text, unsigned_events, whole_text}
use Rattle.icu_decimal_plain.proofs.DigitChunkLemmas.{length_down}
use Rattle.icu_decimal_grouping.proofs.GrouperLemmas.{joined_is_separated}
use Rattle.icu_decimal_plain.proofs.TextLemmas.{unsigned_is_text}
use Rattle.std.specs.Char.{encode_utf8}

-- a character has a byte
some_bytes : (c : ℕ) → 0 < length (encode_utf8 c)
some_bytes c =
    let one = length-le-encodes (c ∷ []) in
    let same : length (encode_utf8 c ++ []) ≡ length (encode_utf8 c) = ap length (append-nil (encode_utf8 c)) in
    omega (arith, one, same)

-- so many digits were asked for
long_cond : (b : Bool) (separator : List ℕ) (texts : List (List ℕ)) → length (chained texts) ≤ length (chained (cond b (separator ∷ []) [] ++ texts))
long_cond true separator texts = let whole = length-append separator (chained texts) in omega (arith, whole)
long_cond false separator texts = omega arith

long_marked : (ends : ℕ → Bool) (separator table ds : List ℕ) → length ds ≤ length (chained (marked ends (separator ∷ []) (map (digit_text table) ds)))
long_marked ends separator table [] = omega arith
long_marked ends separator table (d ∷ ds) =
    let texts : List (List ℕ) = map (digit_text table) ds in
    let rest : List (List ℕ) = marked ends (separator ∷ []) texts in
    let b : Bool = ends (length texts) in
    let first : 0 < length (digit_text table d) = some_bytes _ in
    let whole : length (digit_text table d ++ chained (cond b (separator ∷ []) [] ++ rest)) ≡ length (digit_text table d) + length (chained (cond b (separator ∷ []) [] ++ rest)) = length-append (digit_text table d) (chained (cond b (separator ∷ []) [] ++ rest)) in
    let more : length (chained rest) ≤ length (chained (cond b (separator ∷ []) [] ++ rest)) = long_cond b separator rest in
    let inner : length ds ≤ length (chained rest) = long_marked ends separator table ds in
    omega (arith, first, whole, more, inner)

long_chained : (table ds : List ℕ) → length ds ≤ length (chained (map (digit_text table) ds))
long_chained table [] = omega arith
long_chained table (d ∷ ds) =
    let first : 0 < length (digit_text table d) = some_bytes _ in
    let whole : length (digit_text table d ++ chained (map (digit_text table) ds)) ≡ length (digit_text table d) + length (chained (map (digit_text table) ds)) = length-append (digit_text table d) (chained (map (digit_text table) ds)) in
    let inner : length ds ≤ length (chained (map (digit_text table) ds)) = long_chained table ds in
    omega (arith, first, whole, inner)

long_whole : (t : Tables) (ds : List ℕ) → length ds ≤ length (whole_text t ds)
long_whole t [] = omega arith
long_whole t (d ∷ ds) =
    let texts : List (List ℕ) = map (digit_text t.digits) (d ∷ ds) in
    let separator : List ℕ = t.symbols.strings.grouping_separator in
    let ends : ℕ → Bool = ends_at (group_sizes t.strategy t.symbols.grouping_sizes (length texts)) in
    let same : length (whole_text t (d ∷ ds)) ≡ length (chained (marked ends (separator ∷ []) texts)) = ap (λ lists. length (chained lists)) (joined_is_separated t.strategy t.symbols.grouping_sizes (separator ∷ []) texts (omega arith)) in
    let marks : length (d ∷ ds) ≤ length (chained (marked ends (separator ∷ []) texts)) = long_marked ends separator t.digits (d ∷ ds) in
    omega (arith, same, marks)

long_fraction : (t : Tables) (ds : List ℕ) → length ds ≤ length (fraction_text t ds)
long_fraction t [] = omega arith
long_fraction t (d ∷ ds) =
    let texts : List ℕ = chained (map (digit_text t.digits) (d ∷ ds)) in
    let whole : length (t.symbols.strings.decimal_separator ++ texts) ≡ length t.symbols.strings.decimal_separator + length texts = length-append t.symbols.strings.decimal_separator texts in
    let inner : length (d ∷ ds) ≤ length texts = long_chained t.digits (d ∷ ds) in
    omega (arith, whole, inner)

-- a byte a digit shown
pub unsigned_is_long : (p : PlainNumber) → (p.number.high - 32767) + (32768 - p.number.low) ≤ length (text_of (unsigned_events p))
unsigned_is_long p =
    let whole : List ℕ = whole_text p.tables (whole_digits p.number) in
    let fraction : List ℕ = fraction_text p.tables (fraction_digits p.number) in
    let text : length (text_of (unsigned_events p)) ≡ length (whole ++ fraction) = ap length (unsigned_is_text p) in
    let both : length (whole ++ fraction) ≡ length whole + length fraction = length-append whole fraction in
    let above : length (whole_digits p.number) ≤ length whole = long_whole p.tables (whole_digits p.number) in
    let below : length (fraction_digits p.number) ≤ length fraction = long_fraction p.tables (fraction_digits p.number) in
    let high : length (whole_digits p.number) ≡ p.number.high - 32767 = length_down p.number.count 32768 (p.number.high - 32767) in
    let low : length (fraction_digits p.number) ≡ 32768 - p.number.low = length_down p.number.count p.number.low (32768 - p.number.low) in
    omega (arith, text, both, above, below, high, low)

-- affixes make no text shorter
pub value_is_shorter : {T : Type 0} (events : T → List Event) (s : WithSign T) → length (text_of (events s.value)) ≤ length (text_of (events_with_sign events s))
value_is_shorter events s =
    let before : List Event = prefix_events s.affixes in
    let inner : List Event = events s.value in
    let after : List Event = suffix_events s.affixes in
    let first : length (text_of (before ++ (inner ++ after))) ≡ length (text_of before) + length (text_of (inner ++ after)) = ap length (text_of_joined before (inner ++ after)) ∙ length-append (text_of before) (text_of (inner ++ after)) in
    let second : length (text_of (inner ++ after)) ≡ length (text_of inner) + length (text_of after) = ap length (text_of_joined inner after) ∙ length-append (text_of inner) (text_of after) in
    omega (arith, first, second)
