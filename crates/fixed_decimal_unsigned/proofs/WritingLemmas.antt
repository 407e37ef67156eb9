-- Digits written a piece a call: the events of the next piece, and of the rest.
use Rattle.std.proofs.Common.{◌≡◌, ℕ, zero, suc, ◌+◌, ◌-◌, ◌<◌, ◌≤◌, List, [], ◌∷◌, ◌++◌, length, get_or, map, replicate, take, drop, refl, sym, ap, ◌∙◌, arith, set}
use Rattle.std.proofs.Math.ListN.{set}
use Rattle.std.specs.Str.{IsAscii}
use Rattle.std.proofs.lemmas.List.{append_assoc, append-nil, drop_all, drop_more, length-take-le, map-append, take-append-drop, take-map, take-take, take_more_set, take_all}
use Rattle.std.proofs.Math.Seq.{take-append-add}
use Rattle.std.specs.Int.Digits.{AllBelowBase}
use Rattle.std.proofs.lemmas.Str.Ascii.{IsAscii-nil, IsAscii-cons}
use Rattle.std.proofs.lemmas.Str.{IsAscii-append}
use Rattle.writeable.specs.AnnotatedText.{bytes, text_of as written}
use Rattle.writeable.proofs.AnnotatedTextLemmas.{text_of_bytes, bytes_joined}
use Rattle.fixed_decimal_unsigned.specs.Number.{Number, digit, digits_down, whole_digits, fraction_digits}
use Rattle.fixed_decimal_unsigned.specs.NumberText.{character, after_point, point, text_of as printed}
use Rattle.fixed_decimal_digits.proofs.ShownDigitsLemmas.{down_split}
use Rattle.fixed_decimal_unsigned.proofs.PrintedLemmas.{digit_below_ten, printed_length}

-- the events of the digits that are left: those of the next piece, and those of the rest
pub next_piece : (count base left size rest : ℕ) → left ≡ size + rest
    → bytes (map character (digits_down count base left)) ≡ bytes (map character (digits_down count (base + rest) size)) ++ bytes (map character (digits_down count base rest))
next_piece count base left size rest e =
    ap (λ n. bytes (map character (digits_down count base n))) e
    ∙ ap (λ ds. bytes (map character ds)) (down_split count base size rest)
    ∙ ap bytes (map-append character (digits_down count (base + rest) size) (digits_down count base rest))
    ∙ bytes_joined (map character (digits_down count (base + rest) size)) (map character (digits_down count base rest))

-- a digit of those that are below ten
pub ten_at : (ds : List ℕ) (i : ℕ) → i < length ds → AllBelowBase 10 ds → get_or ds i 0 < 10
ten_at [] i within tens = absurd (omega (arith, within))
ten_at (d ∷ ds) zero within tens = tens.0
ten_at (d ∷ ds) (suc i) within tens = ten_at ds i (omega (arith, within)) tens.1

-- one character more of a block, and none that is left
pub character_more : (digits text : List ℕ) (i c : ℕ) → i < length digits → i < length text → c ≡ character (get_or digits i 0)
    → take (i + 1) (set text i c) ++ map character (drop (i + 1) digits) ≡ take i text ++ map character (drop i digits)
character_more digits text i c within room is =
    let behind = map character (drop (i + 1) digits) in
    ap (λ t. t ++ behind) (take_more_set text i c room)
    ∙ append_assoc (take i text) (c ∷ []) behind
    ∙ ap (λ d. take i text ++ d ∷ behind) is
    ∙ ap (λ ds. take i text ++ map character ds) (sym (drop_more digits i 0 within))

pub characters_whole : (digits text : List ℕ) (i : ℕ) → length digits ≤ i → length text ≤ i → take i text ++ map character (drop i digits) ≡ map character digits → text ≡ map character digits
characters_whole digits text i l m e =
    sym (take_all i text m)
    ∙ sym (append-nil (take i text))
    ∙ ap (λ ds. take i text ++ map character ds) (sym (drop_all i digits l)) ∙ e

-- a block of characters more in a piece, of which the first few count
pub spelled_block : (piece after block digits rest : List ℕ) (at n : ℕ) → at ≤ length piece → n ≤ 16 → take (at + 16) after ≡ take at piece ++ map character block → take n block ≡ take n digits → rest ≡ drop n digits
    → take (at + n) after ++ map character rest ≡ take at piece ++ map character digits
spelled_block piece after block digits rest at n within few put taken left =
    let size : length (take at piece) ≡ at = length-take-le at piece within in
    let front : take (at + n) after ≡ take at piece ++ map character (take n digits) =
    sym (take-take (at + n) (at + 16) after (omega (arith, few)))
    ∙ ap (take (at + n)) put
    ∙ ap (λ k. take (k + n) (take at piece ++ map character block)) (sym size)
    ∙ take-append-add (take at piece) (map character block) n
    ∙ ap (λ cs. take at piece ++ cs) (take-map character n block ∙ ap (map character) taken) in
    ap (λ t. t ++ map character rest) front
    ∙ ap (λ ds. (take at piece ++ map character (take n digits)) ++ map character ds) left
    ∙ append_assoc (take at piece) (map character (take n digits)) (map character (drop n digits))
    ∙ ap (λ cs. take at piece ++ cs) (sym (map-append character (take n digits) (drop n digits)) ∙ ap (map character) (take-append-drop n digits))

-- a piece in which no digit is left to spell
pub spelled_all : (piece digits whole : List ℕ) (from done size : ℕ) → done ≡ size → length digits ≡ 0 → take (from + done) piece ++ map character digits ≡ whole → take (from + size) piece ≡ whole
spelled_all piece [] whole from done size e none is = ap (λ n. take (from + n) piece) (sym e) ∙ sym (append-nil (take (from + done) piece)) ∙ is
spelled_all piece (d ∷ ds) whole from done size e none is = absurd (omega (arith, none))

-- the digits of a count at so many places: how many they are, and that they are below ten
pub length_down : (count base n : ℕ) → length (digits_down count base n) ≡ n
length_down count base zero = refl
length_down count base (suc k) = omega (arith, length_down count base k)

pub tens_down : (count base n : ℕ) → AllBelowBase 10 (digits_down count base n)
tens_down count base zero = tt
tens_down count base (suc k) = (digit_below_ten count (base + k), tens_down count base k)

pub zeros_below : (n : ℕ) → AllBelowBase 10 (replicate n 0)
zeros_below zero = tt
zeros_below (suc n) = (omega arith, zeros_below n)

no_fraction : (count low left : ℕ) → left ≡ 0 → after_point (map character (digits_down count low left)) ≡ []
no_fraction count low zero e = refl
no_fraction count low (suc k) e = absurd (omega arith)

some_fraction : (count low left : ℕ) → 0 < left → point ∷ map character (digits_down count low left) ≡ after_point (map character (digits_down count low left))
some_fraction count low zero l = absurd (omega arith)
some_fraction count low (suc k) l = refl

-- a piece with the text of a number that shows no digit after the point, and of one that does
pub spelled_whole : (piece : List ℕ) (v : Number) → 32768 ≤ v.low → take (v.high - 32767) piece ≡ map character (whole_digits v) → take (v.high - 32767) piece ≡ printed v
spelled_whole piece v l e =
    e ∙ sym (append-nil (map character (whole_digits v)))
    ∙ ap (λ t. map character (whole_digits v) ++ t) (sym (no_fraction v.count v.low (32768 - v.low) (omega arith)))

pub spelled_both : (first last : List ℕ) (v : Number) (whole : ℕ) → v.low < 32768 → whole < length first → take whole first ≡ map character (whole_digits v)
    → take (whole + 1 + (32768 - v.low)) last ≡ take (whole + 1) (set first whole point) ++ map character (fraction_digits v)
    → take (whole + 1 + (32768 - v.low)) last ≡ printed v
spelled_both first last v whole l within e f =
    let behind = map character (fraction_digits v) in
    f ∙ ap (λ t. t ++ behind) (take_more_set first whole point within ∙ ap (λ t. t ++ point ∷ []) e)
    ∙ append_assoc (map character (whole_digits v)) (point ∷ []) behind
    ∙ ap (λ t. map character (whole_digits v) ++ t) (some_fraction v.count v.low (32768 - v.low) (omega arith))

-- the characters of digits are ASCII
pub characters_ascii : (count base size : ℕ) → IsAscii (map character (digits_down count base size))
characters_ascii count base zero = IsAscii-nil
characters_ascii count base (suc k) =
    let small : character (digit count (base + k)) < 128 = let ten = digit_below_ten count (base + k) in omega arith in
    IsAscii-cons (character (digit count (base + k))) (map character (digits_down count base k)) small (characters_ascii count base k)

behind_ascii : (cs : List ℕ) → IsAscii cs → IsAscii (after_point cs)
behind_ascii [] h = h
behind_ascii (c ∷ cs) h = IsAscii-cons point (c ∷ cs) (omega arith) h

-- the characters of a number's text are ASCII
pub text_ascii : (v : Number) → IsAscii (printed v)
text_ascii v =
    IsAscii-append (map character (whole_digits v)) (after_point (map character (fraction_digits v))) (characters_ascii v.count 32768 (v.high - 32767))
    (behind_ascii (map character (fraction_digits v)) (characters_ascii v.count v.low (32768 - v.low)))

-- the events of a text are those of its two parts
pub text_events : (v : Number) → bytes (printed v) ≡ bytes (map character (whole_digits v)) ++ bytes (after_point (map character (fraction_digits v)))
text_events v = bytes_joined (map character (whole_digits v)) (after_point (map character (fraction_digits v)))

pub none_left : (count base left : ℕ) → left ≤ 0 → bytes (map character (digits_down count base left)) ≡ []
unfolding bytes
none_left count base zero h = refl
none_left count base (suc k) h = absurd (omega arith)

-- the point and the digits after it
pub point_first : (c : ℕ) (cs : List ℕ) → bytes (point ∷ []) ++ bytes (c ∷ cs) ≡ bytes (after_point (c ∷ cs))
unfolding bytes
point_first c cs = refl

pub fraction_events : (count low left : ℕ) → 0 < left → bytes (point ∷ []) ++ bytes (map character (digits_down count low left)) ≡ bytes (after_point (map character (digits_down count low left)))
fraction_events count low zero p = absurd (omega arith)
fraction_events count low (suc k) p = point_first (character (digit count (low + k))) (map character (digits_down count low k))

pub no_fraction_events : (count low left : ℕ) → left ≡ 0 → bytes (after_point (map character (digits_down count low left))) ≡ []
unfolding bytes
no_fraction_events count low zero p = refl
no_fraction_events count low (suc k) p = absurd (omega arith)

-- the events of a number are its printed text
pub events_text : (v : Number) → written (bytes (map character (whole_digits v)) ++ bytes (after_point (map character (fraction_digits v)))) ≡ printed v
events_text v =
    let a = map character (whole_digits v) in let b = after_point (map character (fraction_digits v)) in
    ap written (sym (bytes_joined a b)) ∙ text_of_bytes (a ++ b)

pub events_length : (v : Number) → length (written (bytes (map character (whole_digits v)) ++ bytes (after_point (map character (fraction_digits v))))) ≡ length (printed v)
events_length v = ap length (events_text v)

-- a piece that is one block
pub whole_piece : (text : List ℕ) (count base size : ℕ) → size ≡ 64 → text ≡ map character (digits_down count base 64) → take size text ≡ map character (digits_down count base size)
whole_piece text count base size e h =
    let long : length text ≡ 64 = ap length h ∙ printed_length count base 64 in
    ap (λ n. take n text) e ∙ take_all 64 text (omega (arith, long)) ∙ h ∙ ap (λ n. map character (digits_down count base n)) (sym e)
