-- A form in a longer one, as in the bytes of a word; and that the bytes of a form are ASCII.
use Rattle.std.proofs.Common.{◌≡◌, ℕ, suc, zero, ◌+◌, ◌-◌, ◌<◌, ◌≤◌, List, ◌++◌, length, drop, get_or, replicate, ap, arith, ◌∙◌}
use Rattle.std.specs.List.{All}
use Rattle.std.specs.Str.{IsAscii}
use Rattle.std.specs.Int.{w64, to_le_bytes, from_le_bytes}
use Rattle.std.proofs.lemmas.List.{append_assoc, drop-replicate, replicate-append-replicate}
use Rattle.std.proofs.lemmas.Nat.{le_bytes_8}
use Rattle.std.proofs.lemmas.Str.{IsAscii-append}
use Rattle.std.proofs.lemmas.Str.Ascii.{IsAscii-cons, IsAscii-nil, All-from_ascii}
use Rattle.tinystr.specs.SmallText.{NUL, IsSmall, IsForm, padded, text_of}
use Rattle.tinystr.proofs.SmallTextLemmas.{IsAscii-text}
use Rattle.tinystr.proofs.FormsLemmas.{length-form, length-padded}

IsAscii-nuls : (k : ℕ) → IsAscii (replicate k NUL)
IsAscii-nuls zero = IsAscii-nil
IsAscii-nuls (suc k) = IsAscii-cons NUL (replicate k NUL) (omega arith) (IsAscii-nuls k)

pub IsAscii-padded : (n : ℕ) (text : List ℕ) → IsSmall n text → IsAscii (padded n text)
unfolding padded
IsAscii-padded n text small = IsAscii-append text (replicate (n - length text) NUL) (IsAscii-text text small.ascii) (IsAscii-nuls (n - length text))

-- every byte of a form is ASCII
pub form_is_ascii : (n : ℕ) (text bytes : List ℕ) → IsSmall n text → bytes ≡ padded n text → All (λ b. b < 128) bytes
form_is_ascii n text bytes small e = rw e (All-from_ascii (padded n text) (IsAscii-padded n text small))

-- a form written over the first of m NULs is the longer form
pub form_widened : (n m : ℕ) (form bytes : List ℕ) → IsForm n form → n ≤ m → bytes ≡ form ++ drop (length form) (replicate m NUL)
    → bytes ≡ padded m (text_of form)
unfolding padded
form_widened n m form bytes is fits e =
    let text = text_of form in
    let short = is.small.short in
    let long : length form ≡ n = length-form n form is in
    let behind : drop (length form) (replicate m NUL) ≡ replicate (m - n) NUL = ap (λ k. drop k (replicate m NUL)) long ∙ drop-replicate n m NUL in
    let count : (n - length text) + (m - n) ≡ m - length text = omega (arith, is.small.short) in
    e ∙ ap (λ l. form ++ l) behind ∙ ap (λ l. l ++ replicate (m - n) NUL) is.rest
    ∙ append_assoc text (replicate (n - length text) NUL) (replicate (m - n) NUL)
    ∙ ap (λ l. text ++ l) (replicate-append-replicate (n - length text) (m - n) NUL ∙ ap (λ k. replicate k NUL) count)

pub IsSmall-wider : (n m : ℕ) (text : List ℕ) → n ≤ m → IsSmall n text → IsSmall m text
IsSmall-wider n m text fits small = record { short = omega (arith, small.short); ascii = small.ascii }

below_256 : (n : ℕ) (text bytes : List ℕ) → IsSmall n text → bytes ≡ padded n text → (i : ℕ) → get_or bytes i 0 < 256
below_256 n text bytes small e i =
    let low : get_or (padded n text) i 0 < 128 = IsAscii-padded n text small i in
    let same : get_or bytes i 0 ≡ get_or (padded n text) i 0 = ap (λ l. get_or l i 0) e in
    omega arith

-- the bytes of the word that a form makes are the form
pub word_of_8 : (text bytes : List ℕ) (word : ℕ) → IsSmall 8 text → bytes ≡ padded 8 text → word ≡ from_le_bytes w64 bytes → to_le_bytes w64 word ≡ bytes
word_of_8 text bytes word small e made = le_bytes_8 bytes word (ap length e ∙ length-padded 8 text small.short) (below_256 8 text bytes small e) made
