-- The fields of a line by its first tab.
use Rattle.std.proofs.Common.{◌≡◌, ◌++◌, ◌+◌, ◌∙◌, ℕ, List, Bool, true, false, length, sym, ap, refl, arith, Result, Ok, Err, is_ok, MatchResult}
use Rattle.std.specs.Str.{IsUtf8, is_utf8}
use Rattle.std.proofs.lemmas.Str.{IsUtf8-from_is_utf8, is_utf8-from_IsUtf8}
use Rattle.std.specs.List.{count_by}
use Rattle.std.proofs.lemmas.List.{length-append}
use Rattle.std.proofs.lemmas.List.Splits.{length-slice_split}
use Rattle.locale_numbers_formats.specs.Cutting.{is_separator, cut_at}

-- so many pieces and what follows a separator are more than so many
pub more_than : (separator : ℕ) (text rest : List ℕ) (pieces : List (List ℕ)) → cut_at separator text ≡ pieces ++ cut_at separator rest → length (cut_at separator text) ≡ length pieces → ⊥
more_than separator text rest pieces more same =
    let most : length (cut_at separator text) ≡ length pieces + length (cut_at separator rest) = ap length more ∙ length-append pieces (cut_at separator rest) in
    let some : length (cut_at separator rest) ≡ count_by (is_separator separator) rest + 1 = length-slice_split (is_separator separator) rest in
    omega arith

-- a test that fails where it would show a fact that does not hold
fails : (b : Bool) {P : Type 0} → (b ≡ true → P) → (P → ⊥) → false ≡ b
fails true shows denies = absurd (denies (shows refl))
fails false shows denies = refl

-- a reading as text succeeds exactly where the bytes are UTF-8
pub text_tells : {S E : Type 0} (bytes : List ℕ) (P : S → Type 0) (Q : E → Type 0) (r : Result S E) → MatchResult r (λ s. P s × IsUtf8 bytes) (λ e. (IsUtf8 bytes → ⊥) × Q e) → is_ok r ≡ is_utf8 bytes
text_tells bytes P Q (Ok s) read = sym (is_utf8-from_IsUtf8 bytes read.1)
text_tells bytes P Q (Err e) read = fails (is_utf8 bytes) (IsUtf8-from_is_utf8 bytes) read.0

-- bytes that are no text fail the test
pub not_text : (bytes : List ℕ) → (IsUtf8 bytes → ⊥) → is_utf8 bytes ≡ false
not_text bytes broken = sym (fails (is_utf8 bytes) (IsUtf8-from_is_utf8 bytes) broken)
