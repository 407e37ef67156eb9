-- The text of digits with a unit: zeros after the fraction, and affixes around the number.
use Rattle.std.proofs.Common.{◌≡◌, ℕ, zero, suc, ◌+◌, ◌-◌, ◌*◌, ◌^◌, ◌≤◌, min, map, List, [], ◌∷◌, ◌++◌, IsUtf8, length, length-append, replicate, take, sym, subst, ap, ◌∙◌, append_assoc, pow-add, refl, arith}
use Rattle.std.proofs.lemmas.List.{length-replicate, take-replicate}
use Rattle.std.proofs.lemmas.Str.{IsUtf8-had}
use Rattle.std.proofs.Math.Nat.{mul_assoc}
use Rattle.std.specs.Char.{digit_value}
use Rattle.fixed_decimal.specs.NumberText.{AreDigits, spelled}
use Rattle.fixed_decimal.specs.declared.Sign.{Sign}
use Rattle.fixed_decimal.specs.declared.Sign.TheVariants.{None as NoSign, Negative, Positive}
use Rattle.icu_decimal_plain.specs.PlainText.{Tables, decimal_text, unsigned_text, whole_text}
use Rattle.icu_decimal_direct.specs.Direct.{AreHeld}
use Rattle.icu_decimal_direct.specs.FewDigits.{AreFewDigits, plain_number}
use Rattle.icu_decimal_direct.specs.UnitTexts.{shown_down, text_for}
use Rattle.icu_decimal_direct.specs.HeldUnits.{short_text}
use Rattle.icu_decimal_direct.specs.declared.short_text.ShortText.{ShortText}
use Rattle.icu_decimal_direct.specs.declared.text_tables.Direct.{Direct}
use Rattle.icu_decimal_direct.proofs.OperandsLemmas.{spelled_joined}
use Rattle.icu_decimal_direct.proofs.ShownLemmas.{digits_both, digits_told, told_digits}
use Rattle.icu_decimal_direct.proofs.TextLemmas.{put_both, put_whole}
use Rattle.icu_decimal_direct.proofs.Utf8Lemmas.{utf8_between, utf8_decimal}

-- ---- zeros

zeros_are : (n : ℕ) → AreDigits (replicate n 48)
zeros_are zero = tt
zeros_are (suc n) = (omega arith, zeros_are n)

zeros_spell : (n : ℕ) → spelled (replicate n 48) ≡ 0
zeros_spell zero = refl
zeros_spell (suc n) = spelled_joined (48 ∷ []) (replicate n 48) ∙ omega (arith, zeros_spell n)

-- so many zeros of thirty-two
pub zeros_of : (n : ℕ) → n ≤ 32 → take {A = ℕ} n (replicate 32 48) ≡ replicate n 48
zeros_of n few = take-replicate n 32 48 few

-- digits with zeros after them are few digits
pub few_shown : (integer fraction : List ℕ) (least : ℕ) → AreFewDigits integer fraction → least ≤ 32 → AreFewDigits integer (fraction ++ replicate (least - length fraction) 48)
few_shown integer fraction least h few =
    let below = h.few_below in
    let size : length (fraction ++ replicate (least - length fraction) 48) ≡ length fraction + (least - length fraction)
    = length-append fraction (replicate (least - length fraction) 48) ∙ ap (λ n. length fraction + n) (length-replicate (least - length fraction) 48) in
    record {
      whole = h.whole;
      part = told_digits _ (digits_both fraction (replicate (least - length fraction) 48) (digits_told fraction h.part) (zeros_are (least - length fraction)));
      some = h.some;
      few = h.few;
      few_below = omega (arith, size, below, few);
    }

-- and they are those of the number, shown further down
pub shown_is : (sign : Sign) (integer fraction : List ℕ) (least : ℕ) → AreFewDigits integer fraction → least ≤ 32
    → plain_number integer (fraction ++ replicate (least - length fraction) 48) ≡ (shown_down least (record { sign = sign; absolute = plain_number integer fraction })).absolute
shown_is sign integer fraction least h few =
    let below = h.few_below in
    let some = h.some in
    let f : ℕ = length fraction in
    let z : ℕ = least - f in
    let zeros : List ℕ = replicate z 48 in
    let n : ℕ = spelled (integer ++ fraction) in
    let size : length (fraction ++ zeros) ≡ f + z = length-append fraction zeros ∙ ap (λ k. f + k) (length-replicate z 48) in
    let spells : spelled (integer ++ (fraction ++ zeros)) ≡ n * 10 ^ z
    = ap spelled (sym (append_assoc integer fraction zeros)) ∙ spelled_joined (integer ++ fraction) zeros ∙ ap (λ k. n * 10 ^ k + spelled zeros) (length-replicate z 48) ∙ ap (λ k. n * 10 ^ z + k) (zeros_spell z) ∙ omega arith in
    let power : 10 ^ (32768 + 0 - (f + 0)) ≡ 10 ^ z * 10 ^ (32768 + 0 - (f + z + 0)) = ap (λ e. 10 ^ e) (omega (arith, below, few)) ∙ pow-add 10 z (32768 + 0 - (f + z + 0)) in
    let count : spelled (integer ++ (fraction ++ zeros)) * 10 ^ (32768 + 0 - (length (fraction ++ zeros) + 0)) ≡ n * 10 ^ (32768 + 0 - (f + 0))
    = ap (λ k. k * 10 ^ (32768 + 0 - (length (fraction ++ zeros) + 0))) spells ∙ ap (λ k. n * 10 ^ z * 10 ^ (32768 + 0 - (k + 0))) size ∙ mul_assoc n (10 ^ z) (10 ^ (32768 + 0 - (f + z + 0))) ∙ ap (λ k. n * k) (sym power) in
    let low : (plain_number integer (fraction ++ zeros)).low ≡ min (plain_number integer fraction).low (32768 - least) = omega (arith, size, below, few) in
    ap (λ c. record { count = c; low = (plain_number integer (fraction ++ zeros)).low; high = (plain_number integer (fraction ++ zeros)).high }) count
    ∙ ap (λ l. record { count = n * 10 ^ (32768 + 0 - (f + 0)); low = l; high = (plain_number integer fraction).high }) low

-- put, without a fraction
pub shown_whole : (t : Tables) (sign : Sign) (integer fraction before after : List ℕ) (least : ℕ) → AreFewDigits integer fraction → least ≤ 32 → length fraction + (least - length fraction) ≡ 0
    → after ≡ before ++ whole_text t (map digit_value integer) → after ≡ before ++ unsigned_text t (shown_down least (record { sign = sign; absolute = plain_number integer fraction })).absolute
shown_whole t sign integer fraction before after least h few none put =
    let zeros : List ℕ = replicate (least - length fraction) 48 in
    let size : length (fraction ++ zeros) ≡ 0 = length-append fraction zeros ∙ ap (λ k. length fraction + k) (length-replicate (least - length fraction) 48) ∙ none in
    put_whole t integer (fraction ++ zeros) before after (few_shown integer fraction least h few) size put
    ∙ ap (λ v. before ++ unsigned_text t v) (shown_is sign integer fraction least h few)

-- and with one
pub shown_both : (t : Tables) (d : Direct) (sign : Sign) (integer fraction before whole pointed shown after : List ℕ) (least : ℕ) → AreHeld d t → AreFewDigits integer fraction → least ≤ 32
    → ¬ (length fraction + (least - length fraction) ≡ 0) → whole ≡ before ++ whole_text t (map digit_value integer) → pointed ≡ whole ++ d.decimal.now → shown ≡ pointed ++ fraction
    → after ≡ shown ++ replicate (least - length fraction) 48
    → after ≡ before ++ unsigned_text t (shown_down least (record { sign = sign; absolute = plain_number integer fraction })).absolute
shown_both t d sign integer fraction before whole pointed shown after least held h few some is point digits put =
    let zeros : List ℕ = replicate (least - length fraction) 48 in
    let size : length (fraction ++ zeros) ≡ length fraction + (least - length fraction) = length-append fraction zeros ∙ ap (λ k. length fraction + k) (length-replicate (least - length fraction) 48) in
    put_both t d integer (fraction ++ zeros) before whole pointed after held (few_shown integer fraction least h few) (omega (arith, size, some)) is point
    (put ∙ ap (λ list. list ++ zeros) digits ∙ append_assoc pointed fraction zeros)
    ∙ ap (λ v. before ++ unsigned_text t v) (shown_is sign integer fraction least h few)

-- ---- affixes

-- a number put between two texts
pub between_put : (before begun shown after prefix number suffix : List ℕ) → begun ≡ before ++ prefix → shown ≡ begun ++ number → after ≡ shown ++ suffix → after ≡ before ++ (prefix ++ (number ++ suffix))
between_put before begun shown after prefix number suffix first is last =
    last ∙ ap (λ list. list ++ suffix) (is ∙ ap (λ list. list ++ number) first)
    ∙ append_assoc (before ++ prefix) number suffix ∙ append_assoc before prefix (number ++ suffix)

pub utf8_shown : (t : Tables) (d : Direct) (sign : Sign) (integer fraction before behind : List ℕ) (least : ℕ) → AreHeld d t → AreFewDigits integer fraction → least ≤ 32 → IsUtf8 before → IsUtf8 behind
    → IsUtf8 (before ++ (unsigned_text t (shown_down least (record { sign = sign; absolute = plain_number integer fraction })).absolute ++ behind))
utf8_shown t d sign integer fraction before behind least held h few first last =
    subst (λ v. IsUtf8 (before ++ (unsigned_text t v ++ behind))) (shown_is sign integer fraction least h few)
    (utf8_between t d integer (fraction ++ replicate (least - length fraction) 48) before behind held (few_shown integer fraction least h few) first last)

-- between the affixes of its sign alone
pub utf8_down : (t : Tables) (d : Direct) (sign : Sign) (integer fraction : List ℕ) (least : ℕ) → AreHeld d t → AreFewDigits integer fraction → least ≤ 32
    → IsUtf8 (decimal_text t (shown_down least (record { sign = sign; absolute = plain_number integer fraction })))
utf8_down t d sign integer fraction least held h few =
    subst (λ v. IsUtf8 (decimal_text t (record { sign = sign; absolute = v }))) (shown_is sign integer fraction least h few)
    (utf8_decimal t d sign integer (fraction ++ replicate (least - length fraction) 48) held (few_shown integer fraction least h few))

texts_utf8 : (a b c : List ℕ) (sign : Sign) → IsUtf8 a → IsUtf8 b → IsUtf8 c → IsUtf8 (text_for (record { none = a; minus = b; plus = c }) sign)
texts_utf8 a b c NoSign p q r = p
texts_utf8 a b c Negative p q r = q
texts_utf8 a b c Positive p q r = r

-- the texts of short texts
pub shorts_utf8 : (none minus plus : ShortText) (sign : Sign) → IsUtf8 (text_for (record { none = short_text none; minus = short_text minus; plus = short_text plus }) sign)
shorts_utf8 none minus plus sign =
    texts_utf8 (short_text none) (short_text minus) (short_text plus) sign (IsUtf8-had (short_text none) none.held.utf8) (IsUtf8-had (short_text minus) minus.held.utf8) (IsUtf8-had (short_text plus) plus.held.utf8)
