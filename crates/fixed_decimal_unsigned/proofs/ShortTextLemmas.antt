-- A short text: its digits in a word, and the number that they make.
use Rattle.std.proofs.Common.{◌≡◌, ℕ, suc, ◌+◌, ◌-◌, ◌*◌, ◌^◌, ◌<◌, ◌≤◌, Bool, true, false, cond, ◌==◌, ◌||◌, List, [], ◌∷◌, ◌++◌, length, length-append, length-drop, take, drop, inl, refl, sym, ap, ◌∙◌, subst, arith}
use Rattle.std.proofs.lemmas.List.{append-nil, length-take-le, take_all, take-append-drop}
use Rattle.std.specs.Char.{digit_value}
use Rattle.std.specs.Int.Digits.{number_from_digits}
use Rattle.std.specs.Str.Parse.{digits_value_after}
use Rattle.fixed_decimal_digits.specs.DigitWord.{word_digits, SpellsNumber, IsCutWord}
use Rattle.fixed_decimal_digits.proofs.NumberWordLemmas.{text_spells, spells_wide}
use Rattle.fixed_decimal_digits.proofs.WordLemmas.{digits_joined, power_positive, powers_rise, value_below}
use Rattle.fixed_decimal_unsigned.specs.Number.{Number}
use Rattle.fixed_decimal_unsigned.specs.NumberText.{AreDigits, spelled, point, after_point, Parts, Spells, AreEndsIn, IsWithin, number_at, number_of, mantissa_of, up_of, down_of, Reads}
use Rattle.fixed_decimal_unsigned.specs.ShortText.{SpellsShort}

plain_spelled : (text integer fraction : List ℕ) → text ≡ integer ++ after_point fraction → AreDigits integer → AreDigits fraction → 0 < length integer + length fraction → Spells text (record { integer = integer; fraction = fraction; negative = false; exponent = [] })
plain_spelled text integer fraction e h k some = record {
  last = [];
  whole = e ∙ ap (λ t. integer ++ t) (sym (append-nil (after_point fraction)));
  integer_digits = h;
  fraction_digits = k;
  some = some;
  power = record { mark = 101; is_mark = inl refl; digits = tt; whole = refl };
}

short_made : (text integer fraction : List ℕ) (word above below : ℕ) → text ≡ integer ++ after_point fraction → AreDigits integer → AreDigits fraction → 0 < above + below → above + below ≤ 16
    → length integer ≡ above → length fraction ≡ below → word ≡ digits_value_after 16 0 (integer ++ fraction) → SpellsShort text word above below
short_made text integer fraction word above below e h k some few a b w = record {
  parts = record { integer = integer; fraction = fraction; negative = false; exponent = [] };
  spells = plain_spelled text integer fraction e h k (omega arith);
  plain = refl;
  integer = a;
  fraction = b;
  word_is =
      let count : length (integer ++ fraction) ≡ above + below = omega (arith, length-append integer fraction) in
      subst (λ n. SpellsNumber word n (spelled (integer ++ fraction))) count
      (subst (λ v. SpellsNumber v (length (integer ++ fraction)) (spelled (integer ++ fraction))) (sym w) (text_spells (integer ++ fraction) (digits_joined integer fraction h k)));
  few = few;
}

-- a text of digits alone
pub short_whole : (text : List ℕ) (word above : ℕ) → length text ≤ 16 → above ≡ length text → 0 < above → AreDigits (take above text) → word ≡ digits_value_after 16 0 (take above text) → SpellsShort text word above 0
short_whole text word above few e some h w =
    let all : take above text ≡ text = take_all above text (omega arith) in
    let none : text ≡ text ++ after_point [] = sym (append-nil text) in
    short_made text text [] word above 0 none (subst AreDigits all h) tt (omega arith) (omega arith) (sym e) refl
    (w ∙ ap (digits_value_after 16 0) (all ∙ none))

point_before : (fraction : List ℕ) → 0 < length fraction → after_point fraction ≡ point ∷ fraction
point_before [] p = absurd (omega arith)
point_before (c ∷ cs) p = refl

folded_joined : (xs ys : List ℕ) (n : ℕ) → digits_value_after 16 (digits_value_after 16 n xs) ys ≡ digits_value_after 16 n (xs ++ ys)
folded_joined [] ys n = refl
folded_joined (x ∷ xs) ys n = folded_joined xs ys (n * 16 + digit_value x)

-- the digits after the point fit in the word with those before it
pub room_after : (text fraction : List ℕ) (mark whole above : ℕ) → length text ≤ 16 → above ≤ length text → drop above text ≡ mark ∷ fraction → AreDigits (take above text)
    → whole ≡ digits_value_after 16 0 (take above text) → whole < 16 ^ (16 - length fraction)
room_after text fraction mark whole above few within e h v =
    let left : suc (length fraction) ≡ length text - above = sym (ap length e) ∙ length-drop above text in
    let below = value_below (take above text) 0 0 h (power_positive 0) in
    let rise = powers_rise (0 + length (take above text)) (16 - length fraction) (omega (arith, length-take-le above text within, left)) in
    omega (arith, below, rise, v)

-- digits, a point and digits
pub short_both : (text fraction : List ℕ) (mark whole word above below : ℕ) → length text ≤ 16 → above ≤ length text → drop above text ≡ mark ∷ fraction → mark ≡ 46
    → AreDigits (take above text) → whole ≡ digits_value_after 16 0 (take above text) → below ≡ length fraction → 0 < below → AreDigits (take below fraction)
    → word ≡ digits_value_after 16 whole (take below fraction) → SpellsShort text word above below
short_both text fraction mark whole word above below few within e m h v b some k w =
    let integer = take above text in
    let all : take below fraction ≡ fraction = take_all below fraction (omega arith) in
    let left : suc (length fraction) ≡ length text - above = sym (ap length e) ∙ length-drop above text in
    let split : text ≡ integer ++ after_point fraction =
    sym (take-append-drop above text) ∙ ap (λ t. integer ++ t) (e ∙ ap (λ c. c ∷ fraction) m ∙ sym (point_before fraction (omega arith))) in
    short_made text integer fraction word above below split h (subst AreDigits all k) (omega arith) (omega arith) (length-take-le above text within) (sym b)
    (w ∙ ap (digits_value_after 16 whole) all ∙ ap (λ n. digits_value_after 16 n fraction) v ∙ folded_joined integer fraction 0)

-- both ends of at most sixteen digits are in range
pub short_ends : (above below : ℕ) → above + below ≤ 16 → AreEndsIn above below 0 0
short_ends above below h = record { exponent_high = omega arith; exponent_low = omega arith; first = omega arith; last = omega arith }

no_move : (parts : Parts) → parts.exponent ≡ [] → (up_of parts ≡ 0) × (down_of parts ≡ 0)
no_move parts e =
    let none : spelled parts.exponent ≡ 0 = ap spelled e in
    (same (mantissa_of parts == 0 || parts.negative) (spelled parts.exponent) none, other (mantissa_of parts == 0) parts.negative (spelled parts.exponent) none)
  where
    same : (b : Bool) (n : ℕ) → n ≡ 0 → cond b 0 n ≡ 0
    same true n e = refl
    same false n e = e

    other : (b c : Bool) (n : ℕ) → n ≡ 0 → cond b 0 (cond c n 0) ≡ 0
    other true c n e = refl
    other false true n e = e
    other false false n e = refl

pub short_number : (text : List ℕ) (word above below : ℕ) (s : SpellsShort text word above below)
    → IsWithin s.parts × (number_at (number_from_digits 10 (word_digits word (above + below))) above below 0 0 ≡ number_of s.parts)
short_number text word above below s =
    let moves = no_move s.parts s.plain in (
      subst (λ u. AreEndsIn (length s.parts.integer) (length s.parts.fraction) u (down_of s.parts)) (sym moves.0)
          (subst (λ d. AreEndsIn (length s.parts.integer) (length s.parts.fraction) 0 d) (sym moves.1)
          (short_ends (length s.parts.integer) (length s.parts.fraction) (let few = s.few in omega (arith, s.integer, s.fraction)))),
      ap (λ m. number_at m above below 0 0) s.word_is.value
          ∙ ap (λ a. number_at (mantissa_of s.parts) a below 0 0) (sym s.integer)
          ∙ ap (λ b. number_at (mantissa_of s.parts) (length s.parts.integer) b 0 0) (sym s.fraction)
          ∙ ap (λ u. number_at (mantissa_of s.parts) (length s.parts.integer) (length s.parts.fraction) u 0) (sym moves.0)
          ∙ ap (λ d. number_at (mantissa_of s.parts) (length s.parts.integer) (length s.parts.fraction) (up_of s.parts) d) (sym moves.1),
    )

-- so the text reads as that number
pub short_reads : (text : List ℕ) (word above below : ℕ) (v : Number) → SpellsShort text word above below → v ≡ number_at (number_from_digits 10 (word_digits word (above + below))) above below 0 0 → Reads text v
short_reads text word above below v s e =
    let number = short_number text word above below s in
    record { parts = s.parts; spells = s.spells; within = number.0; is = e ∙ number.1 }

-- the digits left of a word make the number of the whole word
pub cut_value : (word left count below n : ℕ) → n ≤ 16 → SpellsNumber word n (number_from_digits 10 (word_digits word n)) → IsCutWord word left count below
    → number_from_digits 10 (word_digits word n) ≡ number_from_digits 10 (word_digits left count) * 10 ^ below
cut_value word left count below n few s c =
    let whole : (16 - n) + n ≡ 16 = omega arith in
    let wide = spells_wide (16 - n) word n (number_from_digits 10 (word_digits word n)) s in
    sym wide.value ∙ ap (λ k. number_from_digits 10 (word_digits word k)) whole ∙ c.value
