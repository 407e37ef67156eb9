-- The digits of a text, one character after another.
use Rattle.std.proofs.Common.{◌≡◌, ℕ, ◌+◌, ◌-◌, ◌≤◌, ◌==◌, nat_le, Bool, true, false, ◌&&◌, cond, List, [], ◌∷◌, ◌++◌, map, slice_get, Option, None, Some, option_map, refl, sym, ap, subst, ◌∙◌, append_assoc, arith}
use Rattle.std.proofs.lemmas.Bool.{and_from, and_parts, eq-eqb, leb-true, ne_eqb}
use Rattle.std.proofs.lemmas.List.{append-nil}
use Rattle.std.specs.List.{cons_option, find, list_all}
use Rattle.std.specs.Str.{IsUtf8, chars}
use Rattle.std.proofs.lemmas.Str.{scalars-chars}
use Rattle.std.proofs.Math.Utf8.{scalars}
use lib.Utf8.{encode, encodes, scalar, low_scalar}
use Rattle.icu_decimal_plain.specs.PlainText.{Tables}
use Rattle.icu_decimal_reading.specs.ReadingLaws.{AreTables}
use Rattle.icu_decimal_lenient.specs.TypedReading.{arabic_tables}
use Rattle.icu_decimal_lenient.specs.Native.{are_of, arabic_text, ascii_text, has_arabic_digits, in_ascii, is_from, native_system, native_text, native_zeros, system_of, systems_in, zeros}

-- ---- a character

above : (c z : ℕ) (b : Bool) → c ≤ 0x7F → nat_le 0x80 z ≡ true → nat_le z c ≡ b → b ≡ false
above c z false low high e = refl
above c z true low high e = let up : 0x80 ≤ z = leb-true 0x80 z high in let down : z ≤ c = leb-true z c e in absurd (omega (arith, low, up, down))

-- nothing of ASCII counts from a nought beyond it
below_all : (c : ℕ) (zs : List ℕ) → c ≤ 0x7F → list_all (nat_le 0x80) zs ≡ true → find (is_from c) zs ≡ None
below_all c [] low high = refl
below_all c (z ∷ zs) low high =
    let parts = and_parts (nat_le 0x80 z) (list_all (nat_le 0x80) zs) high in
    ap (λ b. cond (b && nat_le (c - z) 9) (Some z) (find (is_from c) zs)) (above c z (nat_le z c) low parts.0 refl)
    ∙ below_all c zs low parts.1

-- a digit of ASCII, and anything else in it
pub ascii_digit : (c : ℕ) → true ≡ is_from c 0x30 → Some 0x30 ≡ system_of c
unfolding system_of
ascii_digit c is = ap (λ b. cond b (Some 0x30) (find (is_from c) native_zeros)) is

all_beyond : list_all (nat_le 0x80) native_zeros ≡ true
unfolding native_zeros
all_beyond = refl

pub ascii_other : (c : ℕ) → c ≤ 0x7F → false ≡ is_from c 0x30 → None ≡ system_of c
unfolding system_of
ascii_other c low is = sym (below_all c native_zeros low all_beyond) ∙ ap (λ b. cond b (Some 0x30) (find (is_from c) native_zeros)) is

-- ---- the first digit

pub first_here : (cs rest : List ℕ) (c z : ℕ) (whole : Option ℕ) → cs ≡ c ∷ rest → Some z ≡ system_of c → slice_get (systems_in cs) 0 ≡ whole → Some z ≡ whole
first_here cs rest c z whole is found before =
    ap (λ o. slice_get (cons_option o (systems_in rest)) 0) found ∙ sym (ap (λ t. slice_get (systems_in t) 0) is) ∙ before

pub first_more : (cs rest : List ℕ) (c : ℕ) (whole : Option ℕ) → cs ≡ c ∷ rest → None ≡ system_of c → slice_get (systems_in cs) 0 ≡ whole → slice_get (systems_in rest) 0 ≡ whole
first_more cs rest c whole is none before =
    ap (λ o. slice_get (cons_option o (systems_in rest)) 0) none ∙ sym (ap (λ t. slice_get (systems_in t) 0) is) ∙ before

pub first_end : (cs : List ℕ) (whole : Option ℕ) → cs ≡ [] → slice_get (systems_in cs) 0 ≡ whole → None ≡ whole
first_end cs whole is before = sym (ap (λ t. slice_get (systems_in t) 0) is) ∙ before

-- ---- all digits

pub only_not : (cs rest : List ℕ) (c s nought : ℕ) (whole : Bool) → cs ≡ c ∷ rest → Some s ≡ system_of c → (s ≡ nought → ⊥) → are_of nought cs ≡ whole → false ≡ whole
only_not cs rest c s nought whole is found apart before =
    sym (ap (λ b. b && are_of nought rest) (ne_eqb s nought apart))
    ∙ ap (λ o. list_all (λ system. system == nought) (cons_option o (systems_in rest))) found ∙ sym (ap (are_of nought) is) ∙ before

pub only_more : (cs rest : List ℕ) (c s nought : ℕ) (whole : Bool) → cs ≡ c ∷ rest → Some s ≡ system_of c → s ≡ nought → are_of nought cs ≡ whole → are_of nought rest ≡ whole
only_more cs rest c s nought whole is found same before =
    sym (ap (λ b. b && are_of nought rest) (eq-eqb s nought same))
    ∙ ap (λ o. list_all (λ system. system == nought) (cons_option o (systems_in rest))) found ∙ sym (ap (are_of nought) is) ∙ before

pub only_other : (cs rest : List ℕ) (c nought : ℕ) (whole : Bool) → cs ≡ c ∷ rest → None ≡ system_of c → are_of nought cs ≡ whole → are_of nought rest ≡ whole
only_other cs rest c nought whole is none before =
    ap (λ o. list_all (λ system. system == nought) (cons_option o (systems_in rest))) none ∙ sym (ap (are_of nought) is) ∙ before

pub only_end : (cs : List ℕ) (nought : ℕ) (whole : Bool) → cs ≡ [] → are_of nought cs ≡ whole → true ≡ whole
only_end cs nought whole is before = sym (ap (are_of nought) is) ∙ before

-- ---- put in ASCII after a text

pub ascii_more : (cs rest out after whole : List ℕ) (c a : ℕ) → cs ≡ c ∷ rest → a ≡ in_ascii (system_of c) c → out ++ encodes (map (λ c. in_ascii (system_of c) c) cs) ≡ whole
    → after ≡ out ++ encode a → after ++ encodes (map (λ c. in_ascii (system_of c) c) rest) ≡ whole
ascii_more cs rest out after whole c a is plain before put =
    ap (λ bytes. bytes ++ encodes (map (λ c. in_ascii (system_of c) c) rest)) (put ∙ ap (λ a. out ++ encode a) plain)
    ∙ append_assoc out (encode (in_ascii (system_of c) c)) (encodes (map (λ c. in_ascii (system_of c) c) rest))
    ∙ sym (ap (λ t. out ++ encodes (map (λ c. in_ascii (system_of c) c) t)) is) ∙ before

pub ascii_end : (cs out whole : List ℕ) → cs ≡ [] → out ++ encodes (map (λ c. in_ascii (system_of c) c) cs) ≡ whole → out ≡ whole
ascii_end cs out whole is before = sym (append-nil out) ∙ sym (ap (λ t. out ++ encodes (map (λ c. in_ascii (system_of c) c) t)) is) ∙ before

-- ---- separators

pub arabic_point : encodes (0x66B ∷ []) ≡ 0xD9 ∷ 0xAB ∷ []
unfolding encode
arabic_point = refl

pub arabic_group : encodes (0x66C ∷ []) ≡ 0xD9 ∷ 0xAC ∷ []
unfolding encode
arabic_group = refl

pub are_arabic : (t : Tables) → AreTables t → AreTables (arabic_tables t)
are_arabic t are = record {
  ten = are.ten;
  digits = are.digits;
  minus_prefix = are.minus_prefix;
  minus_suffix = are.minus_suffix;
  plus_prefix = are.plus_prefix;
  plus_suffix = are.plus_suffix;
  point = (0x66B ∷ [], (refl, refl));
  group = (0x66C ∷ [], (refl, refl));
}

-- ---- a text in ASCII is UTF-8

find_step : (b : Bool) (c z nought : ℕ) (rest : Option ℕ) → is_from c z ≡ b → (rest ≡ Some nought → is_from c nought ≡ true) → cond b (Some z) rest ≡ Some nought → is_from c nought ≡ true
find_step true c z nought rest is more e = subst (λ n. is_from c n ≡ true) (same e) is
  where
    same : Some z ≡ Some nought → z ≡ nought
    same e = cc
find_step false c z nought rest is more e = more e

find_counts : (c nought : ℕ) (zs : List ℕ) → find (is_from c) zs ≡ Some nought → is_from c nought ≡ true
find_counts c nought [] e = absurd (none_some e)
  where
    none_some : None ≡ Some nought → ⊥
    none_some e = cc
find_counts c nought (z ∷ zs) e = find_step (is_from c z) c z nought (find (is_from c) zs) refl (find_counts c nought zs) e

counts : (c nought : ℕ) → system_of c ≡ Some nought → is_from c nought ≡ true
unfolding system_of
counts c nought e = find_counts c nought zeros e

ascii_scalar : (c : ℕ) (o : Option ℕ) → system_of c ≡ o → scalar c ≡ true → scalar (in_ascii o c) ≡ true
ascii_scalar c None is one = one
ascii_scalar c (Some nought) is one =
    let near : c - nought ≤ 9 = leb-true (c - nought) 9 (and_parts (nat_le nought c) (nat_le (c - nought) 9) (counts c nought is)).1 in
    low_scalar (c - nought + 48) (omega (arith, near))

ascii_scalars : (cs : List ℕ) → scalars cs ≡ true → scalars (map (λ c. in_ascii (system_of c) c) cs) ≡ true
ascii_scalars [] is = refl
ascii_scalars (c ∷ cs) is =
    let parts = and_parts (scalar c) (scalars cs) is in
    and_from (scalar (in_ascii (system_of c) c)) (scalars (map (λ c. in_ascii (system_of c) c) cs)) (ascii_scalar c (system_of c) refl parts.0) (ascii_scalars cs parts.1)

pub ascii_utf8 : (text : List ℕ) → IsUtf8 text → IsUtf8 (ascii_text text)
ascii_utf8 text utf8 = (map (λ c. in_ascii (system_of c) c) (chars text), (ascii_scalars (chars text) (scalars-chars text utf8), refl))

pub native_utf8 : (text native : List ℕ) → IsUtf8 text → native_text text ≡ Some native → IsUtf8 native
native_utf8 text native utf8 is = by (native_system (chars text)) is
  where
    by : (o : Option ℕ) → option_map (λ nought. ascii_text text) o ≡ Some native → IsUtf8 native
    by None e = absurd (none_some e)
      where
        none_some : None ≡ Some native → ⊥
        none_some e = cc
    by (Some nought) e = subst IsUtf8 (some_same e) (ascii_utf8 text utf8)
      where
        some_same : Some (ascii_text text) ≡ Some native → ascii_text text ≡ native
        some_same e = cc

-- what is spelled for Arabic digits is so for any
pub arabic_native : (text native : List ℕ) → arabic_text text ≡ Some native → native_text text ≡ Some native
arabic_native text native is = by (has_arabic_digits text) is
  where
    by : (b : Bool) → cond b (native_text text) None ≡ Some native → native_text text ≡ Some native
    by true e = e
    by false e = absurd (none_some e)
      where
        none_some : None ≡ Some native → ⊥
        none_some e = cc
