-- Bytes without quotes: none of them is in quotes, and a field ends at the first delimiter.
use Rattle.std.proofs.Common.{◌≡◌, ℕ, zero, suc, ◌<◌, List, [], ◌∷◌, Bool, true, false, length, get_or, Option, None, Some, refl, sym, ap, arith}
use Rattle.std.specs.Prelude.{◌==◌, ◌||◌, is_some}
use Rattle.std.proofs.lemmas.Bool.{false_from_ne_true}
use Rattle.memchr.specs.Find.{IsFirstByte, is_byte}
use Rattle.legumeyet_columns.specs.FieldTexts.{doubled, is_in_quotes}
use Rattle.legumeyet_columns.specs.Places.{after, after_all, after_plain, field_length, has_quote, is_quoted, left_after, plain_length, rest_of}
use Rattle.legumeyet_columns.specs.declared.dialect.Dialect.{Dialect}
use Rattle.legumeyet_columns.specs.declared.dialect.Place.{Place}
use Rattle.legumeyet_columns.specs.declared.dialect.Place.TheVariants.{Front, Plain, Quoted, Closed}

-- in front of a field, or in one that is not in quotes
abbrev is_plain : Place → Bool
is_plain Front = true
is_plain Plain = true
is_plain Quoted = false
is_plain Closed = false

plain_is_outside : (place : Place) → is_plain place ≡ true → is_quoted place ≡ false
plain_is_outside Front e = refl
plain_is_outside Plain e = refl
plain_is_outside Quoted e = cc
plain_is_outside Closed e = cc

-- a byte that is no quote leads to such a place
after_plain_is : (dialect : Dialect) (b : ℕ) → is_plain (after_plain dialect b) ≡ true
after_plain_is dialect b = at (b == dialect.delimiter) refl
  where
    at : (t : Bool) → (b == dialect.delimiter) ≡ t → is_plain (after_plain dialect b) ≡ true
    at true t = simp t
    at false t = simp t

front_is : (dialect : Dialect) (b : ℕ) → (b == 34) ≡ false → is_plain (after dialect Front b) ≡ true
front_is dialect b e = at dialect.has_quotes refl
  where
    at : (h : Bool) → dialect.has_quotes ≡ h → is_plain (after dialect Front b) ≡ true
    at true h = simp (h, e) (after_plain_is dialect b)
    at false h = simp h (after_plain_is dialect b)

after_is : (dialect : Dialect) (place : Place) (b : ℕ) → is_plain place ≡ true → (b == 34) ≡ false → is_plain (after dialect place b) ≡ true
after_is dialect Front b p e = front_is dialect b e
after_is dialect Plain b p e = after_plain_is dialect b
after_is dialect Quoted b p e = cc
after_is dialect Closed b p e = cc

all_plain : (dialect : Dialect) (place : Place) (bytes : List ℕ) → is_plain place ≡ true → has_quote bytes ≡ false
    → is_plain (after_all dialect place bytes) ≡ true
all_plain dialect place [] p none = p
all_plain dialect place (b ∷ bs) p none =
    at (b == 34) (has_quote bs) refl refl none (λ q s. all_plain dialect (after dialect place b) bs (after_is dialect place b p q) s)
  where
    at : (q s : Bool) → (b == 34) ≡ q → has_quote bs ≡ s → (q || s) ≡ false
        → ((b == 34) ≡ false → has_quote bs ≡ false → is_plain (after_all dialect (after dialect place b) bs) ≡ true)
        → is_plain (after_all dialect place (b ∷ bs)) ≡ true
    at true s' q s e others = cc
    at false true q s e others = cc
    at false false q s e others = others q s

pub no_quotes : (dialect : Dialect) (bytes : List ℕ) → has_quote bytes ≡ false → is_quoted (after_all dialect Front bytes) ≡ false
no_quotes dialect bytes none = plain_is_outside (after_all dialect Front bytes) (all_plain dialect Front bytes refl none)

pub rest_outside : (dialect : Dialect) (place : Place) (rest : List ℕ) → is_quoted place ≡ false → rest_of dialect place rest ≡ []
rest_outside dialect place rest q = simp q

pub left_outside : (dialect : Dialect) (place : Place) (rest : List ℕ) → is_quoted place ≡ false → left_after dialect place rest ≡ rest
left_outside dialect place rest q = simp q

length_from_plain : (dialect : Dialect) (bytes : List ℕ) → field_length dialect Plain bytes ≡ plain_length dialect bytes
length_from_plain dialect [] = refl
length_from_plain dialect (b ∷ bs) = at (b == dialect.delimiter) refl (length_from_plain dialect bs)
  where
    at : (t : Bool) → (b == dialect.delimiter) ≡ t → field_length dialect Plain bs ≡ plain_length dialect bs
        → field_length dialect Plain (b ∷ bs) ≡ plain_length dialect (b ∷ bs)
    at true t others = simp t
    at false t others = simp t (ap suc others)

pub length_of_plain : (dialect : Dialect) (bytes : List ℕ) → is_in_quotes dialect bytes ≡ false
    → field_length dialect Front bytes ≡ plain_length dialect bytes
length_of_plain dialect [] plain = refl
length_of_plain dialect (b ∷ bs) plain = at (b == dialect.delimiter) refl (length_from_plain dialect bs)
  where
    at : (t : Bool) → (b == dialect.delimiter) ≡ t → field_length dialect Plain bs ≡ plain_length dialect bs
        → field_length dialect Front (b ∷ bs) ≡ plain_length dialect (b ∷ bs)
    at true t others = simp t
    at false t others = simp (t, plain) (ap suc others)

-- what a search for a quote tells
no_quote_found : (bytes : List ℕ) → ((k : ℕ) → k < length bytes → ¬ ((get_or bytes k 0 == 34) ≡ true)) → has_quote bytes ≡ false
no_quote_found [] none = refl
no_quote_found (b ∷ bs) none =
    let other = false_from_ne_true (b == 34) (none 0 (omega arith)) in
    simp other (no_quote_found bs (λ k below. none (suc k) (omega arith)))

quote_found : (bytes : List ℕ) (at : ℕ) → at < length bytes → (get_or bytes at 0 == 34) ≡ true → has_quote bytes ≡ true
quote_found [] at below here = absurd (omega arith)
quote_found (b ∷ bs) zero below here = simp here
quote_found (b ∷ bs) (suc n) below here = at_first (b == 34) refl (quote_found bs n (omega arith) here)
  where
    at_first : (t : Bool) → (b == 34) ≡ t → has_quote bs ≡ true → has_quote (b ∷ bs) ≡ true
    at_first true t others = simp t
    at_first false t others = simp t others

pub quote_search : (bytes : List ℕ) (found : Option ℕ) → IsFirstByte (is_byte 34) bytes found → is_some found ≡ has_quote bytes
quote_search bytes None none = sym (no_quote_found bytes (λ k below. none k (omega arith) below))
quote_search bytes (Some at) found = sym (quote_found bytes at found.0.high found.1)

-- a text without quotes is the same, doubled
pub doubled_plain : (text : List ℕ) → has_quote text ≡ false → doubled text ≡ text
doubled_plain [] none = refl
doubled_plain (b ∷ bs) none = at (b == 34) (has_quote bs) refl refl none (doubled_plain bs)
  where
    at : (q s : Bool) → (b == 34) ≡ q → has_quote bs ≡ s → (q || s) ≡ false → (has_quote bs ≡ false → doubled bs ≡ bs)
        → doubled (b ∷ bs) ≡ b ∷ bs
    at true s' q s e others = cc
    at false true q s e others = cc
    at false false q s e others = simp q (ap (λ r. b ∷ r) (others s))
