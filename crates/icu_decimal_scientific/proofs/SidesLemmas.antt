-- What is cut from a text by the function that reads it: a prefix, a suffix, and the first place of a separator.
use Rattle.std.proofs.Common.{◌≡◌, ◌==◌, ℕ, suc, ◌+◌, ◌-◌, ◌<◌, ◌≤◌, Bool, true, false, not, cond, List, [], ◌∷◌, ◌++◌, length, take, drop, take-append-drop, Option, None, Some, refl, sym, ap, ◌∙◌, subst, arith, append_assoc}
use Rattle.std.proofs.lemmas.Bool.{and_parts, both_ways, eq-eqb, eqb-true, false≢true}
use Rattle.std.proofs.lemmas.List.{append-nil, append_cancel_left, drop_at, get_or-append-add, length-append, take_at}
use Rattle.std.proofs.lemmas.Option.{none-some, same_Some}
use Rattle.std.proofs.lemmas.Str.{IsCharBoundary-start, IsUtf8-append, IsUtf8-drop, IsUtf8-take, chars-append, chars-nil, chars_past_char, encodes-append, encodes-chars}
use Rattle.std.specs.Cmp.Lexicographic.{bytes_decides}
use Rattle.std.specs.List.{list_all, slice_index}
use Rattle.std.specs.Prelude.{encode_utf8, option_and_then}
use Rattle.std.specs.Str.{IsCharBoundary, IsUtf8, bytes_eq, chars, encode_utf8_all}
use Rattle.fixed_decimal.specs.declared.Sign.{Sign}
use Rattle.icu_decimal_plain.specs.Affixes.{affixes_of}
use Rattle.icu_decimal_plain.specs.PlainText.{prefix_text, suffix_text}
use Rattle.icu_decimal_scientific.specs.ExponentialText.{ScientificSettings}
use Rattle.icu_decimal_scientific.specs.ReadingSteps.{lacks_first, text_with}
use Rattle.icu_decimal_scientific.specs.ScientificReadings.{Sides, after_prefix, before_suffix, inner_of, sides_at, sides_of}
use Rattle.icu_decimal_scientific.proofs.CutLemmas.{first_in, itself, later_in}

-- ---- a prefix and a suffix

pub prefix_there : (prefix rest : List ℕ) → after_prefix prefix (prefix ++ rest) ≡ Some rest
prefix_there [] rest = refl
prefix_there (p ∷ ps) rest = ap (λ b. cond b (after_prefix ps (ps ++ rest)) None) (eq-eqb p p refl) ∙ prefix_there ps rest

pub prefix_is : (prefix text rest : List ℕ) → after_prefix prefix text ≡ Some rest → text ≡ prefix ++ rest
prefix_is [] text rest is = same_Some text rest is
prefix_is (p ∷ ps) [] rest is = absurd (none-some rest is)
prefix_is (p ∷ ps) (c ∷ cs) rest is = at (p == c) refl is (λ more. prefix_is ps cs rest more)
  where
    at : (b : Bool) → (p == c) ≡ b → cond b (after_prefix ps cs) None ≡ Some rest → (after_prefix ps cs ≡ Some rest → cs ≡ ps ++ rest) → (c ∷ cs) ≡ (p ∷ ps) ++ rest
    at true same is more = ap (λ x. x ∷ cs) (sym (eqb-true p c same)) ∙ ap (λ l. p ∷ l) (more is)
    at false other is more = absurd (none-some rest is)

pub suffix_there : (suffix front : List ℕ) → before_suffix suffix (front ++ suffix) ≡ Some front
suffix_there suffix front =
    let n : length (front ++ suffix) - length suffix ≡ length front = let whole = length-append front suffix in omega (arith, whole) in
    ap (λ k. cond (bytes_eq (drop k (front ++ suffix)) suffix) (Some (take k (front ++ suffix))) None) n
    ∙ ap (λ l. cond (bytes_eq l suffix) (Some (take (length front) (front ++ suffix))) None) (drop_at front suffix (length front) refl)
    ∙ ap (λ b. cond b (Some (take (length front) (front ++ suffix))) None) ((bytes_decides suffix suffix).1 refl)
    ∙ ap Some (take_at front suffix (length front) refl)

pub suffix_is : (suffix text front : List ℕ) → before_suffix suffix text ≡ Some front → text ≡ front ++ suffix
suffix_is suffix text front is = at (bytes_eq (drop n text) suffix) refl is
  where
    n : ℕ
    n = length text - length suffix

    at : (b : Bool) → bytes_eq (drop n text) suffix ≡ b → cond b (Some (take n text)) None ≡ Some front → text ≡ front ++ suffix
    at true same is =
        sym (take-append-drop n text) ∙ ap (λ l. l ++ drop n text) (same_Some (take n text) front is) ∙ ap (λ l. front ++ l) ((bytes_decides (drop n text) suffix).0 same)
    at false other is = absurd (none-some front is)

-- ---- between the affixes of a sign

pub inner_there : (s : ScientificSettings) (sign : Sign) (inner : List ℕ) → inner_of s sign (text_with s sign inner) ≡ Some inner
inner_there s sign inner =
    let affixes = affixes_of s.tables.symbols.strings sign in
    ap (option_and_then (before_suffix (suffix_text affixes))) (prefix_there (prefix_text affixes) (inner ++ suffix_text affixes)) ∙ suffix_there (suffix_text affixes) inner

pub inner_is : (s : ScientificSettings) (sign : Sign) (text inner : List ℕ) → inner_of s sign text ≡ Some inner → text ≡ text_with s sign inner
inner_is s sign text inner is = at (after_prefix before text) refl is
  where
    before : List ℕ
    before = prefix_text (affixes_of s.tables.symbols.strings sign)

    after : List ℕ
    after = suffix_text (affixes_of s.tables.symbols.strings sign)

    at : (rest : Option (List ℕ)) → after_prefix before text ≡ rest → option_and_then (before_suffix after) rest ≡ Some inner → text ≡ text_with s sign inner
    at None found is = absurd (none-some inner is)
    at (Some rest) found is = prefix_is before text rest found ∙ ap (λ l. before ++ l) (suffix_is after rest inner is)

-- ---- the first place of a separator

pub sides_whole : (separator text : List ℕ) (sides : Sides) → sides_of separator text ≡ Some sides → text ≡ sides.front ++ (separator ++ sides.back)
sides_whole separator [] sides is = absurd (none-some sides is)
sides_whole separator (c ∷ cs) sides is = at (after_prefix separator (c ∷ cs)) (sides_of separator cs) refl refl is (λ later further. sides_whole separator cs later further)
  where
    at : (here : Option (List ℕ)) (later : Option Sides) → after_prefix separator (c ∷ cs) ≡ here → sides_of separator cs ≡ later → sides_at c here later ≡ Some sides
        → ((later : Sides) → sides_of separator cs ≡ Some later → cs ≡ later.front ++ (separator ++ later.back)) → (c ∷ cs) ≡ sides.front ++ (separator ++ sides.back)
    at (Some back) later here_is later_is is further =
        subst (λ (s : Sides). (c ∷ cs) ≡ s.front ++ (separator ++ s.back)) (same_Some (record { front = []; back = back }) sides is) (prefix_is separator (c ∷ cs) back here_is)
    at None (Some later) here_is later_is is further =
        subst (λ (s : Sides). (c ∷ cs) ≡ s.front ++ (separator ++ s.back)) (same_Some (record { front = c ∷ later.front; back = later.back }) sides is) (ap (λ l. c ∷ l) (further later later_is))
    at None None here_is later_is is further = absurd (none-some sides is)

-- a separator that is there is found at its place or before it
record IsFoundBy (separator text : List ℕ) (most : ℕ) : Type 0 where
  pub sides : Sides
  pub is : sides_of separator text ≡ Some sides
  pub soon : length sides.front ≤ most

found_by : (mark : ℕ) (more front back : List ℕ) → IsFoundBy (mark ∷ more) (front ++ ((mark ∷ more) ++ back)) (length front)
found_by mark more [] back = record {
  sides = record { front = []; back = back };
  is = ap (λ here. sides_at mark here (sides_of (mark ∷ more) (more ++ back))) (prefix_there (mark ∷ more) back);
  soon = omega arith;
}
found_by mark more (c ∷ cs) back = at (after_prefix (mark ∷ more) (c ∷ rest)) refl (found_by mark more cs back)
  where
    rest : List ℕ
    rest = cs ++ ((mark ∷ more) ++ back)

    at : (here : Option (List ℕ)) → after_prefix (mark ∷ more) (c ∷ rest) ≡ here → IsFoundBy (mark ∷ more) rest (length cs) → IsFoundBy (mark ∷ more) (c ∷ rest) (suc (length cs))
    at (Some other) here_is later = record {
      sides = record { front = []; back = other };
      is = ap (λ here. sides_at c here (sides_of (mark ∷ more) rest)) here_is;
      soon = omega arith;
    }
    at None here_is later = record {
      sides = record { front = c ∷ later.sides.front; back = later.sides.back };
      is = ap (λ here. sides_at c here (sides_of (mark ∷ more) rest)) here_is ∙ ap (sides_at c None) later.is;
      soon = let soon = later.soon in omega (arith, soon);
    }

-- ---- no other place is before it

-- a list with a mark goes on after each list without it that has the mark after it
record GoesOn (xs us : List ℕ) : Type 0 where
  pub more : List ℕ
  pub same : xs ≡ us ++ more

goes_on : (mark : ℕ) (us xs ys vs : List ℕ) → list_all (λ d. not (d == mark)) us ≡ true → xs ++ (mark ∷ ys) ≡ us ++ (mark ∷ vs) → GoesOn xs us
goes_on mark [] xs ys vs lacks same = record { more = xs; same = refl }
goes_on mark (u ∷ us) [] ys vs lacks same =
    let other : not (u == mark) ≡ true = (and_parts (not (u == mark)) (list_all (λ d. not (d == mark)) us) lacks).0 in
    absurd (both_ways (not (u == mark)) (ap (λ c. not (c == mark)) (sym (ap first_in same)) ∙ itself mark) other)
goes_on mark (u ∷ us) (x ∷ xs) ys vs lacks same =
    let rest : GoesOn xs us = goes_on mark us xs ys vs (and_parts (not (u == mark)) (list_all (λ d. not (d == mark)) us) lacks).1 (ap later_in same) in
    record { more = rest.more; same = ap (λ c. c ∷ xs) (ap first_in same) ∙ ap (λ l. u ∷ l) rest.same }

none_of : (l : List ℕ) → length l ≡ 0 → l ≡ []
none_of [] is = refl
none_of (x ∷ xs) is = absurd (omega (arith, is))

-- a place where the separator is can be cut
boundary_at : (text front separator back : List ℕ) → text ≡ front ++ (separator ++ back) → IsUtf8 separator → 0 < length separator → IsCharBoundary text (length front)
boundary_at text front [] back is utf8 some = absurd (omega (arith, some))
boundary_at text front (c ∷ cs) back is utf8 some =
    let size : length text ≡ length front + (length (c ∷ cs) + length back) = ap length is ∙ length-append front ((c ∷ cs) ++ back) ∙ ap (λ n. length front + n) (length-append (c ∷ cs) back) in
    let first : slice_index text (length front) ≡ c =
    ap (λ l. slice_index l (length front)) is ∙ ap (λ n. slice_index (front ++ ((c ∷ cs) ++ back)) n) (omega arith) ∙ get_or-append-add front ((c ∷ cs) ++ back) 0 0 in
    (omega (arith, size), λ inside high. subst (λ n. 192 ≤ n) (sym first) ((IsCharBoundary-start (c ∷ cs) utf8).1 some (subst (λ n. 128 ≤ n) first high)))

module _ (separator a b front back : List ℕ) (mark : ℕ) (more : List ℕ) (marked : chars separator ≡ mark ∷ more) (separator_utf8 : IsUtf8 separator) (a_utf8 : IsUtf8 a) (whole_utf8 : IsUtf8 (a ++ (separator ++ b)))
    (lacks : list_all (λ d. not (d == mark)) (chars a) ≡ true) (same : a ++ (separator ++ b) ≡ front ++ (separator ++ back)) where
  begins : separator ≡ encode_utf8 mark ++ encode_utf8_all more
  begins = sym (encodes-chars separator separator_utf8) ∙ ap encode_utf8_all marked

  some : 0 < length separator
  some = at separator marked
    where
      at : (l : List ℕ) → chars l ≡ mark ∷ more → 0 < length l
      at [] is = absurd (no_mark (sym chars-nil ∙ is))
        where
          no_mark : [] ≡ mark ∷ more → ⊥
          no_mark e = cc
      at (c ∷ cs) is = omega arith

  -- the characters after any text before the separator
  after : (l : List ℕ) → IsUtf8 (separator ++ l) → chars (separator ++ l) ≡ mark ∷ chars (encode_utf8_all more ++ l)
  after l utf8 = chars_past_char (separator ++ l) (encode_utf8_all more ++ l) mark utf8 (ap (λ s. s ++ l) begins ∙ append_assoc (encode_utf8 mark) (encode_utf8_all more) l)

  cut : IsCharBoundary (a ++ (separator ++ b)) (length front)
  cut = boundary_at (a ++ (separator ++ b)) front separator back same separator_utf8 some

  front_utf8 : IsUtf8 front
  front_utf8 = subst IsUtf8 (ap (take (length front)) same ∙ take_at front (separator ++ back) (length front) refl) (IsUtf8-take (a ++ (separator ++ b)) (length front) whole_utf8 cut)

  back_utf8 : IsUtf8 (separator ++ back)
  back_utf8 = subst IsUtf8 (ap (drop (length front)) same ∙ drop_at front (separator ++ back) (length front) refl) (IsUtf8-drop (a ++ (separator ++ b)) (length front) whole_utf8 cut)

  b_utf8 : IsUtf8 (separator ++ b)
  b_utf8 = subst IsUtf8 (drop_at a (separator ++ b) (length a) refl) (IsUtf8-drop (a ++ (separator ++ b)) (length a) whole_utf8 (boundary_at (a ++ (separator ++ b)) a separator b refl separator_utf8 some))

  both : chars front ++ (mark ∷ chars (encode_utf8_all more ++ back)) ≡ chars a ++ (mark ∷ chars (encode_utf8_all more ++ b))
  both =
      ap (λ l. chars front ++ l) (sym (after back back_utf8))
      ∙ sym (chars-append front (separator ++ back) front_utf8) ∙ ap chars (sym same) ∙ chars-append a (separator ++ b) a_utf8
      ∙ ap (λ l. chars a ++ l) (after b b_utf8)

  on : GoesOn (chars front) (chars a)
  on = goes_on mark (chars a) (chars front) (chars (encode_utf8_all more ++ back)) (chars (encode_utf8_all more ++ b)) lacks both

  pub first_front : length front ≤ length a → front ≡ a
  first_front soon =
      let longer : front ≡ a ++ encode_utf8_all on.more = sym (encodes-chars front front_utf8) ∙ ap encode_utf8_all on.same ∙ encodes-append (chars a) on.more ∙ ap (λ l. l ++ encode_utf8_all on.more) (encodes-chars a a_utf8) in
      let size : length front ≡ length a + length (encode_utf8_all on.more) = ap length longer ∙ length-append a (encode_utf8_all on.more) in
      longer ∙ ap (λ l. a ++ l) (none_of (encode_utf8_all on.more) (omega (arith, size, soon))) ∙ append-nil a

  pub first_back : length front ≤ length a → back ≡ b
  first_back soon =
      append_cancel_left separator back b (append_cancel_left a (separator ++ back) (separator ++ b) (ap (λ l. l ++ (separator ++ back)) (sym (first_front soon)) ∙ sym same))

-- so a text whose front lacks the first character of the separator is cut there
cut_there : (separator a b : List ℕ) (mark : ℕ) (more bytes : List ℕ) (byte : ℕ) → separator ≡ byte ∷ bytes → chars separator ≡ mark ∷ more → IsUtf8 separator → IsUtf8 a → IsUtf8 (a ++ (separator ++ b))
    → list_all (λ d. not (d == mark)) (chars a) ≡ true → sides_of separator (a ++ (separator ++ b)) ≡ Some (record { front = a; back = b })
cut_there separator a b mark more bytes byte starts marked utf8 a_utf8 whole_utf8 lacks =
    let found : IsFoundBy separator (a ++ (separator ++ b)) (length a) = subst (λ s. IsFoundBy s (a ++ (s ++ b)) (length a)) (sym starts) (found_by byte bytes a b) in
    let same : a ++ (separator ++ b) ≡ found.sides.front ++ (separator ++ found.sides.back) = sides_whole separator (a ++ (separator ++ b)) found.sides found.is in
    let front : found.sides.front ≡ a = first_front separator a b found.sides.front found.sides.back mark more marked utf8 a_utf8 whole_utf8 lacks same found.soon in
    let back : found.sides.back ≡ b = first_back separator a b found.sides.front found.sides.back mark more marked utf8 a_utf8 whole_utf8 lacks same found.soon in
    found.is ∙ (λ i. Some (record { front = front i; back = back i }))

pub sides_there : (separator a b : List ℕ) → IsUtf8 separator → IsUtf8 a → IsUtf8 b → lacks_first (chars separator) (chars a) ≡ true
    → sides_of separator (a ++ (separator ++ b)) ≡ Some (record { front = a; back = b })
sides_there separator a b utf8 a_utf8 b_utf8 lacks = at separator (chars separator) refl refl
  where
    whole_utf8 : IsUtf8 (a ++ (separator ++ b))
    whole_utf8 = IsUtf8-append a (separator ++ b) a_utf8 (IsUtf8-append separator b utf8 b_utf8)

    at : (bytes cs : List ℕ) → separator ≡ bytes → chars separator ≡ cs → sides_of separator (a ++ (separator ++ b)) ≡ Some (record { front = a; back = b })
    at bytes [] is none = absurd (false≢true (sym (ap (λ l. lacks_first l (chars a)) none) ∙ lacks))
    at [] (mark ∷ more) is marked = absurd (empty (sym chars-nil ∙ ap chars (sym is) ∙ marked))
      where
        empty : [] ≡ mark ∷ more → ⊥
        empty e = cc
    at (byte ∷ bytes) (mark ∷ more) is marked = cut_there separator a b mark more bytes byte is marked utf8 a_utf8 whole_utf8 (ap (λ l. lacks_first l (chars a)) (sym marked) ∙ lacks)
