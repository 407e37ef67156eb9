-- What a search for a text's first or last separator tells of the bytes around it.
use Rattle.std.proofs.Common.{◌≡◌, ℕ, ◌+◌, ◌-◌, ◌*◌, ◌%◌, ◌^◌, ◌<◌, ◌≤◌, ◌==◌, true, false, List, length, drop, get_or, map, replicate, Option, None, Some, refl, sym, ap, ◌∙◌, subst, arith, length-drop, pow_mono, ⊎_elim, w8}
use Rattle.std.proofs.lemmas.Bool.{cases_lt, false_from_ne_true, false≢true, eqb-true, le-ltb, lt-ltb}
use Rattle.std.proofs.lemmas.Grind.{get_or_default_zero}
use Rattle.std.proofs.lemmas.List.{get_or-drop, get_or-map, length-map}
use Rattle.std.proofs.lemmas.List.Sums.{position_or_len_is}
use Rattle.std.proofs.lemmas.Simd.{bit_mask_l, bitmask_splat, get_or-chunk, length-chunk, mask_l-lt, none_from_empty_mask}
use Rattle.std.specs.Int.{bit_at}
use Rattle.std.specs.List.{All, position_or_len}
use Rattle.std.specs.Prelude.{Bool, cond, nat_lt, MatchOption, position, slice_index}
use Rattle.std.specs.Simd.Lanes.{chunk, mask_l, top, zip2}
use Rattle.memchr.proofs.lemmas.BitLemmas.{bit_at_above, bit_at_top}
use Rattle.memchr.specs.Find.{IsFirstByte, IsLastByte, is_byte}
use Rattle.locale_numbers_formats.specs.Cutting.{IsNot, is_separator}

-- no byte from a place on is the separator
none_from : (separator : ℕ) (text : List ℕ) (from : ℕ) → ((k : ℕ) → from ≤ k → k < length text → ¬ ((get_or text k 0 == separator) ≡ true)) → All (IsNot separator) (drop from text)
none_from separator text from nowhere k d below =
    let inside : from + k < length text = omega (arith, below, length-drop from text) in
    let same : get_or (drop from text) k d ≡ get_or text (from + k) 0 = get_or-drop from text k d ∙ get_or_default_zero text (from + k) d inside in
    ap (λ b. b == separator) same ∙ false_from_ne_true (get_or text (from + k) 0 == separator) (nowhere (from + k) (omega arith) inside)

pub last_found : (separator : ℕ) (text : List ℕ) (found : Option ℕ) → IsLastByte (is_byte separator) text found
    → MatchOption found (All (IsNot separator) text) (λ end. (end < length text) × (slice_index text end ≡ separator) × All (IsNot separator) (drop (end + 1) text))
last_found separator text None nowhere = none_from separator text 0 nowhere
last_found separator text (Some at) found = (found.0.high, eqb-true _ _ found.1, none_from separator text (at + 1) found.0.after)

-- the first place is what is found, by how many bytes are before it
place_found : (separator : ℕ) (text : List ℕ) (n : ℕ) (passes : Bool) → position_or_len (is_separator separator) text ≡ n → nat_lt n (length text) ≡ passes → cond passes (Some n) None ≡ position (is_separator separator) text
place_found separator text n passes at tells =
    sym (ap (λ k. cond (nat_lt k (length text)) (Some k) None) at ∙ ap (λ b. cond b (Some n) None) tells)

pub first_found : (separator : ℕ) (text : List ℕ) (found : Option ℕ) → IsFirstByte (is_byte separator) text found → found ≡ position (is_separator separator) text
first_found separator text None nowhere =
    place_found separator text (length text) false
    (position_or_len_is (is_separator separator) text (length text) 0 (omega arith) (λ k below. false_from_ne_true (get_or text k 0 == separator) (nowhere k (omega arith) below)) (λ below. absurd (omega arith)))
    (le-ltb (length text) (length text) (omega arith))
first_found separator text (Some at) found =
    place_found separator text at true
    (position_or_len_is (is_separator separator) text at 0 (omega (arith, found.0.high)) (λ k below. false_from_ne_true (get_or text k 0 == separator) (found.0.before k (omega arith) below)) (λ below. found.1))
    (lt-ltb at (length text) found.0.high)

-- ---- the last 16 bytes, compared at once: a bit for each, which is set where it is the separator

is_set : (b : Bool) → ◌≡◌ {A = ℕ} (cond b 1 0) 1 → b ≡ true
is_set true one = refl
is_set false one = absurd (omega arith)

is_clear : (b : Bool) → ◌≡◌ {A = ℕ} (cond b 1 0) 0 → ¬ (b ≡ true)
is_clear true none is = absurd (omega arith)
is_clear false none is = false≢true is

module _ (separator : ℕ) (text : List ℕ) (from : ℕ) (room : from + 16 ≡ length text) where
  abbrev marks : ℕ
  marks = mask_l (map (is_separator separator) (chunk from 16 text))

  -- what `to_bitmask` gives of the comparison
  pub compared : mask_l (map (top 7) (zip2 (λ a b. cond (a == b) 255 0) (chunk from 16 text) (replicate 16 separator))) % 2 ^ 64 ≡ marks
  compared = bitmask_splat w8 (λ a b. a == b) (chunk from 16 text) 16 separator (length-chunk from 16 text (omega (arith, room))) (omega arith)

  marked : (k : ℕ) → k < 16 → bit_at marks k ≡ cond (get_or text (from + k) 0 == separator) 1 0
  marked k low =
      bit_mask_l (map (is_separator separator) (chunk from 16 text)) k
      ∙ ap (λ b. cond b 1 0)
      (get_or-map (is_separator separator) (chunk from 16 text) k 0 false (omega (arith, length-chunk from 16 text (omega (arith, room))))
      ∙ ap (is_separator separator) (get_or-chunk from 16 text k 0 low))

  within : (k : ℕ) → 2 ^ k ≤ marks → k < 16
  within k low =
      let size : length (map (is_separator separator) (chunk from 16 text)) ≡ 16 = length-map (chunk from 16 text) (is_separator separator) ∙ length-chunk from 16 text (omega (arith, room)) in
      let small : marks < 2 ^ 16 = subst (λ n. marks < 2 ^ n) size (mask_l-lt (map (is_separator separator) (chunk from 16 text))) in
      ⊎_elim (λ l. l) (λ ge. absurd (omega (arith, low, small, pow_mono {i = 16} {j = k} ge))) (cases_lt k 16)

  -- the highest bit is that of the last separator
  pub last_marked : (k : ℕ) → 2 ^ k ≤ marks → marks < 2 * 2 ^ k
      → (from + k < length text) × (slice_index text (from + k) ≡ separator) × All (IsNot separator) (drop (from + k + 1) text)
  last_marked k low high =
      let inside = within k low in (
        omega (arith, room, inside),
        eqb-true _ _ (is_set (get_or text (from + k) 0 == separator) (sym (marked k inside) ∙ bit_at_top marks k low high)),
        none_from separator text (from + k + 1) (λ j above below.
            let back : from + (j - from) ≡ j = omega arith in
            is_clear (get_or text j 0 == separator)
            (subst (λ j. ◌≡◌ {A = ℕ} (cond (get_or text j 0 == separator) 1 0) 0) back
            (sym (marked (j - from) (omega (arith, room, above, below))) ∙ bit_at_above marks k (j - from) high (omega arith)))),
      )

  -- where no bit is set, none of these is the separator
  pub none_marked : marks ≡ 0 → All (IsNot separator) (drop from text)
  none_marked none =
      none_from separator text from (λ j above below is.
      false≢true (sym (none_from_empty_mask (is_separator separator) text from 16 0 (omega (arith, room)) none j above (omega (arith, room, below))) ∙ is))
