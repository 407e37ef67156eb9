-- Digits that are single bytes in a row.
use Rattle.std.proofs.Common.{◌≡◌, ℕ, suc, ◌+◌, ◌-◌, ◌*◌, ◌<◌, ◌≤◌, List, [], ◌∷◌, ◌++◌, drop, encode_utf8, get_or, length, map, refl, replicate, set, slice_index, sym, take, ap, ◌∙◌, append_assoc, arith}
use Rattle.std.proofs.lemmas.Grind.{take-set_at}
use Rattle.std.proofs.lemmas.List.{drop_all, drop_more}
use Rattle.std.proofs.lemmas.Str.{encode_ascii}
use Rattle.std.specs.Int.Digits.{AllBelowBase}
use Rattle.fixed_decimal.proofs.DigitsLemmas.{below_drop, below_take}
use Rattle.icu_decimal_plain.specs.LaterGroups.{groups_ahead}
use Rattle.icu_decimal_plain.specs.PlainText.{chained, digit_text}
use Rattle.icu_decimal_plain.specs.Runs.{IsRun, run_text}
use Rattle.icu_decimal_plain.proofs.PieceLemmas.{four_set}

-- Tables.

-- ten characters in a row
pub run_is : (nought : ℕ) (table : List ℕ) → nought ≤ 118 → ((d : ℕ) → d < 10 → slice_index table d ≡ nought + d) → IsRun nought table
run_is nought table few held = record {
  small = omega (arith, few);
  bytes = λ d below. ap encode_utf8 (held d below) ∙ encode_ascii (nought + d) (omega (arith, few, below));
}

-- digits by such a table
pub run_digits : (nought : ℕ) (table ds : List ℕ) → IsRun nought table → AllBelowBase 10 ds
    → chained (map (run_text nought) ds) ≡ chained (map (digit_text table) ds)
run_digits nought table [] run tens = refl
run_digits nought table (d ∷ ds) run tens =
    ap (λ text. text ++ chained (map (run_text nought) ds)) (sym (run.bytes d tens.0))
    ∙ ap (λ text. digit_text table d ++ text) (run_digits nought table ds run tens.1)

pub run_ahead : (nought : ℕ) (separator table ns ds : List ℕ) → IsRun nought table → AllBelowBase 10 ds
    → groups_ahead separator (run_text nought) ns ds ≡ groups_ahead separator (digit_text table) ns ds
run_ahead nought separator table [] ds run tens = refl
run_ahead nought separator table (n ∷ ns) ds run tens =
    ap (λ group. (separator ++ group) ++ groups_ahead separator (run_text nought) ns (drop n ds)) (run_digits nought table (take n ds) run (below_take n ds tens))
    ∙ ap (λ others. (separator ++ chained (map (digit_text table) (take n ds))) ++ others) (run_ahead nought separator table ns (drop n ds) run (below_drop n ds tens))

-- the first byte of four
one_taken : (bytes : List ℕ) (n : ℕ) → length bytes ≡ 4 → n ≡ 1 → get_or bytes 0 0 ∷ [] ≡ take n bytes
one_taken [] n long one = absurd (omega (arith, long))
one_taken (b ∷ bytes) n long one = ap (λ k. take k (b ∷ bytes)) (sym one)

-- groups of three, each with a separator of one byte before it
pub threes_ahead : (nought groups n : ℕ) (bytes table ns ds : List ℕ) → IsRun nought table → AllBelowBase 10 ds → length bytes ≡ 4 → n ≡ 1 → ns ≡ replicate groups 3
    → groups_ahead (get_or bytes 0 0 ∷ []) (run_text nought) (replicate groups 3) ds ≡ groups_ahead (take n bytes) (digit_text table) ns ds
threes_ahead nought groups n bytes table ns ds run tens long one all =
    ap (λ sizes. groups_ahead (get_or bytes 0 0 ∷ []) (run_text nought) sizes ds) (sym all)
    ∙ ap (λ separator. groups_ahead separator (run_text nought) ns ds) (one_taken bytes n long one)
    ∙ run_ahead nought (take n bytes) table ns ds run tens

-- Digits put one after the other.

-- one more
pub run_next : (nought len at : ℕ) (waiting digits : List ℕ) → at < length digits → len + at < length waiting
    → take (len + (at + 1)) (set waiting (len + at) (nought + slice_index digits at)) ++ chained (map (run_text nought) (drop (at + 1) digits)) ≡ take (len + at) waiting ++ chained (map (run_text nought) (drop at digits))
run_next nought len at waiting digits more within =
    let byte : ℕ = nought + slice_index digits at in
    let rest : List ℕ = chained (map (run_text nought) (drop (at + 1) digits)) in
    ap (λ front. front ++ rest) (take-set_at waiting (len + at) (len + (at + 1)) byte (omega arith) within)
    ∙ append_assoc (take (len + at) waiting) (byte ∷ []) rest
    ∙ ap (λ ds. take (len + at) waiting ++ chained (map (run_text nought) ds)) (sym (drop_more digits at 0 more))

-- none
pub run_none : (nought at : ℕ) (digits : List ℕ) → length digits ≤ at → chained (map (run_text nought) (drop at digits)) ≡ []
run_none nought at digits past = ap (λ ds. chained (map (run_text nought) ds)) (drop_all at digits past)

-- Groups put one after the other.

three_read : (ds : List ℕ) (i : ℕ) → i + 3 ≤ length ds → drop i ds ≡ slice_index ds i ∷ slice_index ds (i + 1) ∷ slice_index ds (i + 2) ∷ drop (i + 3) ds
three_read ds i within =
    let second : i + 1 + 1 ≡ i + 2 = omega arith in
    let third : i + 2 + 1 ≡ i + 3 = omega arith in
    drop_more ds i 0 (omega (arith, within))
    ∙ ap (λ rest. slice_index ds i ∷ rest) (drop_more ds (i + 1) 0 (omega (arith, within)))
    ∙ ap (λ j. slice_index ds i ∷ slice_index ds (i + 1) ∷ drop j ds) second
    ∙ ap (λ rest. slice_index ds i ∷ slice_index ds (i + 1) ∷ rest) (drop_more ds (i + 2) 0 (omega (arith, within)))
    ∙ ap (λ j. slice_index ds i ∷ slice_index ds (i + 1) ∷ slice_index ds (i + 2) ∷ drop j ds) third

-- of groups of three the next one, as four bytes
three_next : (nought separator at groups : ℕ) (ds : List ℕ) → at < groups → 3 * groups ≤ length ds
    → groups_ahead (separator ∷ []) (run_text nought) (replicate (groups - at) 3) (drop (3 * at) ds)
    ≡ (separator ∷ (nought + slice_index ds (3 * at)) ∷ (nought + slice_index ds (3 * at + 1)) ∷ (nought + slice_index ds (3 * at + 2)) ∷ [])
    ++ groups_ahead (separator ∷ []) (run_text nought) (replicate (groups - (at + 1)) 3) (drop (3 * (at + 1)) ds)
three_next nought separator at groups ds more within =
    let left : groups - at ≡ suc (groups - (at + 1)) = omega (arith, more) in
    let past : 3 * at + 3 ≡ 3 * (at + 1) = omega arith in
    let others : List ℕ = replicate (groups - (at + 1)) 3 in
    ap (λ n. groups_ahead (separator ∷ []) (run_text nought) (replicate n 3) (drop (3 * at) ds)) left
    ∙ ap (groups_ahead (separator ∷ []) (run_text nought) (3 ∷ others)) (three_read ds (3 * at) (omega (arith, more, within)))
    ∙ ap (λ j. (separator ∷ (nought + slice_index ds (3 * at)) ∷ (nought + slice_index ds (3 * at + 1)) ∷ (nought + slice_index ds (3 * at + 2)) ∷ []) ++ groups_ahead (separator ∷ []) (run_text nought) others (drop j ds)) past

-- and put
pub threes_next : (nought separator len at groups : ℕ) (waiting ds : List ℕ) → at < groups → 3 * groups ≤ length ds → len + 4 * groups ≤ length waiting
    → take (len + 4 * (at + 1)) (set (set (set (set waiting (len + 4 * at) separator) (len + 4 * at + 1) (nought + slice_index ds (3 * at))) (len + 4 * at + 2) (nought + slice_index ds (3 * at + 1))) (len + 4 * at + 3) (nought + slice_index ds (3 * at + 2)))
    ++ groups_ahead (separator ∷ []) (run_text nought) (replicate (groups - (at + 1)) 3) (drop (3 * (at + 1)) ds)
    ≡ take (len + 4 * at) waiting ++ groups_ahead (separator ∷ []) (run_text nought) (replicate (groups - at) 3) (drop (3 * at) ds)
threes_next nought separator len at groups waiting ds more within room =
    let i : ℕ = len + 4 * at in
    let a : ℕ = nought + slice_index ds (3 * at) in
    let b : ℕ = nought + slice_index ds (3 * at + 1) in
    let c : ℕ = nought + slice_index ds (3 * at + 2) in
    let others : List ℕ = groups_ahead (separator ∷ []) (run_text nought) (replicate (groups - (at + 1)) 3) (drop (3 * (at + 1)) ds) in
    let past : len + 4 * (at + 1) ≡ i + 4 = omega arith in
    ap (λ n. take n (set (set (set (set waiting i separator) (i + 1) a) (i + 2) b) (i + 3) c) ++ others) past
    ∙ ap (λ front. front ++ others) (four_set waiting i 4 separator a b c (omega (arith, more, room)) (omega arith))
    ∙ append_assoc (take i waiting) (separator ∷ a ∷ b ∷ c ∷ []) others
    ∙ ap (λ text. take i waiting ++ text) (sym (three_next nought separator at groups ds more within))

-- none
pub threes_none : (nought separator at groups : ℕ) (ds : List ℕ) → groups ≤ at → groups_ahead (separator ∷ []) (run_text nought) (replicate (groups - at) 3) ds ≡ []
threes_none nought separator at groups ds past =
    let none : groups - at ≡ 0 = omega (arith, past) in
    ap (λ n. groups_ahead (separator ∷ []) (run_text nought) (replicate n 3) ds) none
