-- Bytes put after others: one, four, and groups of them.
use Rattle.std.proofs.Common.{◌≡◌, ℕ, suc, zero, ◌+◌, ◌-◌, ◌*◌, ◌<◌, ◌≤◌, List, [], ◌∷◌, ◌++◌, drop, get_or, length, map, refl, replicate, set, slice_index, subst, sym, take, ap, ◌∙◌, append_assoc, arith}
use Rattle.std.proofs.lemmas.Grind.{take-set_at}
use Rattle.std.proofs.lemmas.List.{drop_all, drop_more, take-append-le}
use Rattle.icu_decimal_plain.specs.LaterGroups.{groups_ahead}
use Rattle.icu_decimal_plain.specs.PlainText.{chained}
use Rattle.icu_decimal_plain.specs.Runs.{byte_text}
use Rattle.icu_decimal_plain.proofs.PieceLemmas.{four_set}

pub byte_next : (len at : ℕ) (out bytes : List ℕ) → at < length bytes → len + at < length out
    → take (len + (at + 1)) (set out (len + at) (slice_index bytes at)) ++ drop (at + 1) bytes ≡ take (len + at) out ++ drop at bytes
byte_next len at out bytes more within =
    let byte : ℕ = slice_index bytes at in
    ap (λ front. front ++ drop (at + 1) bytes) (take-set_at out (len + at) (len + (at + 1)) byte (omega arith) within)
    ∙ append_assoc (take (len + at) out) (byte ∷ []) (drop (at + 1) bytes)
    ∙ ap (λ rest. take (len + at) out ++ rest) (sym (drop_more bytes at 0 more))

pub byte_none : (at : ℕ) (bytes : List ℕ) → length bytes ≤ at → drop at bytes ≡ []
byte_none at bytes past = drop_all at bytes past

three_bytes : (bs : List ℕ) (i : ℕ) → i + 3 ≤ length bs → drop i bs ≡ slice_index bs i ∷ slice_index bs (i + 1) ∷ slice_index bs (i + 2) ∷ drop (i + 3) bs
three_bytes bs i within =
    let second : i + 1 + 1 ≡ i + 2 = omega arith in
    let third : i + 2 + 1 ≡ i + 3 = omega arith in
    drop_more bs i 0 (omega (arith, within))
    ∙ ap (λ rest. slice_index bs i ∷ rest) (drop_more bs (i + 1) 0 (omega (arith, within)))
    ∙ ap (λ j. slice_index bs i ∷ slice_index bs (i + 1) ∷ drop j bs) second
    ∙ ap (λ rest. slice_index bs i ∷ slice_index bs (i + 1) ∷ rest) (drop_more bs (i + 2) 0 (omega (arith, within)))
    ∙ ap (λ j. slice_index bs i ∷ slice_index bs (i + 1) ∷ slice_index bs (i + 2) ∷ drop j bs) third

three_ahead : (separator at groups : ℕ) (bs : List ℕ) → at < groups → 3 * groups ≤ length bs
    → groups_ahead (separator ∷ []) byte_text (replicate (groups - at) 3) (drop (3 * at) bs)
    ≡ (separator ∷ slice_index bs (3 * at) ∷ slice_index bs (3 * at + 1) ∷ slice_index bs (3 * at + 2) ∷ [])
    ++ groups_ahead (separator ∷ []) byte_text (replicate (groups - (at + 1)) 3) (drop (3 * (at + 1)) bs)
three_ahead separator at groups bs more within =
    let left : groups - at ≡ suc (groups - (at + 1)) = omega (arith, more) in
    let past : 3 * at + 3 ≡ 3 * (at + 1) = omega arith in
    let others : List ℕ = replicate (groups - (at + 1)) 3 in
    ap (λ n. groups_ahead (separator ∷ []) byte_text (replicate n 3) (drop (3 * at) bs)) left
    ∙ ap (groups_ahead (separator ∷ []) byte_text (3 ∷ others)) (three_bytes bs (3 * at) (omega (arith, more, within)))
    ∙ ap (λ j. (separator ∷ slice_index bs (3 * at) ∷ slice_index bs (3 * at + 1) ∷ slice_index bs (3 * at + 2) ∷ []) ++ groups_ahead (separator ∷ []) byte_text others (drop j bs)) past

pub byte_threes_next : (separator len at groups : ℕ) (out bs : List ℕ) → at < groups → 3 * groups ≤ length bs → len + 4 * groups ≤ length out
    → take (len + 4 * (at + 1)) (set (set (set (set out (len + 4 * at) separator) (len + 4 * at + 1) (slice_index bs (3 * at))) (len + 4 * at + 2) (slice_index bs (3 * at + 1))) (len + 4 * at + 3) (slice_index bs (3 * at + 2)))
    ++ groups_ahead (separator ∷ []) byte_text (replicate (groups - (at + 1)) 3) (drop (3 * (at + 1)) bs)
    ≡ take (len + 4 * at) out ++ groups_ahead (separator ∷ []) byte_text (replicate (groups - at) 3) (drop (3 * at) bs)
byte_threes_next separator len at groups out bs more within room =
    let i : ℕ = len + 4 * at in
    let a : ℕ = slice_index bs (3 * at) in
    let b : ℕ = slice_index bs (3 * at + 1) in
    let c : ℕ = slice_index bs (3 * at + 2) in
    let others : List ℕ = groups_ahead (separator ∷ []) byte_text (replicate (groups - (at + 1)) 3) (drop (3 * (at + 1)) bs) in
    let past : len + 4 * (at + 1) ≡ i + 4 = omega arith in
    ap (λ n. take n (set (set (set (set out i separator) (i + 1) a) (i + 2) b) (i + 3) c) ++ others) past
    ∙ ap (λ front. front ++ others) (four_set out i 4 separator a b c (omega (arith, more, room)) (omega arith))
    ∙ append_assoc (take i out) (separator ∷ a ∷ b ∷ c ∷ []) others
    ∙ ap (λ text. take i out ++ text) (sym (three_ahead separator at groups bs more within))

pub byte_threes_none : (separator at groups : ℕ) (bs : List ℕ) → groups ≤ at → groups_ahead (separator ∷ []) byte_text (replicate (groups - at) 3) bs ≡ []
byte_threes_none separator at groups bs past =
    let none : groups - at ≡ 0 = omega (arith, past) in
    ap (λ n. groups_ahead (separator ∷ []) byte_text (replicate n 3) bs) none

pub alone : (bytes : List ℕ) → chained (map byte_text bytes) ≡ bytes
alone [] = refl
alone (byte ∷ bytes) = ap (λ rest. byte ∷ rest) (alone bytes)

four_begin : (text : List ℕ) (n : ℕ) → 4 ≤ length text → n ≤ 4 → take n (get_or text 0 0 ∷ get_or text 1 0 ∷ get_or text 2 0 ∷ get_or text 3 0 ∷ []) ≡ take n text
four_begin [] n within few = absurd (omega (arith, within))
four_begin (a ∷ []) n within few = absurd (omega (arith, within))
four_begin (a ∷ b ∷ []) n within few = absurd (omega (arith, within))
four_begin (a ∷ b ∷ c ∷ []) n within few = absurd (omega (arith, within))
four_begin (a ∷ b ∷ c ∷ d ∷ rest) n within few = sym (take-append-le n (a ∷ b ∷ c ∷ d ∷ []) rest few)

-- the first ones of four
pub begin_put : (out bytes : List ℕ) (len count : ℕ) → len + 4 ≤ length out → 4 ≤ length bytes → count ≤ 4
    → take (len + count) (set (set (set (set out len (slice_index bytes 0)) (len + 1) (slice_index bytes 1)) (len + 2) (slice_index bytes 2)) (len + 3) (slice_index bytes 3)) ≡ take len out ++ take count bytes
begin_put out bytes len count room long few =
    four_set out len count (slice_index bytes 0) (slice_index bytes 1) (slice_index bytes 2) (slice_index bytes 3) room few ∙ ap (λ front. take len out ++ front) (four_begin bytes count long few)

-- one group of so many bytes, put
pub group_put : (separator bytes first last start rest : List ℕ) (size left fewer : ℕ) → left ≡ suc fewer → start ≡ first ++ separator → last ≡ start ++ take size bytes → rest ≡ drop size bytes
    → last ++ groups_ahead separator byte_text (replicate fewer size) rest ≡ first ++ groups_ahead separator byte_text (replicate left size) bytes
group_put separator bytes first last start rest size left fewer more begin put past =
    let others : List ℕ = groups_ahead separator byte_text (replicate fewer size) (drop size bytes) in
    ap (λ bs. last ++ groups_ahead separator byte_text (replicate fewer size) bs) past
    ∙ ap (λ list. list ++ others) (put ∙ ap (λ list. list ++ take size bytes) begin ∙ append_assoc first separator (take size bytes))
    ∙ append_assoc first (separator ++ take size bytes) others
    ∙ ap (λ group. first ++ ((separator ++ group) ++ others)) (sym (alone (take size bytes)))
    ∙ ap (λ n. first ++ groups_ahead separator byte_text (replicate n size) bytes) (sym more)

pub size_enough : (left size n : ℕ) → 0 < left → left * size ≤ n → size ≤ n
size_enough zero size n more enough = absurd (omega arith)
size_enough (suc k) size n more enough = omega (arith, enough)

pub rest_enough : (left fewer size n : ℕ) → left ≡ suc fewer → left * size ≤ n → fewer * size ≤ n - size
rest_enough left fewer size n more enough =
    let all : suc fewer * size ≤ n = subst (λ k. k * size ≤ n) more enough in
    omega (arith, all)

pub size_more : (left fewer size : ℕ) → left ≡ suc fewer → left * size ≡ fewer * size + size
size_more left fewer size more = ap (λ k. k * size) more ∙ omega arith
