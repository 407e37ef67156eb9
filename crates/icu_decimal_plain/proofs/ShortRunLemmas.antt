-- Sixteen digits that are taken and put at once, of which the first ones count.
use Rattle.std.proofs.Common.{◌≡◌, ℕ, zero, suc, ◌+◌, ◌-◌, ◌≤◌, List, [], ◌∷◌, ◌++◌, drop, get_or, length, length-drop, map, min, refl, replicate, sum, sym, take, ap, ◌∙◌, append_assoc, arith}
use Rattle.std.proofs.lemmas.List.{drop-drop, drop-take, drop_more, length-take-le, take-append-le, take-take, take_all}
use Rattle.std.proofs.lemmas.List.Sums.{sum_by-cons}
use Rattle.std.specs.Int.Digits.{AllBelowBase}
use Rattle.icu_decimal_plain.specs.LaterGroups.{groups_ahead}
use Rattle.icu_decimal_plain.specs.PlainText.{chained, digit_text}
use Rattle.icu_decimal_plain.specs.Runs.{IsRun, byte_text, run_text}
use Rattle.fixed_decimal.proofs.DigitsLemmas.{below_drop}
use Rattle.icu_decimal_plain.proofs.DigitChunkLemmas.{block_part}
use Rattle.icu_decimal_plain.proofs.RunLemmas.{run_ahead}

-- Digits taken.

pub zeros_below : (n : ℕ) → AllBelowBase 10 (replicate n 0)
zeros_below zero = tt
zeros_below (suc n) = (omega arith, zeros_below n)

-- the digits at the front of a block
pub block_front : (ds block : List ℕ) (n : ℕ) → length ds ≤ 16 → n ≡ min 16 (length ds) → take n block ≡ take n ds → take (length ds) block ≡ ds
block_front ds block n few count taken =
    let all : n ≡ length ds = omega (arith, few, count) in
    ap (λ k. take k block) (sym all) ∙ taken ∙ take_all n ds (omega (arith, all))

-- so many digits, of a block that begins with them
pub front_shown : (ds block : List ℕ) (count : ℕ) → length ds ≡ count → take (length ds) block ≡ ds → take count block ≡ take count ds
front_shown ds block count size front = ap (λ k. take k block) (sym size) ∙ front ∙ sym (take_all count ds (omega (arith, size)))

-- Digits put.

-- of a block's bytes those of its first digits
run_front : (nought n : ℕ) (ds : List ℕ) → take n (chained (map (run_text nought) ds)) ≡ chained (map (run_text nought) (take n ds))
run_front nought zero ds = refl
run_front nought (suc n) [] = refl
run_front nought (suc n) (d ∷ ds) = ap (λ rest. (nought + d) ∷ rest) (run_front nought n ds)

pub front_put : (nought at count : ℕ) (text after bytes digits : List ℕ) → count ≤ 16 → at ≤ length text → bytes ≡ chained (map (run_text nought) digits)
    → take (at + 16) after ≡ take at text ++ bytes → take (at + count) after ≡ take at text ++ chained (map (run_text nought) (take count digits))
front_put nought at count text after bytes digits few within is put =
    block_part text after bytes bytes at count few within put refl
    ∙ ap (λ front. take at text ++ take count front) is
    ∙ ap (λ front. take at text ++ front) (run_front nought count digits)

-- Groups put as words.

-- bytes one after the other
bytes_alone : (bytes : List ℕ) → chained (map byte_text bytes) ≡ bytes
bytes_alone [] = refl
bytes_alone (byte ∷ bytes) = ap (λ rest. byte ∷ rest) (bytes_alone bytes)

-- of a row's bytes those after its first digits
run_after : (nought n : ℕ) (ds : List ℕ) → drop n (chained (map (run_text nought) ds)) ≡ chained (map (run_text nought) (drop n ds))
run_after nought zero ds = refl
run_after nought (suc n) [] = refl
run_after nought (suc n) (d ∷ ds) = run_after nought n ds

-- groups of a row's bytes
bytes_ahead : (nought : ℕ) (separator ns ds : List ℕ) → groups_ahead separator byte_text ns (chained (map (run_text nought) ds)) ≡ groups_ahead separator (run_text nought) ns ds
bytes_ahead nought separator [] ds = refl
bytes_ahead nought separator (n ∷ ns) ds =
    let run : List ℕ = chained (map (run_text nought) ds) in
    let group : List ℕ = separator ++ chained (map (run_text nought) (take n ds)) in
    ap (λ digits. (separator ++ digits) ++ groups_ahead separator byte_text ns (drop n run)) (bytes_alone (take n run) ∙ run_front nought n ds)
    ∙ ap (λ rest. group ++ groups_ahead separator byte_text ns rest) (run_after nought n ds)
    ∙ ap (λ others. group ++ others) (bytes_ahead nought separator ns (drop n ds))

-- groups are of the first digits, so many as they have together
ahead_front : (digit : ℕ → List ℕ) (separator ns ds : List ℕ) (k : ℕ) → sum ns ≤ k → groups_ahead separator digit ns (take k ds) ≡ groups_ahead separator digit ns ds
ahead_front digit separator [] ds k within = refl
ahead_front digit separator (n ∷ ns) ds k within =
    let all = sum_by-cons (λ x. x) n ns in
    let split : n + (k - n) ≡ k = omega (arith, all, within) in
    let group : List ℕ = separator ++ chained (map digit (take n ds)) in
    ap (λ digits. (separator ++ chained (map digit digits)) ++ groups_ahead separator digit ns (drop n (take k ds))) (take-take n k ds (omega (arith, all, within)))
    ∙ ap (λ rest. group ++ groups_ahead separator digit ns rest) (ap (λ m. drop n (take m ds)) (sym split) ∙ drop-take n (k - n) ds)
    ∙ ap (λ others. group ++ others) (ahead_front digit separator ns (drop n ds) (k - n) (omega (arith, all, within)))

-- groups of the bytes of sixteen digits in a row, with others after them
pub words_run : (nought first count : ℕ) (separator table bytes ds ns : List ℕ) → IsRun nought table → AllBelowBase 10 ds → first + sum ns ≡ count → count ≤ 16 → take 16 bytes ≡ chained (map (run_text nought) ds)
    → groups_ahead separator byte_text ns (drop first bytes) ≡ groups_ahead separator (digit_text table) ns (take (count - first) (drop first ds))
words_run nought first count separator table bytes ds ns run tens whole within is =
    let split : first + (16 - first) ≡ 16 = omega (arith, whole, within) in
    sym (ahead_front byte_text separator ns (drop first bytes) (16 - first) (omega (arith, whole, within)))
    ∙ ap (groups_ahead separator byte_text ns) (sym (drop-take first (16 - first) bytes) ∙ ap (λ m. drop first (take m bytes)) split ∙ ap (drop first) is ∙ run_after nought first ds)
    ∙ bytes_ahead nought separator ns (drop first ds)
    ∙ run_ahead nought separator table ns (drop first ds) run (below_drop first ds tens)
    ∙ sym (ahead_front (digit_text table) separator ns (drop first ds) (count - first) (omega (arith, whole)))

-- the first bytes of four in a list
four_front : (bytes : List ℕ) (at n : ℕ) → at + 4 ≤ length bytes → n ≤ 4
    → take n (get_or bytes at 0 ∷ get_or bytes (at + 1) 0 ∷ get_or bytes (at + 2) 0 ∷ get_or bytes (at + 3) 0 ∷ []) ≡ take n (drop at bytes)
four_front bytes at n within few =
    let second : at + 1 + 1 ≡ at + 2 = omega arith in
    let third : at + 2 + 1 ≡ at + 3 = omega arith in
    let a : ℕ = get_or bytes at 0 in
    let b : ℕ = get_or bytes (at + 1) 0 in
    let c : ℕ = get_or bytes (at + 2) 0 in
    let d : ℕ = get_or bytes (at + 3) 0 in
    sym (ap (take n) (drop_more bytes at 0 (omega (arith, within)))
    ∙ ap (λ rest. take n (a ∷ rest)) (drop_more bytes (at + 1) 0 (omega (arith, within)))
    ∙ ap (λ j. take n (a ∷ b ∷ drop j bytes)) second
    ∙ ap (λ rest. take n (a ∷ b ∷ rest)) (drop_more bytes (at + 2) 0 (omega (arith, within)))
    ∙ ap (λ j. take n (a ∷ b ∷ c ∷ drop j bytes)) third
    ∙ ap (λ rest. take n (a ∷ b ∷ c ∷ rest)) (drop_more bytes (at + 3) 0 (omega (arith, within)))
    ∙ take-append-le n (a ∷ b ∷ c ∷ d ∷ []) (drop (at + 3 + 1) bytes) few)

-- one group more, as two words
pub words_next : (separator bytes ns others front point after : List ℕ) (at n : ℕ) → ns ≡ n ∷ others → at + 4 ≤ length bytes → n ≤ 4
    → point ≡ front ++ separator
    → after ≡ point ++ take n (get_or bytes at 0 ∷ get_or bytes (at + 1) 0 ∷ get_or bytes (at + 2) 0 ∷ get_or bytes (at + 3) 0 ∷ [])
    → after ++ groups_ahead separator byte_text others (drop (at + n) bytes) ≡ front ++ groups_ahead separator byte_text ns (drop at bytes)
words_next separator bytes ns others front point after at n next within few pointed put =
    let group : List ℕ = separator ++ chained (map byte_text (take n (drop at bytes))) in
    let joined : after ≡ front ++ group
    = put
    ∙ ap (λ list. list ++ take n (get_or bytes at 0 ∷ get_or bytes (at + 1) 0 ∷ get_or bytes (at + 2) 0 ∷ get_or bytes (at + 3) 0 ∷ [])) pointed
    ∙ append_assoc front separator (take n (get_or bytes at 0 ∷ get_or bytes (at + 1) 0 ∷ get_or bytes (at + 2) 0 ∷ get_or bytes (at + 3) 0 ∷ []))
    ∙ ap (λ list. front ++ (separator ++ list)) (four_front bytes at n within few ∙ sym (bytes_alone (take n (drop at bytes)))) in
    let past : drop (at + n) bytes ≡ drop n (drop at bytes) = ap (λ m. drop m bytes) (omega arith) ∙ sym (drop-drop n at bytes) in
    ap (λ list. list ++ groups_ahead separator byte_text others (drop (at + n) bytes)) joined
    ∙ append_assoc front group (groups_ahead separator byte_text others (drop (at + n) bytes))
    ∙ ap (λ rest. front ++ (group ++ groups_ahead separator byte_text others rest)) past
    ∙ ap (λ sizes. front ++ groups_ahead separator byte_text sizes (drop at bytes)) (sym next)

-- so many digits, cut from a block
pub part_long : (ds : List ℕ) (first count : ℕ) → first ≤ count → count ≤ length ds → length (take (count - first) (drop first ds)) ≡ count - first
part_long ds first count within few =
    let left = length-drop first ds in
    length-take-le (count - first) (drop first ds) (omega (arith, left, within, few))

-- the integer digits: the first group, and those after it
pub whole_put : (first count : ℕ) (separator table ds block others front text : List ℕ)
    → take first block ≡ take first ds → take (count - first) (drop first block) ≡ drop first ds
    → front ≡ chained (map (digit_text table) (take first block))
    → text ≡ front ++ groups_ahead separator (digit_text table) others (take (count - first) (drop first block))
    → text ≡ chained (map (digit_text table) (take first ds)) ++ groups_ahead separator (digit_text table) others (drop first ds)
whole_put first count separator table ds block others front text part rest begun put =
    put
    ∙ ap (λ digits. front ++ groups_ahead separator (digit_text table) others digits) rest
    ∙ ap (λ group. group ++ groups_ahead separator (digit_text table) others (drop first ds)) (begun ∙ ap (λ digits. chained (map (digit_text table) digits)) part)

-- the separator and the fraction digits after what is there
pub fraction_put : (count : ℕ) (table ds block separator before point text : List ℕ) → take count block ≡ take count ds
    → point ≡ before ++ separator → text ≡ point ++ chained (map (digit_text table) (take count block))
    → text ≡ before ++ (separator ++ chained (map (digit_text table) (take count ds)))
fraction_put count table ds block separator before point text shown pointed put =
    put
    ∙ ap (λ front. front ++ chained (map (digit_text table) (take count block))) pointed
    ∙ append_assoc before separator (chained (map (digit_text table) (take count block)))
    ∙ ap (λ digits. before ++ (separator ++ chained (map (digit_text table) digits))) shown
