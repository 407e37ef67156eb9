-- The sizes of groups as they are held: how many, how many digits together, and those that fill a chunk.
use Rattle.std.proofs.Common.{◌≡◌, ℕ, zero, suc, ◌+◌, ◌-◌, ◌*◌, ◌/◌, ◌%◌, ◌<◌, ◌≤◌, List, [], ◌∷◌, ◌++◌, cond, length, length-append, refl, replicate, sum, sym, ap, ◌∙◌, append_assoc, arith}
use Rattle.std.proofs.lemmas.Bool.{ne_eqb}
use Rattle.std.proofs.lemmas.List.{length-replicate, replicate-append-replicate}
use Rattle.std.proofs.lemmas.List.Sums.{sum_by-append, sum_by-cons}
use Rattle.std.proofs.lemmas.Nat.{div-add-mod'}
use Rattle.icu_decimal_grouping.specs.HeldSizes.{size_if, sizes_held}

-- Sums.

-- a size that is not 0 is one
some_size : (n : ℕ) → 0 < n → size_if n ≡ n ∷ []
some_size n some = ap (λ b. cond b [] (n ∷ [])) (ne_eqb n 0 (λ is. omega (arith, some, is)))

-- a size, or none
sum_if : (n : ℕ) → sum (size_if n) ≡ n
sum_if zero = refl
sum_if (suc n) =
    let one = sum_by-cons (λ x. x) (suc n) [] in
    let is = ap sum (some_size (suc n) (omega arith)) in
    omega (arith, one, is)

-- equal sizes, and others after them
pub equal_sum : (ms : List ℕ) (n k : ℕ) → sum (replicate k n ++ ms) ≡ k * n + sum ms
equal_sum ms n zero = omega arith
equal_sum ms n (suc k) =
    let rest = equal_sum ms n k in
    let next = sum_by-cons (λ x. x) n (replicate k n ++ ms) in
    omega (arith, rest, next)

-- all the sizes that are held
pub held_sum : (first middles middle last : ℕ) → sum (sizes_held first middles middle last) ≡ first + middles * middle + last
held_sum first middles middle last =
    let both = sum_by-append (λ x. x) (size_if first) (replicate middles middle ++ size_if last) in
    let front = sum_if first in
    let others = equal_sum (size_if last) middle middles in
    let behind = sum_if last in
    omega (arith, both, front, others, behind)

-- Chunks.

-- groups that fill a chunk
pub whole_chunk : (size : ℕ) → 48 % size ≡ 0 → 48 / size * size ≡ 48
whole_chunk size fits = let split = div-add-mod' 48 size in omega (arith, split, fits)

-- groups that fill a chunk have its digits together
pub chunk_whole : (size : ℕ) → 48 % size ≡ 0 → sum (sizes_held 0 (48 / size) size 0) ≡ 48
chunk_whole size fits =
    let whole = whole_chunk size fits in
    let all = equal_sum [] size (48 / size) in
    omega (arith, whole, all)

-- and are no more than they
pub chunk_few : (size : ℕ) → 48 % size ≡ 0 → 0 < size → length (sizes_held 0 (48 / size) size 0) ≤ 48
chunk_few zero fits some = absurd (omega (arith, some))
chunk_few (suc k) fits some =
    let whole = whole_chunk (suc k) fits in
    let count = length-append (replicate (48 / suc k) (suc k)) [] in
    let groups = length-replicate (48 / suc k) (suc k) in
    omega (arith, whole, count, groups)

-- so many of the middle groups, and the others
pub middles_taken : (first middles middle last groups : ℕ) → first ≤ 0 → groups ≤ middles
    → sizes_held first middles middle last ≡ replicate groups middle ++ sizes_held first (middles - groups) middle last
middles_taken (suc first) middles middle last groups none few = absurd (omega (arith, none))
middles_taken zero middles middle last groups none few =
    let whole : groups + (middles - groups) ≡ middles = omega (arith, few) in
    ap (λ n. replicate n middle ++ size_if last) (sym whole)
    ∙ ap (λ ns. ns ++ size_if last) (sym (replicate-append-replicate groups (middles - groups) middle))
    ∙ append_assoc (replicate groups middle) (replicate (middles - groups) middle) (size_if last)
