-- The digits of a number taken in chunks.
use Rattle.std.proofs.Common.{◌≡◌, ℕ, zero, suc, ◌+◌, ◌-◌, ◌<◌, ◌≤◌, List, [], ◌∷◌, ◌++◌, Option, None, Some, drop, length, min, refl, subst, sum, take, ap, ◌∙◌, sym, arith, length-drop}
use Rattle.std.proofs.lemmas.List.{drop-take, length-take-le, take_all, take-take}
use Rattle.std.proofs.lemmas.List.Sums.{sum_by-cons}
use Rattle.std.proofs.Math.Seq.{take-add, take-append-add}
use Rattle.std.specs.Option.{MatchOption, unwrap_or}
use Rattle.icu_decimal_symbols.specs.declared.grouping_sizes.GroupingSizes.{GroupingSizes}
use Rattle.icu_decimal_symbols.specs.declared.options.GroupingStrategy.{GroupingStrategy}
use Rattle.fixed_decimal.specs.Number.{digits_down}
use Rattle.icu_decimal_grouping.specs.Grouper.{group_sizes}
use Rattle.icu_decimal_grouping.proofs.GrouperLemmas.{AllAbove, are_sizes}

-- of a block that was put the first few
pub block_part : (chunk after block shown : List ℕ) (at n : ℕ) → n ≤ 16 → at ≤ length chunk
    → take (at + 16) after ≡ take at chunk ++ block → take n block ≡ take n shown → take (at + n) after ≡ take at chunk ++ take n shown
block_part chunk after block shown at n few within put held =
    let size : length (take at chunk) ≡ at = length-take-le at chunk within in
    sym (take-take (at + n) (at + 16) after (omega (arith, few)))
    ∙ ap (take (at + n)) put
    ∙ ap (λ k. take (k + n) (take at chunk ++ block)) (sym size)
    ∙ take-append-add (take at chunk) block n
    ∙ ap (λ list. take at chunk ++ list) held

-- a block more of the digits
pub block_next : (ds chunk after : List ℕ) (at n : ℕ) → at < length ds → n ≡ min 16 (length (drop at ds))
    → take (min at (length ds)) chunk ≡ take (min at (length ds)) ds → take (at + n) after ≡ take at chunk ++ take n (drop at ds)
    → take (min (at + 16) (length ds)) after ≡ take (min (at + 16) (length ds)) ds
block_next ds chunk after at n more count held put =
    let left = length-drop at ds in
    let inside : min at (length ds) ≡ at = omega (arith, more) in
    let past : min (at + 16) (length ds) ≡ at + n = omega (arith, more, count, left) in
    let before : take at chunk ≡ take at ds = rw inside at held in
    ap (λ k. take k after) past
    ∙ put
    ∙ ap (λ front. front ++ take n (drop at ds)) before
    ∙ sym (take-add at n ds)
    ∙ ap (λ k. take k ds) (sym past)

-- all of them
pub blocks_done : (ds chunk : List ℕ) (at count : ℕ) → count ≤ at → count ≤ length ds
    → take (min at (length ds)) chunk ≡ take (min at (length ds)) ds → take count chunk ≡ take count ds
blocks_done ds chunk at count past enough held =
    let k : ℕ = min at (length ds) in
    let within : count ≤ min at (length ds) = omega (arith, past, enough) in
    sym (take-take count (min at (length ds)) chunk within) ∙ ap (take count) held ∙ take-take count (min at (length ds)) ds within

-- a first part of them, and what is after it
pub part_shown : (ds chunk : List ℕ) (first count : ℕ) → first ≤ count → take count chunk ≡ take count ds → take first chunk ≡ take first ds
part_shown ds chunk first count within held =
    sym (take-take first count chunk within) ∙ ap (take first) held ∙ take-take first count ds within

pub rest_shown : (ds chunk : List ℕ) (first count : ℕ) → first ≤ count → length ds ≤ count → take count chunk ≡ take count ds
    → take (count - first) (drop first chunk) ≡ drop first ds
rest_shown ds chunk first count within all held =
    let whole : first + (count - first) ≡ count = omega (arith, within) in
    sym (drop-take first (count - first) chunk)
    ∙ ap (λ n. drop first (take n chunk)) whole
    ∙ ap (drop first) (held ∙ take_all count ds all)

-- the first group, and the digits of the others
pub sizes_split : (t : GroupingStrategy) (s : GroupingSizes) (d size : ℕ) (sizes others : List ℕ) (first : Option ℕ) → 0 < d → sizes ≡ group_sizes t s d
    → MatchOption first ((sizes ≡ []) × (others ≡ [])) (λ n. sizes ≡ n ∷ others) → size ≡ unwrap_or first 0 → size + sum others ≡ d
sizes_split t s d size sizes others None some cut next is =
    let whole = (are_sizes t s d some).whole in
    let none : sum sizes ≡ d = ap sum cut ∙ whole in
    let empty : sum others ≡ sum sizes = ap sum next.1 ∙ ap sum (sym next.0) in
    omega (arith, none, empty, is)
sizes_split t s d size sizes others (Some n) some cut next is =
    let whole = (are_sizes t s d some).whole in
    let all : sum sizes ≡ d = ap sum cut ∙ whole in
    let parts : sum sizes ≡ n + sum others = ap sum next ∙ sum_by-cons (λ x. x) n others in
    omega (arith, all, parts, is)

-- groups of one digit or more are as many as their digits at most
few_sizes : (sizes : List ℕ) → AllAbove sizes → length sizes ≤ sum sizes
few_sizes [] above = omega arith
few_sizes (n ∷ sizes) above =
    let some = above.0 in
    let rest = few_sizes sizes above.1 in
    let all = sum_by-cons (λ x. x) n sizes in
    omega (arith, some, rest, all)

pub few_others : (t : GroupingStrategy) (s : GroupingSizes) (d : ℕ) (sizes others : List ℕ) (first : Option ℕ) → 0 < d → sizes ≡ group_sizes t s d
    → MatchOption first ((sizes ≡ []) × (others ≡ [])) (λ n. sizes ≡ n ∷ others) → length others < d
few_others t s d sizes others None some cut next =
    let none = ap length next.1 in
    omega (arith, none, some)
few_others t s d sizes others (Some n) some cut next =
    let is = are_sizes t s d some in
    let listed : n ∷ others ≡ group_sizes t s d = sym next ∙ cut in
    let whole : sum (n ∷ others) ≡ d = ap sum listed ∙ is.whole in
    let few = few_sizes (n ∷ others) (subst AllAbove (sym listed) is.above) in
    omega (arith, few, whole)

-- so many digits
pub length_down : (count base k : ℕ) → length (digits_down count base k) ≡ k
length_down count base zero = refl
length_down count base (suc k) = ap suc (length_down count base k)
