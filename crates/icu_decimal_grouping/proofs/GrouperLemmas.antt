-- Groups cut from the right, and the separator after the digit where one ends.
use Rattle.std.proofs.Common.{◌≡◌, ℕ, zero, suc, ◌+◌, ◌-◌, ◌*◌, ◌/◌, ◌%◌, ◌<◌, ◌≤◌, Bool, true, false, cond, not, ◌&&◌, ◌||◌, List, [], ◌∷◌, ◌++◌, length, take, drop, replicate, refl, sym, ap, ◌∙◌, append_assoc, arith, nat_le, ◌==◌, inl, inr, length-append, take-append-drop, length-drop}
use Rattle.std.proofs.lemmas.Bool.{false≢true, le-leb, lt-leb, eq-eqb, ne_eqb, or_from, or_left, and_left, and_right, and_from, and_parts, not-true, leb-true, eqb-false, cases_order, cond_both}
use Rattle.std.proofs.lemmas.List.{append-nil, take_all, length-take-le}
use Rattle.std.proofs.lemmas.Nat.{mod-mul-add, div-add-mod', mod_below}
use Rattle.std.proofs.lemmas.List.Sums.{sum_by-cons}
use Rattle.std.proofs.Math.Nat.{pos_of_ne-zero}
use Rattle.std.specs.List.{sum}
use Rattle.icu_decimal_symbols.specs.declared.grouping_sizes.GroupingSizes.{GroupingSizes}
use Rattle.icu_decimal_symbols.specs.declared.options.GroupingStrategy.{GroupingStrategy}
use Rattle.icu_decimal_symbols.specs.declared.options.GroupingStrategy.TheVariants.{Auto, Never, Always, Min2, OnAligned}
use Rattle.icu_decimal_grouping.specs.GroupLaws.{GroupsAreCut, GroupsAreSeparated, IsCutFromTheRight}
use Rattle.icu_decimal_grouping.specs.Grouper.{least_front, may_group, middle_size, is_grouped, cut_sizes, group_sizes, cut_by, groups, joined, ends_at, marked, separates}

-- each size is above 0
abbrev pub AllAbove : List ℕ → Type 0
AllAbove [] = Unit {0}
AllAbove (n ∷ ns) = (0 < n) × AllAbove ns

-- a sum from its first summand on
sum-cons : (n : ℕ) (ns : List ℕ) → sum (n ∷ ns) ≡ n + sum ns
sum-cons n ns = sum_by-cons (λ m. m) n ns

-- no group ends above them all
pub ends_above : (ns : List ℕ) (m : ℕ) → AllAbove ns → sum ns ≤ m → ends_at ns m ≡ false
ends_above [] m above far = refl
ends_above (n ∷ []) m above far = refl
ends_above (n ∷ k ∷ ns) m above far =
    let whole : sum (n ∷ k ∷ ns) ≡ n + sum (k ∷ ns) = sum-cons n (k ∷ ns) in
    let first : 0 < n = above.0 in
    let rest : sum (k ∷ ns) ≤ m = omega (arith, whole, first, far) in
    let other : m ≡ sum (k ∷ ns) → ⊥ = λ same. omega (arith, whole, first, far, same) in
    or_from _ _ (ne_eqb m (sum (k ∷ ns)) other) (ends_above (k ∷ ns) m above.1 rest)

-- Separators by groups, and by magnitudes.

-- the elements up to the first mark, the mark, and the rest
pub marked_chunk : {A : Type 0} (ends : ℕ → Bool) (separator : List A) (x : A) (xs rest : List A) → ((m : ℕ) → length rest < m → m ≤ length xs + length rest → ends m ≡ false) → ends (length rest) ≡ true → marked ends separator (x ∷ (xs ++ rest)) ≡ (x ∷ xs) ++ (separator ++ marked ends separator rest)
marked_chunk ends separator x [] rest quiet here =
    ap (λ b. x ∷ (cond b separator [] ++ marked ends separator rest)) here
marked_chunk ends separator x (y ∷ ys) rest quiet here =
    let size : length (ys ++ rest) ≡ length ys + length rest = length-append ys rest in
    let none : ends (suc (length (ys ++ rest))) ≡ false = quiet (suc (length (ys ++ rest))) (omega (arith, size)) (omega (arith, size)) in
    let inner : (m : ℕ) → length rest < m → m ≤ length ys + length rest → ends m ≡ false = λ m above below. quiet m above (omega (arith, below)) in
    ap (λ b. x ∷ (cond b separator [] ++ marked ends separator (y ∷ (ys ++ rest)))) none
    ∙ ap (λ t. x ∷ t) (marked_chunk ends separator y ys rest inner here)

pub marked_none : {A : Type 0} (ends : ℕ → Bool) (separator xs : List A) → ((m : ℕ) → ends m ≡ false) → marked ends separator xs ≡ xs
marked_none ends separator [] quiet = refl
marked_none ends separator (x ∷ xs) quiet =
    ap (λ b. x ∷ (cond b separator [] ++ marked ends separator xs)) (quiet (length xs))
    ∙ ap (λ t. x ∷ t) (marked_none ends separator xs quiet)

pub marked_agree : {A : Type 0} (ends others : ℕ → Bool) (separator xs : List A) → ((m : ℕ) → m < length xs → ends m ≡ others m) → marked ends separator xs ≡ marked others separator xs
marked_agree ends others separator [] agree = refl
marked_agree ends others separator (x ∷ xs) agree =
    let inner : (m : ℕ) → m < length xs → ends m ≡ others m = λ m below. agree m (omega (arith, below)) in
    ap (λ b. x ∷ (cond b separator [] ++ marked ends separator xs)) (agree (length xs) (omega arith))
    ∙ ap (λ t. x ∷ (cond (others (length xs)) separator [] ++ t)) (marked_agree ends others separator xs inner)

-- one group before the others
pub joined_step : {A : Type 0} (n k : ℕ) (ns : List ℕ) (separator front rest : List A) → 0 < length front → AllAbove (k ∷ ns) → sum (k ∷ ns) ≡ length rest → joined separator (cut_by (k ∷ ns) rest) ≡ marked (ends_at (k ∷ ns)) separator rest → joined separator (front ∷ cut_by (k ∷ ns) rest) ≡ marked (ends_at (n ∷ k ∷ ns)) separator (front ++ rest)
joined_step n k ns separator [] rest some above whole inner = absurd (omega (arith, some))
joined_step {A} n k ns separator (x ∷ xs) rest some above whole inner =
    let ends : ℕ → Bool = ends_at (n ∷ k ∷ ns) in
    let quiet : (m : ℕ) → length rest < m → m ≤ length xs + length rest → ends m ≡ false = λ m far below. or_from _ _ (ne_eqb m (sum (k ∷ ns)) (λ same. omega (arith, same, whole, far))) (ends_above (k ∷ ns) m above (omega (arith, whole, far))) in
    let here : ends (length rest) ≡ true = or_left _ _ (eq-eqb (length rest) (sum (k ∷ ns)) (sym whole)) in
    let agree : (m : ℕ) → m < length rest → ends_at (k ∷ ns) m ≡ ends m = λ m below. sym (ap (λ b. b || ends_at (k ∷ ns) m) (ne_eqb m (sum (k ∷ ns)) (λ same. omega (arith, same, whole, below)))) in
    ap (λ t. (x ∷ xs) ++ t) (append_assoc separator (take k rest) _)
    ∙ ap (λ t. (x ∷ xs) ++ (separator ++ t)) (inner ∙ marked_agree (ends_at (k ∷ ns)) ends separator rest agree)
    ∙ sym (marked_chunk ends separator x xs rest quiet here)

pub joined_is_marked : {A : Type 0} (ns : List ℕ) (separator xs : List A) → AllAbove ns → sum ns ≡ length xs → joined separator (cut_by ns xs) ≡ marked (ends_at ns) separator xs
joined_is_marked [] separator [] above whole = refl
joined_is_marked [] separator (x ∷ xs) above whole = absurd (omega (arith, whole))
joined_is_marked (n ∷ []) separator xs above whole =
    let one : take n xs ≡ xs = take_all n xs (omega (arith, whole, sum-cons n [])) in
    append-nil (take n xs) ∙ one ∙ sym (marked_none (ends_at (n ∷ [])) separator xs (λ m. refl))
joined_is_marked (n ∷ k ∷ ns) separator xs above whole =
    let first : 0 < n = above.0 in
    let size : sum (n ∷ k ∷ ns) ≡ n + sum (k ∷ ns) = sum-cons n (k ∷ ns) in
    let front : length (take n xs) ≡ n = length-take-le n xs (omega (arith, whole, size)) in
    let rest : sum (k ∷ ns) ≡ length (drop n xs) = omega (arith, whole, size, length-drop n xs) in
    joined_step n k ns separator (take n xs) (drop n xs) (omega (arith, front, first)) above.1 rest (joined_is_marked (k ∷ ns) separator (drop n xs) above.1 rest)
    ∙ ap (λ ys. marked (ends_at (n ∷ k ∷ ns)) separator ys) (take-append-drop n xs)

-- Sizes cut from the right.

-- the k middle sizes and the last one
abbrev pub later : ℕ → ℕ → ℕ → List ℕ
later p q k = replicate k q ++ p ∷ []

sum-later : (p q k : ℕ) → sum (later p q k) ≡ k * q + p
sum-later p q zero = omega (arith, sum-cons p [])
sum-later p q (suc k) =
    let step : sum (later p q (suc k)) ≡ q + sum (later p q k) = sum-cons q (later p q k) in
    let inner : sum (later p q k) ≡ k * q + p = sum-later p q k in
    let product : suc k * q ≡ q + k * q = omega arith in
    omega (arith, step, inner, product)

above-later : (p q k : ℕ) → 0 < p → 0 < q → AllAbove (later p q k)
above-later p q zero last middle = (last, tt)
above-later p q (suc k) last middle = (middle, above-later p q k last middle)

-- a group ends at p and at each multiple of q above it
abbrev pub is_end : ℕ → ℕ → ℕ → Bool
is_end p q m = nat_le p m && ((m - p) % q == 0)

end_at : (p q k m : ℕ) → 0 < q → m ≡ k * q + p → is_end p q m ≡ true
end_at p q k m middle same =
    let gap : m - p ≡ k * q + 0 = omega (arith, same) in
    let left : (m - p) % q ≡ 0 = ap (λ n. n % q) gap ∙ mod-mul-add k q 0 middle in
    and_from _ _ (le-leb p m (omega (arith, same))) (eq-eqb ((m - p) % q) 0 left)

no_end_between : (p q k m : ℕ) → 0 < q → k * q + p < m → m < q + (k * q + p) → is_end p q m ≡ false
no_end_between p q k m middle above below =
    let r : ℕ = m - p - k * q in
    let gap : m - p ≡ k * q + r = omega (arith, above) in
    let left : (m - p) % q ≡ r = ap (λ n. n % q) gap ∙ mod-mul-add k q r (omega (arith, above, below)) in
    and_right _ _ (ne_eqb ((m - p) % q) 0 (λ none. omega (arith, left, none, above)))

no_end_below : (p q m : ℕ) → m < p → is_end p q m ≡ false
no_end_below p q m below = and_left _ _ (lt-leb p m below)

pub later_ends : (p q first k m : ℕ) → 0 < p → 0 < q → m < q + (k * q + p) → ends_at (first ∷ later p q k) m ≡ is_end p q m
later_ends p q first zero m last middle near =
    elim (cases_order m p) [
      | inl same ↦ or_left _ _ (eq-eqb m (sum (p ∷ [])) (omega (arith, same, sum-cons p []))) ∙ sym (end_at p q 0 m middle (omega (arith, same)))
      | inr (inl below) ↦ or_from _ _ (ne_eqb m (sum (p ∷ [])) (λ same. omega (arith, same, below, sum-cons p []))) refl ∙ sym (no_end_below p q m below)
      | inr (inr above) ↦ or_from _ _ (ne_eqb m (sum (p ∷ [])) (λ same. omega (arith, same, above, sum-cons p []))) refl ∙ sym (no_end_between p q 0 m middle (omega (arith, above)) near)
    ]
later_ends p q first (suc k) m last middle near =
    let whole : sum (later p q (suc k)) ≡ suc k * q + p = sum-later p q (suc k) in
    let product : suc k * q ≡ q + k * q = omega arith in
    elim (cases_order m (sum (later p q (suc k)))) [
      | inl same ↦ or_left _ _ (eq-eqb m (sum (later p q (suc k))) same) ∙ sym (end_at p q (suc k) m middle (omega (arith, same, whole)))
      | inr (inl below) ↦ ap (λ b. b || ends_at (q ∷ later p q k) m) (ne_eqb m (sum (later p q (suc k))) (λ same. omega (arith, same, below))) ∙ later_ends p q q k m last middle (omega (arith, below, whole, product))
      | inr (inr above) ↦ or_from _ _ (ne_eqb m (sum (later p q (suc k))) (λ same. omega (arith, same, above))) (ends_above (q ∷ later p q k) m (above-later p q (suc k) last middle) (omega (arith, above))) ∙ sym (no_end_between p q (suc k) m middle (omega (arith, above, whole)) near)
    ]

-- how d digits are cut: k whole middle groups, and a first one that is not longer
pub record IsCut (p q d k : ℕ) : Type 0 where
  pub some : k * q + p < d
  pub short : d ≤ q + (k * q + p)

cut_whole : (p q d : ℕ) → 0 < q → p + 1 ≤ d → IsCut p q d ((d - p - 1) / q)
cut_whole p q d middle enough =
    let whole : (d - p - 1) / q * q + (d - p - 1) % q ≡ d - p - 1 = div-add-mod' (d - p - 1) q in
    let left : (d - p - 1) % q < q = mod_below (d - p - 1) q middle in
    record { some = omega (arith, whole, left, enough); short = omega (arith, whole, left, enough) }

-- what `is_grouped` says
pub record HasGroups (s : GroupingSizes) (d : ℕ) : Type 0 where
  pub last : 0 < s.primary
  pub middle : 0 < middle_size s
  pub enough : s.primary + 1 ≤ d

least_above : (t : GroupingStrategy) (n : ℕ) → 1 ≤ least_front t n
least_above Auto n = omega arith
least_above Never n = omega arith
least_above Always n = omega arith
least_above Min2 n = omega arith
least_above OnAligned n = omega arith

middle_above : (s : GroupingSizes) → 0 < s.primary → 0 < middle_size s
middle_above s last =
    cond_both (s.secondary == 0) s.primary s.secondary (λ n. 0 < n) (λ _. last) (λ other. pos_of_ne-zero (eqb-false s.secondary 0 other))

pub has_groups : (t : GroupingStrategy) (s : GroupingSizes) (d : ℕ) → is_grouped t s d ≡ true → HasGroups s d
has_groups t s d grouped =
    let parts : (not (s.primary == 0) ≡ true) × ((may_group t && nat_le (s.primary + least_front t s.min_grouping) d) ≡ true) = and_parts _ _ grouped in
    let last : 0 < s.primary = pos_of_ne-zero (eqb-false s.primary 0 (not-true _ parts.0)) in
    let tests : (may_group t ≡ true) × (nat_le (s.primary + least_front t s.min_grouping) d ≡ true) = and_parts _ _ parts.1 in
    let enough : s.primary + least_front t s.min_grouping ≤ d = leb-true _ _ tests.1 in
    record { last = last; middle = middle_above s last; enough = omega (arith, enough, least_above t s.min_grouping) }

ends_by : (g : Bool) (p q d m : ℕ) → (g ≡ true → (0 < p) × (0 < q) × (p + 1 ≤ d)) → m < d → ends_at (cond g (cut_sizes p q d) (d ∷ [])) m ≡ (g && is_end p q m)
ends_by false p q d m facts near = refl
ends_by true p q d m facts near =
    let fact = facts refl in
    let is_cut : IsCut p q d ((d - p - 1) / q) = cut_whole p q d fact.1 fact.2 in
    later_ends p q (d - p - (d - p - 1) / q * q) ((d - p - 1) / q) m fact.0 fact.1 (omega (arith, is_cut.short, near))

-- A separator is after the digit at a magnitude exactly where a group ends.
pub ends_is_separated : (t : GroupingStrategy) (s : GroupingSizes) (d m : ℕ) → m < d → ends_at (group_sizes t s d) m ≡ separates t s d m
ends_is_separated t s d m near =
    ends_by (is_grouped t s d) s.primary (middle_size s) d m (λ grouped. let h = has_groups t s d grouped in (h.last, h.middle, h.enough)) near

sizes_by : (g : Bool) (p q d : ℕ) → (g ≡ true → (0 < p) × (0 < q) × (p + 1 ≤ d)) → 0 < d → AllAbove (cond g (cut_sizes p q d) (d ∷ [])) × (sum (cond g (cut_sizes p q d) (d ∷ [])) ≡ d)
sizes_by false p q d facts some = ((some, tt), omega (arith, sum-cons d []))
sizes_by true p q d facts some =
    let fact = facts refl in
    let is_cut : IsCut p q d ((d - p - 1) / q) = cut_whole p q d fact.1 fact.2 in
    let whole : sum (later p q ((d - p - 1) / q)) ≡ (d - p - 1) / q * q + p = sum-later p q ((d - p - 1) / q) in
    ((omega (arith, is_cut.some), above-later p q ((d - p - 1) / q) fact.0 fact.1), sum-cons (d - p - (d - p - 1) / q * q) (later p q ((d - p - 1) / q)) ∙ omega (arith, whole, is_cut.some))

pub record AreSizes (ns : List ℕ) (d : ℕ) : Type 0 where
  pub above : AllAbove ns
  pub whole : sum ns ≡ d

-- The sizes of the groups are above 0, and d together.
pub are_sizes : (t : GroupingStrategy) (s : GroupingSizes) (d : ℕ) → 0 < d → AreSizes (group_sizes t s d) d
are_sizes t s d some =
    let both = sizes_by (is_grouped t s d) s.primary (middle_size s) d (λ grouped. let h = has_groups t s d grouped in (h.last, h.middle, h.enough)) some in
    record { above = both.0; whole = both.1 }

-- The groups joined are the digits, with a separator after each where a group ends.
pub joined_is_separated : {A : Type 0} (t : GroupingStrategy) (s : GroupingSizes) (separator xs : List A) → 0 < length xs → joined separator (groups t s xs) ≡ marked (ends_at (group_sizes t s (length xs))) separator xs
joined_is_separated t s separator xs some =
    let sizes : AreSizes (group_sizes t s (length xs)) (length xs) = are_sizes t s (length xs) some in
    joined_is_marked (group_sizes t s (length xs)) separator xs sizes.above sizes.whole

-- The laws of groups.

cut_by_right : (g : Bool) (p q d : ℕ) → g ≡ true → 0 < q → p + 1 ≤ d → IsCutFromTheRight p q d (cond g (cut_sizes p q d) (d ∷ []))
cut_by_right false p q d grouped middle enough = absurd (false≢true grouped)
cut_by_right true p q d grouped middle enough =
    let is_cut : IsCut p q d ((d - p - 1) / q) = cut_whole p q d middle enough in
    record {
      first = d - p - (d - p - 1) / q * q;
      middle = (d - p - 1) / q;
      listed = refl;
      some = omega (arith, is_cut.some);
      short = omega (arith, is_cut.short);
      whole = omega (arith, is_cut.some);
    }

pub groups_are_cut : GroupsAreCut
groups_are_cut t s d grouped =
    let has = has_groups t s d grouped in
    cut_by_right (is_grouped t s d) s.primary (middle_size s) d grouped has.middle has.enough

pub groups_are_separated : GroupsAreSeparated
groups_are_separated t s separator digits some =
    joined_is_separated t s separator digits some
    ∙ marked_agree (ends_at (group_sizes t s (length digits))) (separates t s (length digits)) separator digits (λ m near. ends_is_separated t s (length digits) m near)
