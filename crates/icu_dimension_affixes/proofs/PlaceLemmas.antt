-- How often the place of the unit is in a text.
use Rattle.std.proofs.Common.{Bor, ◌≡◌, ◌≢◌, ℕ, ◌+◌, List, [], ◌∷◌, ◌++◌, length, length-append, Bool, true, false, cond, ◌&&◌, refl, sym, ap, ◌∙◌, arith, eqb}
use Rattle.std.proofs.lemmas.Bool.{eqb-true}
use Rattle.std.specs.Prelude.{◌↔◌, ◌<◌, IfNone, IfOk, IfSome, IsErrOf, MatchOption, Option, None, Some, Result, Ok, Err}
use Rattle.icu_dimension_affixes.specs.declared.error.UnitPatternError.{UnitPatternError}
use Rattle.icu_dimension_affixes.specs.declared.error.UnitPatternError.TheVariants.{Memory, NoPlace, PlaceTwice}
use Rattle.icu_dimension_affixes.specs.UnitPlaces.{placeholder, places}

-- a text around the place has it once more
pub places_around : (xs ys : List ℕ) → places (xs ++ (placeholder ++ ys)) ≡ places xs + (1 + places ys)
places_around [] ys = omega arith
places_around (x ∷ []) ys = omega arith
places_around (x ∷ y ∷ xs) ys = let rest = places_around (y ∷ xs) ys in omega (arith, rest)

and_false : (b : Bool) → (b && false) ≡ false
and_false true = refl
and_false false = refl

-- both halves of the place are there
first_of : (a b : Bool) → (a && b) ≡ true → a ≡ true
first_of true b both = refl
first_of false b both = both

second_of : (a b : Bool) → (a && b) ≡ true → b ≡ true
second_of true b both = both
second_of false b both = absurd (cc)

joined_here : (x y : ℕ) (bs : List ℕ) → (eqb x 194 && eqb y 164) ≡ true → (x ∷ y ∷ bs) ≡ [] ++ (placeholder ++ bs)
joined_here x y bs both =
    let one : x ≡ 194 = eqb-true x 194 (first_of (eqb x 194) (eqb y 164) both) in
    let other : y ≡ 164 = eqb-true y 164 (second_of (eqb x 194) (eqb y 164) both) in
    ap (λ b. b ∷ y ∷ bs) one ∙ ap (λ b. 194 ∷ b ∷ bs) other

lacks_here : (b : Bool) (x y : ℕ) (bs : List ℕ) → ((xs ys : List ℕ) → (x ∷ y ∷ bs) ≢ xs ++ (placeholder ++ ys)) → (eqb x 194 && eqb y 164) ≡ b → b ≡ false
lacks_here false x y bs none is = refl
lacks_here true x y bs none is = absurd (none [] bs (joined_here x y bs is))

-- a text that is nowhere cut at the place lacks it
pub places_none : (bs : List ℕ) → ((xs ys : List ℕ) → bs ≢ xs ++ (placeholder ++ ys)) → places bs ≡ 0
places_none [] none = refl
places_none (x ∷ []) none = ap (λ b. cond b 1 0 + 0) (and_false (eqb x 194))
places_none (x ∷ y ∷ bs) none =
    let rest : places (y ∷ bs) ≡ 0 = places_none (y ∷ bs) (λ xs ys is. none (x ∷ xs) ys (ap (λ more. x ∷ more) is)) in
    let here : (eqb x 194 && eqb y 164) ≡ false = lacks_here (eqb x 194 && eqb y 164) x y bs none refl in
    ap (λ b. cond b 1 0 + places (y ∷ bs)) here ∙ ap (λ n. 0 + n) rest

no_bytes : (xs : List ℕ) → length xs ≡ 0 → xs ≡ []
no_bytes [] none = refl
no_bytes (x ∷ xs) none = absurd (omega (arith, none))

-- around the place there is nothing where the two texts are the place alone
pub alone_first : (xs ys zs : List ℕ) → (xs ++ (placeholder ++ ys)) ++ zs ≡ placeholder → (xs ≡ []) × (ys ≡ []) × (zs ≡ [])
alone_first xs ys zs is =
    let whole : length ((xs ++ (placeholder ++ ys)) ++ zs) ≡ 2 = ap length is in
    let outer : length ((xs ++ (placeholder ++ ys)) ++ zs) ≡ length (xs ++ (placeholder ++ ys)) + length zs = length-append (xs ++ (placeholder ++ ys)) zs in
    let inner : length (xs ++ (placeholder ++ ys)) ≡ length xs + (2 + length ys) = length-append xs (placeholder ++ ys) ∙ ap (λ n. length xs + n) (length-append placeholder ys) in
    (no_bytes xs (omega (arith, whole, outer, inner)), no_bytes ys (omega (arith, whole, outer, inner)), no_bytes zs (omega (arith, whole, outer, inner)))

pub alone_second : (xs ys zs : List ℕ) → xs ++ (ys ++ (placeholder ++ zs)) ≡ placeholder → (xs ≡ []) × (ys ≡ []) × (zs ≡ [])
alone_second xs ys zs is =
    let whole : length (xs ++ (ys ++ (placeholder ++ zs))) ≡ 2 = ap length is in
    let outer : length (xs ++ (ys ++ (placeholder ++ zs))) ≡ length xs + length (ys ++ (placeholder ++ zs)) = length-append xs (ys ++ (placeholder ++ zs)) in
    let inner : length (ys ++ (placeholder ++ zs)) ≡ length ys + (2 + length zs) = length-append ys (placeholder ++ zs) ∙ ap (λ n. length ys + n) (length-append placeholder zs) in
    (no_bytes xs (omega (arith, whole, outer, inner)), no_bytes ys (omega (arith, whole, outer, inner)), no_bytes zs (omega (arith, whole, outer, inner)))

-- what a cut at the place says of a text
abbrev pub IsCut : List ℕ → Option (Bor (List ℕ) × Bor (List ℕ)) → Type 0
IsCut bs r = MatchOption r ((xs ys : List ℕ) → bs ≢ xs ++ (placeholder ++ ys)) (λ x. bs ≡ x.0.now ++ (placeholder ++ x.1.now))

pub cut_some : (bs : List ℕ) (r : Option (Bor (List ℕ) × Bor (List ℕ))) → IsCut bs r → IfSome r (λ x. bs ≡ x.0.now ++ (placeholder ++ x.1.now))
cut_some bs None cut = tt
cut_some bs (Some x) cut = cut

pub cut_none : (bs : List ℕ) (r : Option (Bor (List ℕ) × Bor (List ℕ))) → IsCut bs r → IfNone r (places bs ≡ 0)
cut_none bs None cut = places_none bs cut
cut_none bs (Some x) cut = tt

-- what was cut once has the place once more than the three texts

pub places_first : (whole xs ys zs : List ℕ) → whole ≡ xs ++ (placeholder ++ ys) → places whole + places zs ≡ 1 + (places xs + (places ys + places zs))
places_first whole xs ys zs is = let cut : places whole ≡ places xs + (1 + places ys) = ap places is ∙ places_around xs ys in omega (arith, cut)

pub places_second : (whole xs ys zs : List ℕ) → whole ≡ ys ++ (placeholder ++ zs) → places xs + places whole ≡ 1 + (places xs + (places ys + places zs))
places_second whole xs ys zs is = let cut : places whole ≡ places ys + (1 + places zs) = ap places is ∙ places_around ys zs in omega (arith, cut)

pub cut_once : {T : Type 0} (r : Result T UnitPatternError) (whole more : ℕ) → whole ≡ 1 + more → IfOk r (λ _. more ≡ 0) → IfOk r (λ _. whole ≡ 1)
cut_once (Ok x) whole more is clear = omega (arith, is, clear)
cut_once (Err e) whole more is clear = tt

pub cut_somewhere : {T : Type 0} (r : Result T UnitPatternError) (whole more : ℕ) → whole ≡ 1 + more → ¬ (IsErrOf r NoPlace) → IsErrOf r NoPlace ↔ (whole ≡ 0)
cut_somewhere r whole more is never = (λ refused. absurd (never refused), λ none. absurd (omega (arith, is, none)))

pub cut_twice : {T : Type 0} (r : Result T UnitPatternError) (whole more : ℕ) → whole ≡ 1 + more → IsErrOf r PlaceTwice ↔ (0 < more) → IsErrOf r PlaceTwice ↔ (1 < whole)
cut_twice r whole more is twice = (λ refused. let some : 0 < more = twice.0 refused in omega (arith, is, some), λ many. twice.1 (omega (arith, is, many)))

pub memory_first : {T : Type 0} (r : Result T UnitPatternError) (whole xs ys zs : List ℕ) → whole ≡ xs ++ (placeholder ++ ys) → (xs ≡ [] → ys ≡ [] → zs ≡ [] → ¬ (IsErrOf r Memory)) → IsErrOf r Memory → whole ++ zs ≢ placeholder
memory_first r whole xs ys zs is enough refused alone =
    let none = alone_first xs ys zs (ap (λ text. text ++ zs) (sym is) ∙ alone) in enough none.0 none.1 none.2 refused

pub memory_second : {T : Type 0} (r : Result T UnitPatternError) (whole xs ys zs : List ℕ) → whole ≡ ys ++ (placeholder ++ zs) → (xs ≡ [] → ys ≡ [] → zs ≡ [] → ¬ (IsErrOf r Memory)) → IsErrOf r Memory → xs ++ whole ≢ placeholder
memory_second r whole xs ys zs is enough refused alone =
    let none = alone_second xs ys zs (ap (λ text. xs ++ text) (sym is) ∙ alone) in enough none.0 none.1 none.2 refused
