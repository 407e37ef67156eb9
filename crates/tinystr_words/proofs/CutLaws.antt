-- Slices cut into words: what a step over a front of eight bytes at most leaves for the rest.
use Rattle.std.proofs.Common.{◌≡◌, ℕ, zero, suc, ◌+◌, ◌-◌, ◌^◌, ◌≤◌, ◌<◌, Bool, true, false, ◌&&◌, take-add, List, [], ◌∷◌, ◌++◌, length, map, take, drop, get_or, replicate, refl, sym, ap, arith, ◌∙◌}
use Rattle.std.specs.List.{list_all}
use Rattle.std.specs.Str.{IsAscii}
use Rattle.std.proofs.Math.Bool.{and-true}
use Rattle.std.proofs.lemmas.List.{append_assoc, drop-drop, drop-replicate, length-drop, length-take, length-append, length-replicate, map-append, length-map, take_at, drop_at}
use Rattle.std.proofs.lemmas.List.Folds.{list_all-append}
use Rattle.tinystr_words.specs.Words.{word_bytes, word_of, filled, are_nuls, nuls_last, text_bytes}
use Rattle.tinystr_words.proofs.FlagLaws.{word_of_bytes}
use Rattle.tinystr_words.proofs.LengthLaws.{AreBytes}

abbrev pub NUL : ℕ
NUL = 0

-- ---- a front filled up
pub put_fills : (bs ys : List ℕ) → length bs ≤ 8 → ys ≡ take 0 (replicate 8 NUL) ++ (bs ++ drop (0 + length bs) (replicate 8 NUL)) → ys ≡ filled bs
unfolding filled
put_fills bs ys short e =
    let zero_more : 0 + length bs ≡ length bs = omega arith in
    e ∙ ap (λ l. bs ++ l) (ap (λ k. drop k (replicate 8 NUL)) zero_more ∙ drop-replicate (length bs) 8 NUL)

nuls_below : (m k i : ℕ) → 0 < m → get_or (replicate k NUL) i NUL < m
nuls_below m zero i some = some
nuls_below m (suc k) zero some = some
nuls_below m (suc k) (suc i) some = nuls_below m k i some

padded_below : (m k : ℕ) → 0 < m → (bs : List ℕ) → ((i : ℕ) → get_or bs i 0 < m) → (i : ℕ) → get_or (bs ++ replicate k NUL) i 0 < m
padded_below m k some [] small i = nuls_below m k i some
padded_below m k some (b ∷ bs) small zero = small 0
padded_below m k some (b ∷ bs) small (suc i) = padded_below m k some bs (λ j. small (suc j)) i

pub filled_below : (bs : List ℕ) → AreBytes bs → AreBytes (filled bs)
unfolding filled
filled_below bs small = padded_below 256 (8 - length bs) (omega arith) bs small

pub IsAscii-filled : (bs : List ℕ) → IsAscii bs → IsAscii (filled bs)
unfolding filled
IsAscii-filled bs s = padded_below 128 (8 - length bs) (omega arith) bs s

pub length-filled : (bs : List ℕ) → length bs ≤ 8 → length (filled bs) ≡ 8
unfolding filled
length-filled bs short = omega (arith, length-append bs (replicate (8 - length bs) NUL), length-replicate {A = ℕ})

-- ---- a test
pub all_nuls : (p : ℕ → Bool) → p 0 ≡ true → (k : ℕ) → list_all p (replicate k NUL) ≡ true
all_nuls p some zero = refl
all_nuls p some (suc k) = rw some (all_nuls p some k)

all_filled : (p : ℕ → Bool) → p 0 ≡ true → (bs : List ℕ) → list_all p (filled bs) ≡ list_all p bs
unfolding filled
all_filled p some bs =
    list_all-append p bs (replicate (8 - length bs) NUL)
    ∙ ap (λ t. list_all p bs && t) (all_nuls p some (8 - length bs))
    ∙ and-true (list_all p bs)

pub all_cut : (p : ℕ → Bool) → p 0 ≡ true → (all front rest : List ℕ) → all ≡ front ++ rest
    → list_all p all ≡ (list_all p (filled front) && list_all p rest)
all_cut p some all front rest e =
    ap (list_all p) e ∙ list_all-append p front rest ∙ ap (λ t. t && list_all p rest) (sym (all_filled p some front))

-- ---- a length
pub nuls_counted : (k : ℕ) → text_bytes (replicate k NUL) ≡ 0
nuls_counted zero = refl
nuls_counted (suc k) = nuls_counted k

text_bytes-append : (xs ys : List ℕ) → text_bytes (xs ++ ys) ≡ text_bytes xs + text_bytes ys
text_bytes-append [] ys = omega arith
text_bytes-append (zero ∷ xs) ys = text_bytes-append xs ys
text_bytes-append (suc x ∷ xs) ys = omega (arith, text_bytes-append xs ys)

pub text_bytes-filled : (bs : List ℕ) → text_bytes (filled bs) ≡ text_bytes bs
unfolding filled
text_bytes-filled bs = omega (arith, text_bytes-append bs (replicate (8 - length bs) NUL), nuls_counted (8 - length bs))

pub text_bytes_cut : (all front rest : List ℕ) → all ≡ front ++ rest → text_bytes all ≡ text_bytes (filled front) + text_bytes rest
text_bytes_cut all front rest e = omega (arith, ap text_bytes e, text_bytes-append front rest, text_bytes-filled front)

are_nuls_parts : (xs ys : List ℕ) → are_nuls (xs ++ ys) ≡ true → (are_nuls xs ≡ true) × (are_nuls ys ≡ true)
are_nuls_parts [] ys h = (refl, h)
are_nuls_parts (zero ∷ xs) ys h = are_nuls_parts xs ys h
are_nuls_parts (suc x ∷ xs) ys h = let e : false ≡ true = h in cc

nuls_are_last : (xs : List ℕ) → are_nuls xs ≡ true → nuls_last xs ≡ true
nuls_are_last [] h = refl
nuls_are_last (zero ∷ xs) h = h
nuls_are_last (suc x ∷ xs) h = let e : false ≡ true = h in cc

nuls_last_parts : (xs ys : List ℕ) → nuls_last (xs ++ ys) ≡ true → (nuls_last xs ≡ true) × (nuls_last ys ≡ true)
nuls_last_parts [] ys h = (refl, h)
nuls_last_parts (zero ∷ xs) ys h = let both = are_nuls_parts xs ys h in (both.0, nuls_are_last ys both.1)
nuls_last_parts (suc x ∷ xs) ys h = nuls_last_parts xs ys h

pub nuls_last_cut : (all front rest : List ℕ) → all ≡ front ++ rest → nuls_last all ≡ true → (nuls_last front ≡ true) × (nuls_last rest ≡ true)
nuls_last_cut all front rest e h = nuls_last_parts front rest (sym (ap nuls_last e) ∙ h)

are_nuls-more : (xs : List ℕ) (k : ℕ) → are_nuls xs ≡ true → are_nuls (xs ++ replicate k NUL) ≡ true
are_nuls-more [] zero h = refl
are_nuls-more [] (suc k) h = are_nuls-more [] k h
are_nuls-more (zero ∷ xs) k h = are_nuls-more xs k h
are_nuls-more (suc x ∷ xs) k h = h

nuls_last-more : (xs : List ℕ) (k : ℕ) → nuls_last xs ≡ true → nuls_last (xs ++ replicate k NUL) ≡ true
nuls_last-more [] k h = nuls_are_last (replicate k NUL) (are_nuls-more [] k refl)
nuls_last-more (zero ∷ xs) k h = are_nuls-more xs k h
nuls_last-more (suc x ∷ xs) k h = nuls_last-more xs k h

pub nuls_last-filled : (bs : List ℕ) → nuls_last bs ≡ true → nuls_last (filled bs) ≡ true
unfolding filled
nuls_last-filled bs h = nuls_last-more bs (8 - length bs) h

-- ---- two fronts compared
same_front : (xs ys more others : List ℕ) → length xs ≡ length ys → xs ++ more ≡ ys ++ others → xs ≡ ys
same_front xs ys more others long e =
    sym (take_at xs more (length xs) refl) ∙ (λ i. take (long i) (e i)) ∙ take_at ys others (length ys) refl

same_back : (xs ys more others : List ℕ) → length xs ≡ length ys → xs ++ more ≡ ys ++ others → more ≡ others
same_back xs ys more others long e =
    sym (drop_at xs more (length xs) refl) ∙ (λ i. drop (long i) (e i)) ∙ drop_at ys others (length ys) refl

filled_same : (xs ys : List ℕ) → length xs ≡ length ys → filled xs ≡ filled ys → xs ≡ ys
unfolding filled
filled_same xs ys long e = same_front xs ys (replicate (8 - length xs) NUL) (replicate (8 - length ys) NUL) long e

-- equal words are equal fronts, and unequal words unequal ones
pub words_same : (v w : ℕ) (xs ys : List ℕ) → length xs ≡ length ys → word_bytes v ≡ filled xs → word_bytes w ≡ filled ys → v ≡ w → xs ≡ ys
words_same v w xs ys long a b e = filled_same xs ys long (sym a ∙ ap word_bytes e ∙ b)

pub words_differ : (v w : ℕ) (xs ys : List ℕ) → v < 2 ^ 64 → w < 2 ^ 64 → word_bytes v ≡ filled xs → word_bytes w ≡ filled ys → xs ≡ ys → v ≡ w
words_differ v w xs ys one two a b e =
    sym (word_of_bytes v one) ∙ ap word_of (a ∙ ap filled e ∙ sym b) ∙ word_of_bytes w two

-- lists of one length that are cut at one place
pub same_cut : (left right front back other rest : List ℕ) → left ≡ front ++ back → right ≡ other ++ rest → length front ≡ length other
    → left ≡ right → (front ≡ other) × (back ≡ rest)
same_cut left right front back other rest a b long e =
    let joined : front ++ back ≡ other ++ rest = sym a ∙ e ∙ b in
    (same_front front other back rest long joined, same_back front other back rest long joined)

-- ---- a change in place
pub changed_front : (f : ℕ → ℕ) (bs ys : List ℕ) → ys ≡ map f (filled bs) → take (length bs) ys ≡ map f bs
unfolding filled
changed_front f bs ys e =
    let nuls = replicate (8 - length bs) NUL in
    ap (take (length bs)) (e ∙ map-append f bs nuls) ∙ take_at (map f bs) (map f nuls) (length bs) (length-map bs f)

-- ---- a step of a loop that asks
pub step_fails : (p : ℕ → Bool) → p 0 ≡ true → (whole rest front back : List ℕ) (r : Bool) → rest ≡ front ++ back → r ≡ list_all p (filled front)
    → list_all p rest ≡ list_all p whole → r ≡ false → false ≡ list_all p whole
step_fails p some whole rest front back r cut is same fails =
    ap (λ t. t && list_all p back) (sym fails ∙ is) ∙ sym (all_cut p some rest front back cut) ∙ same

pub step_goes_on : (p : ℕ → Bool) → p 0 ≡ true → (whole rest front back : List ℕ) (r : Bool) → rest ≡ front ++ back → r ≡ list_all p (filled front)
    → list_all p rest ≡ list_all p whole → r ≡ true → list_all p back ≡ list_all p whole
step_goes_on p some whole rest front back r cut is same goes =
    ap (λ t. t && list_all p back) (sym goes ∙ is) ∙ sym (all_cut p some rest front back cut) ∙ same

-- ---- a step of a loop that changes
pub length-part : (old : List ℕ) (from count : ℕ) → from + count ≤ length old → length (take count (drop from old)) ≡ count
length-part old from count within = omega (arith, length-take count (drop from old), length-drop from old)

pub change_writes : (f : ℕ → ℕ) (old eight new : List ℕ) (from count : ℕ) → from + count ≤ length old → eight ≡ map f (filled (take count (drop from old)))
    → new ≡ take from old ++ (take count eight ++ drop (from + length (take count eight)) old)
    → new ≡ take from old ++ (map f (take count (drop from old)) ++ drop (from + count) old)
change_writes f old eight new from count within changed e =
    let part = take count (drop from old) in
    let long : length part ≡ count = length-part old from count within in
    let text : take count eight ≡ map f part = ap (λ n. take n eight) (sym long) ∙ changed_front f part eight changed in
    let written : length (take count eight) ≡ count = ap length text ∙ length-map part f ∙ long in
    e ∙ (λ i. take from old ++ (text i ++ drop (from + written i) old))

pub change_goes_on : (f : ℕ → ℕ) (start now new : List ℕ) (from count : ℕ) → from + count ≤ length start → now ≡ map f (take from start) ++ drop from start
    → new ≡ take from now ++ (map f (take count (drop from now)) ++ drop (from + count) now)
    → new ≡ map f (take (from + count) start) ++ drop (from + count) start
change_goes_on f start now new from count within is e =
    let long : length (map f (take from start)) ≡ from = omega (arith, length-map (take from start) f, length-take from start) in
    let front : take from now ≡ map f (take from start) = ap (take from) is ∙ take_at (map f (take from start)) (drop from start) from long in
    let back : drop from now ≡ drop from start = ap (drop from) is ∙ drop_at (map f (take from start)) (drop from start) from long in
    let behind : drop (from + count) now ≡ drop (from + count) start =
    sym (drop-drop count from now) ∙ ap (drop count) back ∙ drop-drop count from start in
    e ∙ (λ i. front i ++ (map f (take count (back i)) ++ behind i))
    ∙ sym (append_assoc (map f (take from start)) (map f (take count (drop from start))) (drop (from + count) start))
    ∙ ap (λ l. l ++ drop (from + count) start) (sym (map-append f (take from start) (take count (drop from start))) ∙ ap (map f) (sym (take-add from count start)))
