-- Pieces put one after the other, and digits written by chunks.
use Rattle.std.proofs.Common.{◌≡◌, ℕ, zero, suc, ◌+◌, ◌<◌, ◌≤◌, List, [], ◌∷◌, ◌++◌, IsAscii, IsUtf8, drop, get_or, length, map, refl, set, encode_utf8, slice_index, slice_index_or, ◌⊎◌, inl, inr, sym, take, ap, ◌∙◌, subst, sum, append_assoc, arith}
use Rattle.std.proofs.lemmas.List.{drop_all, drop_more, get_or-set_other, get_or-set_same, drop-drop, drop-take, length-take-le, map-append, take-append-le, take-take}
use Rattle.std.proofs.lemmas.List.Sums.{sum_by-append, sum_by-cons}
use Rattle.std.proofs.lemmas.List.Concat.{flat_map-append}
use Rattle.std.proofs.lemmas.List.Edits.{sets, sets-eq}
use Rattle.std.proofs.Math.Seq.{take-add, take-append-add}
use Rattle.writeable.specs.AnnotatedText.{bytes}
use Rattle.writeable.proofs.AnnotatedTextLemmas.{bytes_joined, no_bytes}
use Rattle.std.proofs.lemmas.Str.{IsUtf8-append, IsUtf8-from_ascii, IsUtf8-nil, encode_ascii}
use Rattle.std.specs.Int.Digits.{AllBelowBase}
use Rattle.std.proofs.Math.Nat.{eq-or-lt_of_le}
use Rattle.fixed_decimal.proofs.DigitsLemmas.{below_drop, below_take}
use Rattle.icu_decimal_plain.specs.declared.text_pieces.Piece.{Piece}
use Rattle.icu_decimal_plain.specs.Pieces.{Holds}
use Rattle.icu_decimal_plain.specs.LaterGroups.{groups_ahead}
use Rattle.icu_decimal_plain.specs.PlainText.{chained, digit_text}

-- elements set one after the other, and so many of them taken
sets_taken : (xs vs : List ℕ) (i n : ℕ) → i + length vs ≤ length xs → n ≤ length vs → take (i + n) (sets xs i vs) ≡ take i xs ++ take n vs
sets_taken xs vs i n within few =
    let size : length (take i xs) ≡ i = length-take-le i xs (omega (arith, within)) in
    ap (take (i + n)) (sets-eq vs xs i within ∙ append_assoc (take i xs) vs (drop (i + length vs) xs))
    ∙ ap (λ k. take (k + n) (take i xs ++ (vs ++ drop (i + length vs) xs))) (sym size)
    ∙ take-append-add (take i xs) (vs ++ drop (i + length vs) xs) n
    ∙ ap (λ list. take i xs ++ list) (take-append-le n vs (drop (i + length vs) xs) few)

pub four_set : (xs : List ℕ) (i n a b c d : ℕ) → i + 4 ≤ length xs → n ≤ 4
    → take (i + n) (set (set (set (set xs i a) (i + 1) b) (i + 2) c) (i + 3) d) ≡ take i xs ++ take n (a ∷ b ∷ c ∷ d ∷ [])
four_set xs i n a b c d within few =
    let second : i + 1 ≡ suc i = omega arith in
    let third : i + 2 ≡ suc (suc i) = omega arith in
    let fourth : i + 3 ≡ suc (suc (suc i)) = omega arith in
    ap (λ j. take (i + n) (set (set (set (set xs i a) j b) (i + 2) c) (i + 3) d)) second
    ∙ ap (λ j. take (i + n) (set (set (set (set xs i a) (suc i) b) j c) (i + 3) d)) third
    ∙ ap (λ j. take (i + n) (set (set (set (set xs i a) (suc i) b) (suc (suc i)) c) j d)) fourth
    ∙ sets_taken xs (a ∷ b ∷ c ∷ d ∷ []) i n within few

-- the elements of a list of four
four_read : (xs : List ℕ) → length xs ≡ 4 → get_or xs 0 0 ∷ get_or xs 1 0 ∷ get_or xs 2 0 ∷ get_or xs 3 0 ∷ [] ≡ xs
four_read [] is = absurd (omega (arith, is))
four_read (a ∷ []) is = absurd (omega (arith, is))
four_read (a ∷ b ∷ []) is = absurd (omega (arith, is))
four_read (a ∷ b ∷ c ∷ []) is = absurd (omega (arith, is))
four_read (a ∷ b ∷ c ∷ d ∷ []) is = refl
four_read (a ∷ b ∷ c ∷ d ∷ e ∷ rest) is = absurd (omega (arith, is))

-- a piece after so many elements
pub piece_set : (xs bytes : List ℕ) (i n : ℕ) → i + 4 ≤ length xs → length bytes ≡ 4 → n ≤ 4
    → take (i + n) (set (set (set (set xs i (get_or bytes 0 0)) (i + 1) (get_or bytes 1 0)) (i + 2) (get_or bytes 2 0)) (i + 3) (get_or bytes 3 0)) ≡ take i xs ++ take n bytes
piece_set xs bytes i n within long few =
    four_set xs i n (get_or bytes 0 0) (get_or bytes 1 0) (get_or bytes 2 0) (get_or bytes 3 0) within few
    ∙ ap (λ four. take i xs ++ take n four) (four_read bytes long)

pub ten_at : (ds : List ℕ) (i : ℕ) → i < length ds → AllBelowBase 10 ds → slice_index ds i < 10
ten_at [] i within tens = absurd (omega (arith, within))
ten_at (d ∷ ds) zero within tens = tens.0
ten_at (d ∷ ds) (suc i) within tens = ten_at ds i (omega (arith, within)) tens.1

-- a piece that holds a text holds the bytes that it has
pub held_itself : (p : Piece) (text : List ℕ) → Holds p text → Holds p (take p.len p.bytes)
held_itself p text held = record { long = held.long; short = held.short; is = refl; utf8 = subst (λ t. ∥ IsUtf8 t ∥₁) (sym held.is) held.utf8 }

-- an ASCII character is its own byte
pub one_ascii : (c : ℕ) → c < 128 → IsAscii (c ∷ [])
one_ascii c ascii zero = ascii
one_ascii c ascii (suc i) = omega arith

pub ascii_held : (c : ℕ) → c < 128 → Holds (record { bytes = c ∷ 0 ∷ 0 ∷ 0 ∷ []; len = 1 }) (encode_utf8 c)
ascii_held c ascii =
    let one : encode_utf8 c ≡ c ∷ [] = encode_ascii c ascii in
    record { long = refl; short = omega arith; is = sym one; utf8 = ∣ subst IsUtf8 (sym one) (IsUtf8-from_ascii (c ∷ []) (one_ascii c ascii)) ∣₁ }

-- a place before the end, and the end itself
pub at_or_before : {P : Type 0} (d last : ℕ) → d < last + 1 → (d < last → P) → (d ≡ last → P) → P
at_or_before {P} d last within before at =
    let by : (d ≡ last) ⊎ (d < last) → P = elim [ inl is ↦ at is | inr below ↦ before below ] in
    by (eq-or-lt_of_le (omega (arith, within)))

-- a piece set at a place is read there, and the others are as they were
pub table_next : (pieces : List Piece) (table : List ℕ) (last : ℕ) (piece : Piece) → last < length pieces
    → ((d : ℕ) → d < last → Holds (slice_index_or pieces d (record { bytes = []; len = 0 })) (digit_text table d))
    → Holds piece (digit_text table last)
    → (d : ℕ) → d < last + 1 → Holds (slice_index_or (set pieces last piece) d (record { bytes = []; len = 0 })) (digit_text table d)
table_next pieces table last piece within held next d below =
    let nothing : Piece = record { bytes = []; len = 0 } in
    at_or_before d last below
    (λ before. subst (λ (p : Piece). Holds p (digit_text table d)) (sym (get_or-set_other pieces last d piece nothing (λ is. omega (arith, before, is)))) (held d before))
    (λ is. subst (λ (n : ℕ). Holds (slice_index_or (set pieces last piece) n nothing) (digit_text table n)) (sym is)
    (subst (λ (p : Piece). Holds p (digit_text table last)) (sym (get_or-set_same pieces last piece nothing within)) next))

-- the text of digits, one more and those after it
pub text_next : (table ds : List ℕ) (i : ℕ) → i < length ds
    → chained (map (digit_text table) (drop i ds)) ≡ digit_text table (slice_index ds i) ++ chained (map (digit_text table) (drop (i + 1) ds))
text_next table ds i within = ap (λ list. chained (map (digit_text table) list)) (drop_more ds i 0 within)

pub text_past : (table ds : List ℕ) (i : ℕ) → length ds ≤ i → chained (map (digit_text table) (drop i ds)) ≡ []
text_past table ds i past = ap (λ list. chained (map (digit_text table) list)) (drop_all i ds past)

-- Chunks.

-- groups before others
pub ahead_parts : (separator table ns ms ds : List ℕ)
    → groups_ahead separator (digit_text table) (ns ++ ms) ds ≡ groups_ahead separator (digit_text table) ns (take (sum ns) ds) ++ groups_ahead separator (digit_text table) ms (drop (sum ns) ds)
ahead_parts separator table [] ms ds = refl
ahead_parts separator table (n ∷ ns) ms ds =
    let ahead : List ℕ → List ℕ → List ℕ = groups_ahead separator (digit_text table) in
    let whole : n + sum ns ≡ sum (n ∷ ns) = sym (sum_by-cons (λ x. x) n ns) in
    let part : List ℕ → List ℕ = λ digits. separator ++ chained (map (digit_text table) digits) in
    let front : take n (take (sum (n ∷ ns)) ds) ≡ take n ds = take-take n (sum (n ∷ ns)) ds (omega (arith, whole)) in
    let behind : drop n (take (sum (n ∷ ns)) ds) ≡ take (sum ns) (drop n ds) = ap (λ m. drop n (take m ds)) (sym whole) ∙ drop-take n (sum ns) ds in
    let past : drop (sum ns) (drop n ds) ≡ drop (sum (n ∷ ns)) ds = drop-drop (sum ns) n ds ∙ ap (λ m. drop m ds) whole in
    ap (λ text. part (take n ds) ++ text) (ahead_parts separator table ns ms (drop n ds))
    ∙ sym (append_assoc (part (take n ds)) (ahead ns (take (sum ns) (drop n ds))) (ahead ms (drop (sum ns) (drop n ds))))
    ∙ ap (λ digits. (part digits ++ ahead ns (take (sum ns) (drop n ds))) ++ ahead ms (drop (sum ns) (drop n ds))) (sym front)
    ∙ ap (λ digits. (part (take n (take (sum (n ∷ ns)) ds)) ++ ahead ns digits) ++ ahead ms (drop (sum ns) (drop n ds))) (sym behind)
    ∙ ap (λ digits. (part (take n (take (sum (n ∷ ns)) ds)) ++ ahead ns (drop n (take (sum (n ∷ ns)) ds))) ++ ahead ms digits) past

-- Texts that are UTF-8.

pub utf8_digits : (table ds : List ℕ) → ((d : ℕ) → d < 10 → IsUtf8 (digit_text table d)) → AllBelowBase 10 ds → IsUtf8 (chained (map (digit_text table) ds))
utf8_digits table [] each tens = IsUtf8-nil
utf8_digits table (d ∷ ds) each tens =
    IsUtf8-append (digit_text table d) (chained (map (digit_text table) ds)) (each d tens.0) (utf8_digits table ds each tens.1)

pub utf8_groups : (separator table ns ds : List ℕ) → IsUtf8 separator → ((d : ℕ) → d < 10 → IsUtf8 (digit_text table d)) → AllBelowBase 10 ds
    → IsUtf8 (groups_ahead separator (digit_text table) ns ds)
utf8_groups separator table [] ds fine each tens = IsUtf8-nil
utf8_groups separator table (n ∷ ns) ds fine each tens =
    IsUtf8-append (separator ++ chained (map (digit_text table) (take n ds))) (groups_ahead separator (digit_text table) ns (drop n ds))
    (IsUtf8-append separator (chained (map (digit_text table) (take n ds))) fine (utf8_digits table (take n ds) each (below_take n ds tens)))
    (utf8_groups separator table ns (drop n ds) fine each (below_drop n ds tens))

-- Bytes that are written.

-- a group that is written, and those after it
pub next_bytes : (separator table ns others ds after : List ℕ) (n : ℕ) → ns ≡ n ∷ others → after ≡ drop n ds
    → bytes (groups_ahead separator (digit_text table) ns ds) ≡ (bytes separator ++ bytes (chained (map (digit_text table) (take n ds)))) ++ bytes (groups_ahead separator (digit_text table) others after)
next_bytes separator table ns others ds after n next is =
    let group : List ℕ = chained (map (digit_text table) (take n ds)) in
    ap (λ sizes. bytes (groups_ahead separator (digit_text table) sizes ds)) next
    ∙ bytes_joined (separator ++ group) (groups_ahead separator (digit_text table) others (drop n ds))
    ∙ ap (λ es. es ++ bytes (groups_ahead separator (digit_text table) others (drop n ds))) (bytes_joined separator group)
    ∙ ap (λ digits. (bytes separator ++ bytes group) ++ bytes (groups_ahead separator (digit_text table) others digits)) (sym is)

pub next_past : (ns others ds after : List ℕ) (n : ℕ) → ns ≡ n ∷ others → after ≡ drop n ds → drop (sum others) after ≡ drop (sum ns) ds
next_past ns others ds after n next is =
    let size = sum_by-cons (λ x. x) n others in
    ap (drop (sum others)) is ∙ drop-drop (sum others) n ds ∙ ap (λ m. drop m ds) (sym size) ∙ ap (λ sizes. drop (sum sizes) ds) (sym next)

pub no_bytes_ahead : (separator table ns ds : List ℕ) → ns ≡ [] → bytes (groups_ahead separator (digit_text table) ns ds) ≡ []
no_bytes_ahead separator table ns ds none = ap (λ sizes. bytes (groups_ahead separator (digit_text table) sizes ds)) none ∙ no_bytes

-- a chunk that is written, and what is after it
pub chunk_bytes : (separator table ns taken others ds after chunk text : List ℕ) → ns ≡ taken ++ others → sum taken ≡ 48
    → chunk ≡ take 48 ds → after ≡ drop 48 ds → text ≡ groups_ahead separator (digit_text table) taken chunk
    → bytes (groups_ahead separator (digit_text table) ns ds) ≡ bytes text ++ bytes (groups_ahead separator (digit_text table) others after)
chunk_bytes separator table ns taken others ds after chunk text cut whole is rest put =
    ap (λ sizes. bytes (groups_ahead separator (digit_text table) sizes ds)) cut
    ∙ ap bytes (ahead_parts separator table taken others ds)
    ∙ ap (λ n. bytes (groups_ahead separator (digit_text table) taken (take n ds) ++ groups_ahead separator (digit_text table) others (drop n ds))) whole
    ∙ bytes_joined (groups_ahead separator (digit_text table) taken (take 48 ds)) (groups_ahead separator (digit_text table) others (drop 48 ds))
    ∙ ap (λ digits. bytes (groups_ahead separator (digit_text table) taken digits) ++ bytes (groups_ahead separator (digit_text table) others (drop 48 ds))) (sym is)
    ∙ ap (λ front. bytes front ++ bytes (groups_ahead separator (digit_text table) others (drop 48 ds))) (sym put)
    ∙ ap (λ digits. bytes text ++ bytes (groups_ahead separator (digit_text table) others digits)) (sym rest)

pub chunk_past : (ns taken others ds after : List ℕ) → ns ≡ taken ++ others → sum taken ≡ 48 → after ≡ drop 48 ds
    → drop (sum others) after ≡ drop (sum ns) ds
chunk_past ns taken others ds after cut whole rest =
    let count = sum_by-append (λ x. x) taken others in
    let both : 48 + sum others ≡ sum (taken ++ others) = omega (arith, whole, count) in
    ap (drop (sum others)) rest ∙ drop-drop (sum others) 48 ds ∙ ap (λ m. drop m ds) both ∙ ap (λ sizes. drop (sum sizes) ds) (sym cut)

-- digits one list after the other
digits_joined : (table front back : List ℕ) → chained (map (digit_text table) (front ++ back)) ≡ chained (map (digit_text table) front) ++ chained (map (digit_text table) back)
digits_joined table front back =
    ap chained (map-append (digit_text table) front back) ∙ flat_map-append (λ list. list) (map (digit_text table) front) (map (digit_text table) back)

-- groups of any sizes, with nothing between
run_ahead : (table ns ds : List ℕ) → groups_ahead [] (digit_text table) ns ds ≡ chained (map (digit_text table) (take (sum ns) ds))
run_ahead table [] ds = refl
run_ahead table (n ∷ ns) ds =
    let whole : n + sum ns ≡ sum (n ∷ ns) = sym (sum_by-cons (λ x. x) n ns) in
    ap (λ text. chained (map (digit_text table) (take n ds)) ++ text) (run_ahead table ns (drop n ds))
    ∙ sym (digits_joined table (take n ds) (take (sum ns) (drop n ds)))
    ∙ ap (λ digits. chained (map (digit_text table) digits)) (sym (take-add n (sum ns) ds))
    ∙ ap (λ m. chained (map (digit_text table) (take m ds))) whole

pub run_bytes : (table ns ds : List ℕ) (count : ℕ) → sum ns ≡ count
    → bytes (groups_ahead [] (digit_text table) ns ds) ≡ bytes (chained (map (digit_text table) (take count ds)))
run_bytes table ns ds count whole =
    ap bytes (run_ahead table ns ds) ∙ ap (λ m. bytes (chained (map (digit_text table) (take m ds)))) whole
