-- The text of a number's digits: its groups, its fraction and its sign.
use Rattle.std.proofs.Common.{eqb, ◌≡◌, ℕ, Option, Some, ◌/◌, zero, suc, ◌+◌, ◌-◌, ◌*◌, ◌<◌, ◌≤◌, true, cond, List, [], ◌∷◌, ◌++◌, drop, length, length-drop, map, refl, replicate, slice_index, subst, sum, sym, take, ap, ◌∙◌, append_assoc, arith}
use Rattle.std.proofs.lemmas.Bool.{agree_below_at, eqb-true}
use Rattle.std.proofs.lemmas.List.{append-nil, drop-drop, drop-map, take-map, take_all}
use Rattle.std.proofs.lemmas.List.Folds.{sum_by-replicate}
use Rattle.std.proofs.lemmas.List.Sums.{sum_by-cons}
use Rattle.std.proofs.lemmas.Int.Digits.{all_below_base_from_digits}
use Rattle.std.proofs.lemmas.Str.{digit_value_digit}
use Rattle.std.proofs.lemmas.Str.Parse.{digit_from_value}
use Rattle.std.specs.Char.{digit_value}
use Rattle.std.specs.Option.{MatchOption, unwrap_or}
use Rattle.fixed_decimal.specs.Number.{Number, fraction_digits, whole_digits}
use Rattle.fixed_decimal.specs.NumberText.{AreDigits}
use Rattle.icu_decimal_grouping.specs.Grouper.{cut_sizes, group_sizes, middle_size}
use Rattle.icu_decimal_plain.specs.LaterGroups.{groups_ahead}
use Rattle.icu_decimal_plain.specs.PlainText.{Tables, chained, digit_text, fraction_text, unsigned_text, whole_text}
use Rattle.icu_decimal_plain.specs.Runs.{IsRun, byte_text, run_text}
use Rattle.icu_decimal_plain.proofs.PlainTextLemmas.{grouped_text}
use Rattle.icu_decimal_plain.proofs.RunLemmas.{run_digits, run_is}
use Rattle.icu_decimal_direct.specs.FewDigits.{AreFewDigits, plain_number}
use Rattle.icu_decimal_direct.specs.Direct.{AreHeld}
use Rattle.icu_decimal_direct.specs.declared.text_tables.Direct.{Direct}
use Rattle.icu_decimal_direct.proofs.LaneLemmas.{digits_take}
use Rattle.icu_decimal_direct.proofs.PuttingLemmas.{alone}
use Rattle.icu_decimal_direct.proofs.ShownLemmas.{digits_told, fraction_shown, whole_shown}

-- Digits by a table in which each is its own byte.

abbrev ascii : List ℕ
ascii = 48 ∷ 49 ∷ 50 ∷ 51 ∷ 52 ∷ 53 ∷ 54 ∷ 55 ∷ 56 ∷ 57 ∷ []

ascii_at : (d : ℕ) → d < 10 → slice_index ascii d ≡ 48 + d
ascii_at d below = eqb-true (slice_index ascii d) (48 + d) (agree_below_at (λ k. eqb (slice_index ascii k) (48 + k)) (λ _. true) 10 d refl below)

pub ascii_run : (table : List ℕ) → table ≡ ascii → IsRun 48 table
ascii_run table is = subst (IsRun 48) (sym is) (run_is 48 ascii (omega arith) ascii_at)

pub own_byte : (c : ℕ) → digit_value c < 10 → 48 + digit_value c ≡ c
own_byte c h = omega (arith, digit_value_digit c (digit_from_value c h))

pub bytes_are : (bytes : List ℕ) → AreDigits bytes → chained (map (run_text 48) (map digit_value bytes)) ≡ bytes
bytes_are [] h = refl
bytes_are (c ∷ cs) h = ap (λ rest. (48 + digit_value c) ∷ rest) (bytes_are cs h.1) ∙ ap (λ first. first ∷ cs) (own_byte c h.0)

-- digits, and groups of them
pub own_digits : (table bytes : List ℕ) → IsRun 48 table → AreDigits bytes → bytes ≡ chained (map (digit_text table) (map digit_value bytes))
own_digits table bytes run h =
    sym (bytes_are bytes h) ∙ run_digits 48 table (map digit_value bytes) run (all_below_base_from_digits 10 bytes h)

pub digits_drop : (n : ℕ) (bytes : List ℕ) → AreDigits bytes → AreDigits (drop n bytes)
digits_drop zero bytes h = h
digits_drop (suc n) [] h = tt
digits_drop (suc n) (c ∷ cs) h = digits_drop n cs h.1

-- the first digits of bytes
own_front : (n : ℕ) (table bytes : List ℕ) → IsRun 48 table → AreDigits bytes → take n bytes ≡ chained (map (digit_text table) (take n (map digit_value bytes)))
own_front n table bytes run h =
    own_digits table (take n bytes) run (digits_take n bytes h)
    ∙ ap (λ ds. chained (map (digit_text table) ds)) (sym (take-map digit_value n bytes))

own_ahead : (separator table ns bytes : List ℕ) → IsRun 48 table → AreDigits bytes
    → groups_ahead separator byte_text ns bytes ≡ groups_ahead separator (digit_text table) ns (map digit_value bytes)
own_ahead separator table [] bytes run h = refl
own_ahead separator table (n ∷ ns) bytes run h =
    ap (λ group. (separator ++ group) ++ groups_ahead separator byte_text ns (drop n bytes)) (alone (take n bytes) ∙ own_front n table bytes run h)
    ∙ ap (λ others. (separator ++ chained (map (digit_text table) (take n (map digit_value bytes)))) ++ others)
    (own_ahead separator table ns (drop n bytes) run (digits_drop n bytes h) ∙ ap (groups_ahead separator (digit_text table) ns) (sym (drop-map digit_value n bytes)))

-- the integer digits are those of a number without a fraction
pub whole_cut : (t : Tables) (size : ℕ) (sizes others integer separator : List ℕ) (first : Option ℕ) → IsRun 48 t.digits → AreDigits integer → 0 < length integer
    → sizes ≡ group_sizes t.strategy t.symbols.grouping_sizes (length integer) → MatchOption first ((sizes ≡ []) × (others ≡ [])) (λ n. sizes ≡ n ∷ others) → size ≡ unwrap_or first 0 → separator ≡ t.symbols.strings.grouping_separator
    → whole_text t (map digit_value integer) ≡ take size integer ++ groups_ahead separator byte_text others (drop size integer)
whole_cut t size sizes others integer separator first run h some cut next sized written =
    let v : Number = plain_number integer [] in
    let ds : List ℕ = map digit_value integer in
    let shown : whole_digits v ≡ ds = whole_shown integer [] h tt some (omega arith) in
    ap (whole_text t) (sym shown)
    ∙ grouped_text t v (length integer) size sizes others ds (drop size ds) separator first (omega (arith, some)) cut next sized (sym shown) refl written
    ∙ ap (λ group. group ++ groups_ahead separator (digit_text t.digits) others (drop size ds)) (sym (own_front size t.digits integer run h))
    ∙ ap (λ text. take size integer ++ text) (sym (own_ahead separator t.digits others (drop size integer) run (digits_drop size integer h)
    ∙ ap (groups_ahead separator (digit_text t.digits) others) (sym (drop-map digit_value size integer))))

-- Groups that are known beforehand.

one_more : (n k : ℕ) → replicate k n ++ n ∷ [] ≡ replicate (suc k) n
one_more n zero = refl
one_more n (suc k) = ap (λ sizes. n ∷ sizes) (one_more n k)

-- few digits are one group
pub whole_one : (t : Tables) (d : Direct) (integer : List ℕ) → AreHeld d t → AreDigits integer → 0 < length integer → length integer ≤ 32 → length integer < d.groups.least
    → whole_text t (map digit_value integer) ≡ integer
whole_one t d integer held h some few below =
    let n : ℕ = length integer in
    let cut : n ∷ [] ≡ group_sizes t.strategy t.symbols.grouping_sizes n
    = ap (λ b. cond b (cut_sizes t.symbols.grouping_sizes.primary (middle_size t.symbols.grouping_sizes) n) (n ∷ [])) (sym (held.groups.below n below few)) in
    whole_cut t n (n ∷ []) [] integer t.symbols.strings.grouping_separator (Some n) held.run h some cut refl refl refl
    ∙ append-nil (take n integer) ∙ take_all n integer (omega arith)

-- of more the sizes are those of the middle, and three at the end
sizes_known : (t : Tables) (d : Direct) (n m : ℕ) → AreHeld d t → n ≤ 32 → d.groups.least ≤ n → d.groups.middle ≡ m → group_sizes t.strategy t.symbols.grouping_sizes n ≡ cut_sizes 3 m n
sizes_known t d n m held few from is =
    let g = held.groups in
    let s = t.symbols.grouping_sizes in
    ap (λ b. cond b (cut_sizes s.primary (middle_size s) n) (n ∷ [])) (g.above n from few)
    ∙ ap (λ p. cut_sizes p (middle_size s) n) (g.primary (omega (arith, from, few)))
    ∙ ap (λ q. cut_sizes 3 q n) (g.middle (omega (arith, from, few)) ∙ is)

threes_are : (n groups first : ℕ) → 4 ≤ n → groups ≡ (n - 1) / 3 → first ≡ n - 3 * groups → first ∷ replicate groups 3 ≡ cut_sizes 3 3 n
threes_are n groups first from many left =
    let k : ℕ = (n - 3 - 1) / 3 in
    let more : groups ≡ suc k = omega (arith, many, from) in
    let front : first ≡ n - 3 - k * 3 = omega (arith, left, more) in
    ap (λ f. f ∷ replicate groups 3) front ∙ ap (λ m. (n - 3 - k * 3) ∷ replicate m 3) more ∙ ap (λ sizes. (n - 3 - k * 3) ∷ sizes) (sym (one_more 3 k))

pub whole_threes : (t : Tables) (d : Direct) (groups first : ℕ) (integer : List ℕ) → AreHeld d t → AreDigits integer → length integer ≤ 32 → d.groups.least ≤ length integer → d.groups.middle ≡ 3
    → groups ≡ (length integer - 1) / 3 → first ≡ length integer - 3 * groups
    → whole_text t (map digit_value integer) ≡ take first integer ++ groups_ahead d.group.now byte_text (replicate groups 3) (drop first integer)
whole_threes t d groups first integer held h few from is many left =
    let four = held.groups.some in
    whole_cut t first (first ∷ replicate groups 3) (replicate groups 3) integer d.group.now (Some first) held.run h (omega (arith, four, from))
    (threes_are (length integer) groups first (omega (arith, four, from)) many left ∙ sym (sizes_known t d (length integer) 3 held few from is)) refl refl held.group

-- groups before others
ahead_joined : (separator ns ms bytes : List ℕ) → groups_ahead separator byte_text (ns ++ ms) bytes ≡ groups_ahead separator byte_text ns bytes ++ groups_ahead separator byte_text ms (drop (sum ns) bytes)
ahead_joined separator [] ms bytes = refl
ahead_joined separator (n ∷ ns) ms bytes =
    let part : List ℕ = separator ++ chained (map byte_text (take n bytes)) in
    let past : drop (sum ns) (drop n bytes) ≡ drop (sum (n ∷ ns)) bytes = drop-drop (sum ns) n bytes ∙ ap (λ m. drop m bytes) (sym (sum_by-cons (λ x. x) n ns)) in
    ap (λ rest. part ++ rest) (ahead_joined separator ns ms (drop n bytes))
    ∙ sym (append_assoc part (groups_ahead separator byte_text ns (drop n bytes)) (groups_ahead separator byte_text ms (drop (sum ns) (drop n bytes))))
    ∙ ap (λ bs. (part ++ groups_ahead separator byte_text ns (drop n bytes)) ++ groups_ahead separator byte_text ms bs) past

pub whole_pairs : (t : Tables) (d : Direct) (pairs first last : ℕ) (integer : List ℕ) → AreHeld d t → AreDigits integer → length integer ≤ 32 → d.groups.least ≤ length integer → d.groups.middle ≡ 2
    → pairs ≡ (length integer - 4) / 2 → first ≡ length integer - 3 - 2 * pairs → last ≡ length integer - 3
    → whole_text t (map digit_value integer)
    ≡ take first integer ++ (groups_ahead d.group.now byte_text (replicate pairs 2) (drop first integer) ++ groups_ahead d.group.now byte_text (replicate 1 3) (drop last integer))
whole_pairs t d pairs first last integer held h few from is many left end =
    let four = held.groups.some in
    let n : ℕ = length integer in
    let half : pairs ≡ (n - 3 - 1) / 2 = omega (arith, many, four, from) in
    let front : first ≡ n - 3 - pairs * 2 = omega (arith, left) in
    let sizes : first ∷ (replicate pairs 2 ++ 3 ∷ []) ≡ cut_sizes 3 2 n
    = ap (λ f. f ∷ (replicate pairs 2 ++ 3 ∷ [])) front ∙ ap (λ k. (n - 3 - k * 2) ∷ (replicate k 2 ++ 3 ∷ [])) half in
    let all : sum (replicate pairs 2) ≡ pairs * 2 = sum_by-replicate (λ x. x) pairs 2 in
    let past : drop (sum (replicate pairs 2)) (drop first integer) ≡ drop last integer
    = drop-drop (sum (replicate pairs 2)) first integer ∙ ap (λ m. drop m integer) (omega (arith, all, left, end, many, four, from)) in
    whole_cut t first (first ∷ (replicate pairs 2 ++ 3 ∷ [])) (replicate pairs 2 ++ 3 ∷ []) integer d.group.now (Some first) held.run h (omega (arith, four, from))
    (sizes ∙ sym (sizes_known t d n 2 held few from is)) refl refl held.group
    ∙ ap (λ text. take first integer ++ text) (ahead_joined d.group.now (replicate pairs 2) (3 ∷ []) (drop first integer))
    ∙ ap (λ bs. take first integer ++ (groups_ahead d.group.now byte_text (replicate pairs 2) (drop first integer) ++ groups_ahead d.group.now byte_text (replicate 1 3) bs)) past

-- The digits before the point, put.

pub rest_of : (n : ℕ) (xs : List ℕ) → take (length xs - n) (drop n xs) ≡ drop n xs
rest_of n xs = take_all (length xs - n) (drop n xs) (omega (arith, length-drop n xs))

pub one_put : (t : Tables) (d : Direct) (integer before after : List ℕ) → AreHeld d t → AreDigits integer → 0 < length integer → length integer ≤ 32 → length integer < d.groups.least
    → after ≡ before ++ integer → after ≡ before ++ whole_text t (map digit_value integer)
one_put t d integer before after held h some few below put = put ∙ ap (λ text. before ++ text) (sym (whole_one t d integer held h some few below))

pub threes_put : (t : Tables) (d : Direct) (integer separator before begun after : List ℕ) (groups first : ℕ) → separator ≡ d.group.now → AreHeld d t → AreDigits integer → length integer ≤ 32 → d.groups.least ≤ length integer → ¬ (d.groups.middle ≡ 2)
    → groups ≡ (length integer - 1) / 3 → first ≡ length integer - 3 * groups
    → begun ≡ before ++ take first integer → after ≡ begun ++ groups_ahead separator byte_text (replicate groups 3) (take (length integer - first) (drop first integer))
    → after ≡ before ++ whole_text t (map digit_value integer)
threes_put t d integer separator before begun after groups first same held h few from other many left begin put =
    let low = held.groups.two in
    let high = held.groups.three in
    let three : d.groups.middle ≡ 3 = omega (arith, low, high, other) in
    put
    ∙ ap (λ s. begun ++ groups_ahead s byte_text (replicate groups 3) (take (length integer - first) (drop first integer))) same
    ∙ ap (λ list. list ++ groups_ahead d.group.now byte_text (replicate groups 3) (take (length integer - first) (drop first integer))) begin
    ∙ append_assoc before (take first integer) (groups_ahead d.group.now byte_text (replicate groups 3) (take (length integer - first) (drop first integer)))
    ∙ ap (λ bs. before ++ (take first integer ++ groups_ahead d.group.now byte_text (replicate groups 3) bs)) (rest_of first integer)
    ∙ ap (λ text. before ++ text) (sym (whole_threes t d groups first integer held h few from three many left))

pub pairs_put : (t : Tables) (d : Direct) (integer separator before begun paired after : List ℕ) (pairs first last : ℕ) → separator ≡ d.group.now → AreHeld d t → AreDigits integer → length integer ≤ 32 → d.groups.least ≤ length integer → d.groups.middle ≡ 2
    → pairs ≡ (length integer - 4) / 2 → first ≡ length integer - 3 - 2 * pairs → last ≡ length integer - 3
    → begun ≡ before ++ take first integer → paired ≡ begun ++ groups_ahead separator byte_text (replicate pairs 2) (take (length integer - first) (drop first integer))
    → after ≡ paired ++ groups_ahead separator byte_text (replicate 1 3) (take (length integer - last) (drop last integer))
    → after ≡ before ++ whole_text t (map digit_value integer)
pairs_put t d integer separator before begun paired after pairs first last same held h few from two many left end begin pair put =
    let twos : List ℕ → List ℕ = groups_ahead d.group.now byte_text (replicate pairs 2) in
    let three : List ℕ → List ℕ = groups_ahead d.group.now byte_text (replicate 1 3) in
    put
    ∙ ap (λ s. paired ++ groups_ahead s byte_text (replicate 1 3) (take (length integer - last) (drop last integer))) same
    ∙ ap (λ bs. paired ++ three bs) (rest_of last integer)
    ∙ ap (λ list. list ++ three (drop last integer)) (pair ∙ ap (λ s. begun ++ groups_ahead s byte_text (replicate pairs 2) (take (length integer - first) (drop first integer))) same ∙ ap (λ bs. begun ++ twos bs) (rest_of first integer) ∙ ap (λ list. list ++ twos (drop first integer)) begin)
    ∙ append_assoc (before ++ take first integer) (twos (drop first integer)) (three (drop last integer))
    ∙ append_assoc before (take first integer) (twos (drop first integer) ++ three (drop last integer))
    ∙ ap (λ text. before ++ text) (sym (whole_pairs t d pairs first last integer held h few from two many left end))

-- The fraction and the sign.

-- the fraction
fraction_by : (t : Tables) (fraction : List ℕ) → 0 < length fraction
    → fraction_text t (map digit_value fraction) ≡ t.symbols.strings.decimal_separator ++ chained (map (digit_text t.digits) (map digit_value fraction))
fraction_by t [] some = absurd (omega (arith, some))
fraction_by t (c ∷ cs) some = refl

-- the text of the digits before a point and of those after it
pub unsigned_is : (t : Tables) (integer fraction : List ℕ) → AreFewDigits integer fraction
    → unsigned_text t (plain_number integer fraction) ≡ whole_text t (map digit_value integer) ++ fraction_text t (map digit_value fraction)
unsigned_is t integer fraction h =
    let few = h.few_below in
    ap (λ ds. whole_text t ds ++ fraction_text t (fraction_digits (plain_number integer fraction))) (whole_shown integer fraction (digits_told integer h.whole) (digits_told fraction h.part) h.some (omega (arith, few)))
    ∙ ap (λ ds. whole_text t (map digit_value integer) ++ fraction_text t ds) (fraction_shown integer fraction (digits_told integer h.whole) (digits_told fraction h.part) h.some (omega (arith, few)))

-- put, without a fraction
pub put_whole : (t : Tables) (integer fraction before after : List ℕ) → AreFewDigits integer fraction → length fraction ≡ 0 → after ≡ before ++ whole_text t (map digit_value integer) → after ≡ before ++ unsigned_text t (plain_number integer fraction)
put_whole t integer [] before after h none put = put ∙ ap (λ text. before ++ text) (sym (unsigned_is t integer [] h ∙ append-nil (whole_text t (map digit_value integer))))
put_whole t integer (c ∷ cs) before after h none put = absurd (omega (arith, none))

-- and with one
pub put_both : (t : Tables) (d : Direct) (integer fraction before whole pointed after : List ℕ) → AreHeld d t → AreFewDigits integer fraction → 0 < length fraction
    → whole ≡ before ++ whole_text t (map digit_value integer) → pointed ≡ whole ++ d.decimal.now → after ≡ pointed ++ fraction → after ≡ before ++ unsigned_text t (plain_number integer fraction)
put_both t d integer fraction before whole pointed after held h some is point put =
    put
    ∙ ap (λ list. list ++ fraction) (point ∙ ap (λ list. list ++ d.decimal.now) is)
    ∙ append_assoc (before ++ whole_text t (map digit_value integer)) d.decimal.now fraction
    ∙ append_assoc before (whole_text t (map digit_value integer)) (d.decimal.now ++ fraction)
    ∙ ap (λ text. before ++ (whole_text t (map digit_value integer) ++ text))
    (ap (λ s. s ++ fraction) held.decimal ∙ ap (λ digits. t.symbols.strings.decimal_separator ++ digits) (own_digits t.digits fraction held.run (digits_told fraction h.part)) ∙ sym (fraction_by t fraction some))
    ∙ ap (λ text. before ++ text) (sym (unsigned_is t integer fraction h))
