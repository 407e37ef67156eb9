-- The text of a number: its digits in groups, and the digits written in pieces.
use Rattle.std.proofs.Common.{◌≡◌, ℕ, zero, suc, ◌+◌, ◌-◌, ◌/◌, ◌%◌, ◌^◌, ◌<◌, ◌≤◌, List, [], ◌∷◌, ◌++◌, length, map, take, drop, slice_index, Option, None, Some, refl, sym, ap, subst, ◌∙◌, append_assoc, arith}
use Rattle.std.proofs.lemmas.List.{drop-drop, drop-map, map-append, take-map}
use Rattle.std.proofs.lemmas.List.Concat.{flat_map-append}
use Rattle.std.proofs.lemmas.Nat.{mod_below}
use Rattle.std.proofs.Math.Seq.{take-nil}
use Rattle.std.specs.Char.{encode_utf8}
use Rattle.std.specs.Int.Digits.{AllBelowBase}
use Rattle.std.specs.List.{flat_map}
use Rattle.std.specs.Option.{MatchOption, unwrap_or}
use Rattle.std.specs.Prelude.{codes}
use Rattle.writeable.specs.AnnotatedText.{Event, bytes, opening, closing}
use Rattle.writeable.proofs.AnnotatedTextLemmas.{bytes_joined, no_bytes}
use Rattle.fixed_decimal.specs.Number.{Number, digits_down, fraction_digits, whole_digits}
use Rattle.icu_decimal_plain.specs.Affixes.{as_part, decimal_part}
use Rattle.icu_decimal_grouping.specs.Grouper.{cut_by, group_sizes, joined}
use Rattle.icu_decimal_plain.specs.LaterGroups.{groups_ahead, later_events}
use Rattle.icu_decimal_plain.specs.PlainText.{Tables, chained, digit_events, digit_text, fraction_events, fraction_text, grouped, unsigned_text, whole_events, whole_text}

-- so many digits give so many
length_digits : {A : Type 0} (f : ℕ → A) (count base k : ℕ) → length (map f (digits_down count base k)) ≡ k
length_digits f count base zero = refl
length_digits f count base (suc k) = ap suc (length_digits f count base k)

-- The integer digits.

-- the separator as a part
abbrev pub group_part : Tables → List Event
group_part t = as_part (decimal_part (codes "group")) t.symbols.strings.grouping_separator

module _ {A : Type 0} (separator : List A) (digit : ℕ → List A) where
  -- the groups after the first, each with the separator before it
  groups_after : (ns ds : List ℕ) → chained (flat_map (λ group. (separator ∷ []) ++ group) (cut_by ns (map digit ds))) ≡ groups_ahead separator digit ns ds
  groups_after [] ds = refl
  groups_after (n ∷ ns) ds =
      let behind : List (List A) → List (List A) = λ digits. flat_map (λ group. (separator ∷ []) ++ group) (cut_by ns digits) in
      ap (λ all. separator ++ all) (flat_map-append (λ list. list) (take n (map digit ds)) (behind (drop n (map digit ds))))
      ∙ ap (λ group. separator ++ (chained group ++ chained (behind (drop n (map digit ds))))) (take-map digit n ds)
      ∙ ap (λ digits. separator ++ (chained (map digit (take n ds)) ++ chained (behind digits))) (drop-map digit n ds)
      ∙ ap (λ all. separator ++ (chained (map digit (take n ds)) ++ all)) (groups_after ns (drop n ds))
      ∙ sym (append_assoc separator (chained (map digit (take n ds))) (groups_ahead separator digit ns (drop n ds)))

  -- groups of these sizes
  groups_cut : List ℕ → List ℕ → List A
  groups_cut ns ds = chained (joined (separator ∷ []) (cut_by ns (map digit ds)))

  first_group : (n : ℕ) (ns ds : List ℕ) → groups_cut (n ∷ ns) ds ≡ chained (map digit (take n ds)) ++ groups_ahead separator digit ns (drop n ds)
  unfolding groups_cut
  first_group n ns ds =
      let behind : List (List A) → List (List A) = λ digits. flat_map (λ group. (separator ∷ []) ++ group) (cut_by ns digits) in
      flat_map-append (λ list. list) (take n (map digit ds)) (behind (drop n (map digit ds)))
      ∙ ap (λ group. chained group ++ chained (behind (drop n (map digit ds)))) (take-map digit n ds)
      ∙ ap (λ digits. chained (map digit (take n ds)) ++ chained (behind digits)) (drop-map digit n ds)
      ∙ ap (λ all. chained (map digit (take n ds)) ++ all) (groups_after ns (drop n ds))

  first_by : (sizes ds : List ℕ) (first : Option ℕ) (others : List ℕ) → MatchOption first ((sizes ≡ []) × (others ≡ [])) (λ n. sizes ≡ n ∷ others) → groups_cut sizes ds ≡ chained (map digit (take (unwrap_or first 0) ds)) ++ groups_ahead separator digit others (drop (unwrap_or first 0) ds)
  unfolding groups_cut
  first_by sizes ds None others none =
      ap (λ ns. groups_cut ns ds) none.0 ∙ ap (λ ns. groups_ahead separator digit ns ds) (sym none.1)
  first_by sizes ds (Some n) others next = ap (λ ns. groups_cut ns ds) next ∙ first_group n others ds

  -- the integer digits are the first group and those after it, as the writer has them
  pub grouped_digits : (t : Tables) (v : Number) (digits size : ℕ) (sizes others ds after : List ℕ) (first : Option ℕ) → v.high - 32767 ≡ digits → sizes ≡ group_sizes t.strategy t.symbols.grouping_sizes digits → MatchOption first ((sizes ≡ []) × (others ≡ [])) (λ n. sizes ≡ n ∷ others) → size ≡ unwrap_or first 0 → ds ≡ whole_digits v → after ≡ drop size ds → grouped t separator (map digit (whole_digits v)) ≡ chained (map digit (take size ds)) ++ groups_ahead separator digit others after
  unfolding groups_cut
  grouped_digits t v digits size sizes others ds after first same cut next sized shown left =
      let count : length (map digit (whole_digits v)) ≡ digits = length_digits digit v.count 32768 (v.high - 32767) ∙ same in
      ap (λ n. groups_cut (group_sizes t.strategy t.symbols.grouping_sizes n) (whole_digits v)) count
      ∙ ap (λ ns. groups_cut ns (whole_digits v)) (sym cut)
      ∙ ap (groups_cut sizes) (sym shown)
      ∙ first_by sizes ds first others next
      ∙ ap (λ n. chained (map digit (take n ds)) ++ groups_ahead separator digit others (drop n ds)) (sym sized)
      ∙ ap (λ rest. chained (map digit (take size ds)) ++ groups_ahead separator digit others rest) (sym left)

-- with parts, of the separator that was written
pub whole_groups : (t : Tables) (v : Number) (digits size : ℕ) (sizes others ds after separator : List ℕ) (first : Option ℕ) → v.high - 32767 ≡ digits → sizes ≡ group_sizes t.strategy t.symbols.grouping_sizes digits → MatchOption first ((sizes ≡ []) × (others ≡ [])) (λ n. sizes ≡ n ∷ others) → size ≡ unwrap_or first 0 → ds ≡ whole_digits v → after ≡ drop size ds → separator ≡ t.symbols.strings.grouping_separator → whole_events t (whole_digits v) ≡ chained (map (digit_events t.digits) (take size ds)) ++ later_events separator t.digits others after
whole_groups t v digits size sizes others ds after separator first same cut next sized shown left written =
    grouped_digits (group_part t) (digit_events t.digits) t v digits size sizes others ds after first same cut next sized shown left
    ∙ ap (λ text. chained (map (digit_events t.digits) (take size ds)) ++ later_events text t.digits others after) (sym written)

-- the text alone
pub grouped_text : (t : Tables) (v : Number) (digits size : ℕ) (sizes others ds after separator : List ℕ) (first : Option ℕ) → v.high - 32767 ≡ digits → sizes ≡ group_sizes t.strategy t.symbols.grouping_sizes digits → MatchOption first ((sizes ≡ []) × (others ≡ [])) (λ n. sizes ≡ n ∷ others) → size ≡ unwrap_or first 0 → ds ≡ whole_digits v → after ≡ drop size ds → separator ≡ t.symbols.strings.grouping_separator → whole_text t (whole_digits v) ≡ chained (map (digit_text t.digits) (take size ds)) ++ groups_ahead separator (digit_text t.digits) others after
grouped_text t v digits size sizes others ds after separator first same cut next sized shown left written =
    grouped_digits t.symbols.strings.grouping_separator (digit_text t.digits) t v digits size sizes others ds after first same cut next sized shown left
    ∙ ap (λ text. chained (map (digit_text t.digits) (take size ds)) ++ groups_ahead text (digit_text t.digits) others after) (sym written)

pub text_groups : (t : Tables) (v : Number) (digits size : ℕ) (sizes others ds after separator : List ℕ) (first : Option ℕ) → v.high - 32767 ≡ digits → sizes ≡ group_sizes t.strategy t.symbols.grouping_sizes digits → MatchOption first ((sizes ≡ []) × (others ≡ [])) (λ n. sizes ≡ n ∷ others) → size ≡ unwrap_or first 0 → ds ≡ whole_digits v → after ≡ drop size ds → separator ≡ t.symbols.strings.grouping_separator → bytes (whole_text t (whole_digits v)) ≡ bytes (chained (map (digit_text t.digits) (take size ds))) ++ bytes (groups_ahead separator (digit_text t.digits) others after)
text_groups t v digits size sizes others ds after separator first same cut next sized shown left written =
    ap bytes (grouped_text t v digits size sizes others ds after separator first same cut next sized shown left written)
    ∙ bytes_joined (chained (map (digit_text t.digits) (take size ds))) (groups_ahead separator (digit_text t.digits) others after)

-- Digits written.

-- each is below ten
pub tens_down : (count base n : ℕ) → AllBelowBase 10 (digits_down count base n)
tens_down count base zero = tt
tens_down count base (suc k) = (mod_below (count / 10 ^ (base + k)) 10 (omega arith), tens_down count base k)

pub tens_rest : (ds rest : List ℕ) (d : ℕ) → ds ≡ d ∷ rest → AllBelowBase 10 ds → AllBelowBase 10 rest
tens_rest ds rest d is tens = (subst (AllBelowBase 10) is tens).1

pub tens_first : (ds rest : List ℕ) (d : ℕ) → ds ≡ d ∷ rest → AllBelowBase 10 ds → d < 10
tens_first ds rest d is tens = (subst (AllBelowBase 10) is tens).0

-- the events of their characters
pub bytes_chained : (table ds : List ℕ) → bytes (chained (map (digit_text table) ds)) ≡ chained (map (digit_events table) ds)
bytes_chained table [] = no_bytes
bytes_chained table (d ∷ ds) =
    bytes_joined (digit_text table d) (chained (map (digit_text table) ds)) ∙ ap (λ es. digit_events table d ++ es) (bytes_chained table ds)

-- of so many digits the first, and the others
pub next_text : (table ds rest : List ℕ) (left k d : ℕ) → left ≡ k + 1 → ds ≡ d ∷ rest → chained (map (digit_text table) (take left ds)) ≡ encode_utf8 (slice_index table d) ++ chained (map (digit_text table) (take k rest))
next_text table ds rest left k d next is =
    let more : left ≡ suc k = omega (arith, next) in
    ap (λ n. chained (map (digit_text table) (take n ds))) more ∙ ap (λ digits. chained (map (digit_text table) (take (suc k) digits))) is

pub next_rest : (ds rest : List ℕ) (left k d : ℕ) → left ≡ k + 1 → ds ≡ d ∷ rest → drop left ds ≡ drop k rest
next_rest ds rest left k d next is =
    let more : left ≡ suc k = omega (arith, next) in ap (λ n. drop n ds) more ∙ ap (drop (suc k)) is

-- of so many digits the first few, and the others
take_parts : (n k : ℕ) (ds : List ℕ) → take (n + k) ds ≡ take n ds ++ take k (drop n ds)
take_parts zero k ds = let none : 0 + k ≡ k = omega arith in ap (λ j. take j ds) none
take_parts (suc n) k [] = let whole : suc n + k ≡ suc (n + k) = omega arith in ap (λ j. take j []) whole ∙ sym (take-nil k)
take_parts (suc n) k (d ∷ ds) = let whole : suc n + k ≡ suc (n + k) = omega arith in ap (λ j. take j (d ∷ ds)) whole ∙ ap (λ rest. d ∷ rest) (take_parts n k ds)

pub next_piece : (table ds after : List ℕ) (left n k : ℕ) → left ≡ n + k → after ≡ drop n ds → chained (map (digit_events table) (take left ds)) ≡ chained (map (digit_events table) (take n ds)) ++ chained (map (digit_events table) (take k after))
next_piece table ds after left n k whole is =
    ap (λ j. chained (map (digit_events table) (take j ds))) whole
    ∙ ap (λ digits. chained (map (digit_events table) digits)) (take_parts n k ds)
    ∙ ap chained (map-append (digit_events table) (take n ds) (take k (drop n ds)))
    ∙ flat_map-append (λ list. list) (map (digit_events table) (take n ds)) (map (digit_events table) (take k (drop n ds)))
    ∙ ap (λ digits. chained (map (digit_events table) (take n ds)) ++ chained (map (digit_events table) (take k digits))) (sym is)

pub piece_dropped : (ds after : List ℕ) (left n k : ℕ) → left ≡ n + k → after ≡ drop n ds → drop k after ≡ drop left ds
piece_dropped ds after left n k whole is = ap (drop k) is ∙ drop-drop k n ds ∙ ap (λ j. drop j ds) (sym whole)

pub no_piece : (table ds : List ℕ) (left : ℕ) → left ≤ 0 → chained (map (digit_events table) (take left ds)) ≡ []
no_piece table ds zero none = refl
no_piece table ds (suc k) none = absurd (omega (arith, none))

pub none_dropped : (ds : List ℕ) (left : ℕ) → left ≤ 0 → ds ≡ drop left ds
none_dropped ds zero none = refl
none_dropped ds (suc k) none = absurd (omega (arith, none))

-- of the groups after the first the next one, and the others
pub next_group : (separator table ns others ds after : List ℕ) (n : ℕ) → ns ≡ n ∷ others → after ≡ drop n ds → later_events separator table ns ds ≡ (as_part (decimal_part (codes "group")) separator ++ chained (map (digit_events table) (take n ds))) ++ later_events separator table others after
next_group separator table ns others ds after n next is =
    ap (λ sizes. later_events separator table sizes ds) next
    ∙ ap (λ digits. (as_part (decimal_part (codes "group")) separator ++ chained (map (digit_events table) (take n ds))) ++ later_events separator table others digits) (sym is)

-- a character has at most four bytes
pub few_bytes : (c : ℕ) → length (encode_utf8 c) ≤ 4
unfolding encode_utf8
few_bytes c = grind arith

-- the text of a number without a sign, in its two parts
pub unsigned_bytes : (t : Tables) (v : Number) → bytes (unsigned_text t v) ≡ bytes (whole_text t (whole_digits v)) ++ bytes (fraction_text t (fraction_digits v))
unsigned_bytes t v = bytes_joined (whole_text t (whole_digits v)) (fraction_text t (fraction_digits v))

-- The fraction.

some_by : (t : Tables) (count low k : ℕ) → 0 < k → fraction_events t (digits_down count low k) ≡ as_part (decimal_part (codes "decimal")) t.symbols.strings.decimal_separator ++ (opening (decimal_part (codes "fraction")) ++ (chained (map (digit_events t.digits) (digits_down count low k)) ++ closing))
some_by t count low zero some = absurd (omega (arith, some))
some_by t count low (suc k) some = refl

-- where fraction digits are shown, the decimal separator is before them
pub fraction_some : (t : Tables) (v : Number) → 0 < 32768 - v.low → fraction_events t (fraction_digits v) ≡ as_part (decimal_part (codes "decimal")) t.symbols.strings.decimal_separator ++ (opening (decimal_part (codes "fraction")) ++ (chained (map (digit_events t.digits) (fraction_digits v)) ++ closing))
fraction_some t v some = some_by t v.count v.low (32768 - v.low) some

pub fraction_none : (t : Tables) (v : Number) → 32768 - v.low ≡ 0 → fraction_events t (fraction_digits v) ≡ []
fraction_none t v none = ap (λ k. fraction_events t (digits_down v.count v.low k)) none

-- all fraction digits are written
take_down : (count base k : ℕ) → take k (digits_down count base k) ≡ digits_down count base k
take_down count base zero = refl
take_down count base (suc k) = ap (λ ds. count / 10 ^ (base + k) % 10 ∷ ds) (take_down count base k)

pub fraction_run : (table : List ℕ) (v : Number) (count : ℕ) (shown : List ℕ) → shown ≡ fraction_digits v → v.low + count ≡ 32768 → bytes (chained (map (digit_text table) (take count shown))) ≡ chained (map (digit_events table) (fraction_digits v))
fraction_run table v count shown is whole =
    let size : count ≡ 32768 - v.low = omega (arith, whole) in
    ap (λ ds. bytes (chained (map (digit_text table) (take count ds)))) is
    ∙ ap (λ n. bytes (chained (map (digit_text table) (take n (fraction_digits v))))) size
    ∙ ap (λ ds. bytes (chained (map (digit_text table) ds))) (take_down v.count v.low (32768 - v.low))
    ∙ bytes_chained table (fraction_digits v)

-- the text of the fraction alone
text_by : (t : Tables) (count low k : ℕ) (separator : List ℕ) → 0 < k → separator ≡ t.symbols.strings.decimal_separator → fraction_text t (digits_down count low k) ≡ separator ++ chained (map (digit_text t.digits) (digits_down count low k))
text_by t count low zero separator some written = absurd (omega (arith, some))
text_by t count low (suc k) separator some written =
    ap (λ text. text ++ chained (map (digit_text t.digits) (digits_down count low (suc k)))) (sym written)

-- where so many of its digits are shown
pub fraction_shown : (t : Tables) (v : Number) (count : ℕ) (shown separator : List ℕ) → shown ≡ fraction_digits v → v.low + count ≡ 32768 → 0 < count → separator ≡ t.symbols.strings.decimal_separator → fraction_text t (fraction_digits v) ≡ separator ++ chained (map (digit_text t.digits) (take count shown))
fraction_shown t v count shown separator is whole some written =
    let size : count ≡ 32768 - v.low = omega (arith, whole) in
    let all : take count shown ≡ fraction_digits v = ap (take count) is ∙ ap (λ n. take n (fraction_digits v)) size ∙ take_down v.count v.low (32768 - v.low) in
    text_by t v.count v.low (32768 - v.low) separator (omega (arith, size, some)) written
    ∙ ap (λ digits. separator ++ chained (map (digit_text t.digits) digits)) (sym all)

pub text_some : (t : Tables) (v : Number) (separator : List ℕ) → 0 < 32768 - v.low → separator ≡ t.symbols.strings.decimal_separator → bytes (fraction_text t (fraction_digits v)) ≡ bytes separator ++ chained (map (digit_events t.digits) (fraction_digits v))
text_some t v separator some written =
    ap bytes (text_by t v.count v.low (32768 - v.low) separator some written)
    ∙ bytes_joined separator (chained (map (digit_text t.digits) (fraction_digits v)))
    ∙ ap (λ es. bytes separator ++ es) (bytes_chained t.digits (fraction_digits v))

pub text_none : (t : Tables) (v : Number) → 32768 - v.low ≡ 0 → bytes (fraction_text t (fraction_digits v)) ≡ []
text_none t v none = ap (λ k. bytes (fraction_text t (digits_down v.count v.low k))) none ∙ no_bytes
