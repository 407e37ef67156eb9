-- Where the separators of groups of digits are.
use Rattle.std.proofs.Common.{◌≡◌, ℕ, zero, suc, ◌+◌, ◌-◌, ◌<◌, List, [], ◌∷◌, ◌++◌, length, map, take, drop, refl, sym, ap, ◌∙◌, append_assoc, arith}
use Rattle.std.proofs.lemmas.List.{append-nil, drop-map, length-append, length-drop, length-map, take-append-drop, take-map}
use Rattle.std.proofs.lemmas.List.Concat.{flat_map-append}
use Rattle.std.proofs.Math.Seq.{take-append_seam}
use Rattle.std.specs.List.{flat_map, range_with_len}
use Rattle.std.specs.Prelude.{codes}
use Rattle.writeable.specs.AnnotatedText.{Event, Interval, bytes, intervals_from}
use Rattle.writeable.specs.Laws.{IsBalanced}
use Rattle.writeable.specs.PartName.{PartName}
use Rattle.writeable.proofs.AnnotatedTextLemmas.{bytes_joined, no_bytes, text_of_bytes}
use Rattle.writeable.proofs.BalancedLemmas.{balanced_append, balanced_none, balanced_text}
use Rattle.writeable.proofs.LawsLemmas.{intervals_bytes_alone}
use Rattle.icu_decimal_plain.specs.Affixes.{as_part, decimal_part}
use Rattle.icu_decimal_grouping.specs.Grouper.{cut_by, group_sizes, groups, joined}
use Rattle.icu_decimal_plain.specs.PartIntervals.{groups_of, groups_text, part_at, separator_at, separator_parts}
use Rattle.icu_decimal_plain.specs.PartLaws.{SeparatorsStandBetween}
use Rattle.icu_decimal_plain.specs.PlainText.{Tables, chained, digit_events, digit_text, whole_events}
use Rattle.icu_decimal_plain.proofs.TextLemmas.{text_of_part}
use Rattle.icu_decimal_plain.proofs.EventPartLemmas.{both_from, text_part_balanced, text_part_from}

abbrev group_part : List ℕ → List Event
group_part separator = as_part (decimal_part (codes "group")) separator

-- groups, each with the separator before it
abbrev behind : List ℕ → List (List (List ℕ)) → List Event
behind separator [] = []
behind separator (g ∷ gs) = group_part separator ++ (bytes (chained g) ++ behind separator gs)

abbrev after_text : List ℕ → List (List (List ℕ)) → List ℕ
after_text separator gs = chained (flat_map (λ g. (separator ∷ []) ++ g) gs)

digits_joined : (g : List (List ℕ)) → chained (map bytes g) ≡ bytes (chained g)
digits_joined [] = sym no_bytes
digits_joined (d ∷ ds) = ap (λ es. bytes d ++ es) (digits_joined ds) ∙ sym (bytes_joined d (chained ds))

after_events : (separator : List ℕ) (gs : List (List (List ℕ))) → chained (flat_map (λ g. (group_part separator ∷ []) ++ g) (map (map bytes) gs)) ≡ behind separator gs
after_events separator [] = refl
after_events separator (g ∷ gs) =
    let others : List (List Event) = flat_map (λ group. (group_part separator ∷ []) ++ group) (map (map bytes) gs) in
    ap (λ es. group_part separator ++ es) (flat_map-append (λ list. list) (map bytes g) others
    ∙ ap (λ es. es ++ chained others) (digits_joined g)
    ∙ ap (λ es. bytes (chained g) ++ es) (after_events separator gs))

after_balanced : (separator : List ℕ) (gs : List (List (List ℕ))) → IsBalanced (behind separator gs)
after_balanced separator [] = balanced_none
after_balanced separator (g ∷ gs) =
    balanced_append (group_part separator) (bytes (chained g) ++ behind separator gs) (text_part_balanced (decimal_part (codes "group")) separator)
    (balanced_append (bytes (chained g)) (behind separator gs) (balanced_text (chained g)) (after_balanced separator gs))

-- the separators, one after another
abbrev after_parts : ℕ → List ℕ → List (List (List ℕ)) → List Interval
after_parts n separator [] = []
after_parts n separator (g ∷ gs) =
    part_at n separator (decimal_part (codes "group")) ++ after_parts (n + length separator + length (chained g)) separator gs

after_from : (n : ℕ) (separator : List ℕ) (gs : List (List (List ℕ))) → intervals_from n (behind separator gs) ≡ after_parts n separator gs
after_from n separator [] = refl
after_from n separator (g ∷ gs) =
    let part : PartName = decimal_part (codes "group") in
    let m : ℕ = n + length separator in
    both_from n (group_part separator) (bytes (chained g) ++ behind separator gs) separator (text_part_balanced part separator) (text_of_part part separator)
    ∙ ap (λ first. first ++ intervals_from m (bytes (chained g) ++ behind separator gs)) (text_part_from n part separator)
    ∙ ap (λ others. part_at n separator part ++ others) (both_from m (bytes (chained g)) (behind separator gs) (chained g) (balanced_text (chained g)) (text_of_bytes (chained g))
    ∙ ap (λ none. none ++ intervals_from (m + length (chained g)) (behind separator gs)) (intervals_bytes_alone m (chained g))
    ∙ after_from (m + length (chained g)) separator gs)

-- the text of groups, and of more after them
groups_after_text : (separator : List ℕ) (g : List (List ℕ)) (gs more : List (List (List ℕ))) → groups_text separator (g ∷ (gs ++ more)) ≡ groups_text separator (g ∷ gs) ++ after_text separator more
groups_after_text separator g gs more =
    let with_separator : List (List ℕ) → List (List ℕ) = λ group. (separator ∷ []) ++ group in
    let whole : List (List (List ℕ)) → List (List ℕ) = λ list. flat_map with_separator list in
    ap (λ lists. chained (g ++ lists)) (flat_map-append with_separator gs more)
    ∙ ap chained (sym (append_assoc g (whole gs) (whole more)))
    ∙ flat_map-append (λ list. list) (g ++ whole gs) (whole more)

-- the separators after the first groups, counted from there on
after_counted : (n : ℕ) (separator : List ℕ) (g : List (List ℕ)) (gs more : List (List (List ℕ))) → after_parts (n + length (groups_text separator (g ∷ gs))) separator more ≡ flat_map (separator_at n separator (g ∷ (gs ++ more))) (range_with_len (length (g ∷ gs)) (length more))
after_counted n separator g gs [] = refl
after_counted n separator g gs (h ∷ hs) =
    let part : PartName = decimal_part (codes "group") in
    let first : ℕ = length (g ∷ gs) in
    let all : List (List (List ℕ)) = g ∷ (gs ++ h ∷ hs) in
    let seam : take first all ≡ g ∷ gs = take-append_seam (g ∷ gs) (h ∷ hs) in
    let others : (gs ++ h ∷ []) ++ hs ≡ gs ++ h ∷ hs = append_assoc gs (h ∷ []) hs in
    let text : length (groups_text separator (g ∷ (gs ++ h ∷ []))) ≡ length (groups_text separator (g ∷ gs)) + (length separator + length (chained h)) =
    ap length (groups_after_text separator g gs (h ∷ [])) ∙ length-append (groups_text separator (g ∷ gs)) (after_text separator (h ∷ []))
    ∙ ap (λ k. length (groups_text separator (g ∷ gs)) + k) (ap (λ list. length (separator ++ chained list)) (append-nil h) ∙ length-append separator (chained h)) in
    let place : n + length (groups_text separator (g ∷ gs)) + length separator + length (chained h) ≡ n + length (groups_text separator (g ∷ (gs ++ h ∷ []))) = omega (arith, text) in
    let count : length (g ∷ (gs ++ h ∷ [])) ≡ first + 1 = ap suc (length-append gs (h ∷ [])) ∙ omega arith in
    ap (λ front. part_at (n + length (groups_text separator front)) separator part ++ after_parts (n + length (groups_text separator (g ∷ gs)) + length separator + length (chained h)) separator hs) (sym seam)
    ∙ ap (λ list. separator_at n separator all first ++ list) (ap (λ m. after_parts m separator hs) place
    ∙ after_counted n separator g (gs ++ h ∷ []) hs
    ∙ ap (λ m. flat_map (separator_at n separator (g ∷ ((gs ++ h ∷ []) ++ hs))) (range_with_len m (length hs))) count
    ∙ ap (λ list. flat_map (separator_at n separator (g ∷ list)) (range_with_len (first + 1) (length hs))) others)

-- the events of groups
abbrev pub groups_events : List ℕ → List (List (List ℕ)) → List Event
groups_events separator [] = []
groups_events separator (g ∷ gs) = bytes (chained g) ++ behind separator gs

groups_joined : (separator : List ℕ) (gs : List (List (List ℕ))) → chained (joined (group_part separator ∷ []) (map (map bytes) gs)) ≡ groups_events separator gs
groups_joined separator [] = refl
groups_joined separator (g ∷ gs) =
    let others : List (List Event) = flat_map (λ group. (group_part separator ∷ []) ++ group) (map (map bytes) gs) in
    flat_map-append (λ list. list) (map bytes g) others
    ∙ ap (λ es. es ++ chained others) (digits_joined g)
    ∙ ap (λ es. bytes (chained g) ++ es) (after_events separator gs)

pub groups_balanced : (separator : List ℕ) (gs : List (List (List ℕ))) → IsBalanced (groups_events separator gs)
groups_balanced separator [] = balanced_none
groups_balanced separator (g ∷ gs) = balanced_append (bytes (chained g)) (behind separator gs) (balanced_text (chained g)) (after_balanced separator gs)

less_one : (k : ℕ) → suc k - 1 ≡ k
less_one k = omega arith

pub groups_from : (n : ℕ) (separator : List ℕ) (gs : List (List (List ℕ))) → intervals_from n (groups_events separator gs) ≡ separator_parts n separator gs
groups_from n separator [] = refl
groups_from n separator (g ∷ gs) =
    let m : ℕ = n + length (chained g) in
    both_from n (bytes (chained g)) (behind separator gs) (chained g) (balanced_text (chained g)) (text_of_bytes (chained g))
    ∙ ap (λ none. none ++ intervals_from m (behind separator gs)) (intervals_bytes_alone n (chained g))
    ∙ after_from m separator gs
    ∙ ap (λ list. after_parts (n + length (chained list)) separator gs) (sym (append-nil g))
    ∙ after_counted n separator g [] gs
    ∙ ap (λ count. flat_map (separator_at n separator (g ∷ gs)) (range_with_len 1 count)) (sym (less_one (length gs)))

-- groups of texts, and of their events
cut_events : (ns : List ℕ) (texts : List (List ℕ)) → cut_by ns (map bytes texts) ≡ map (map bytes) (cut_by ns texts)
cut_events [] texts = refl
cut_events (n ∷ ns) texts =
    ap (λ group. group ∷ cut_by ns (drop n (map bytes texts))) (take-map bytes n texts)
    ∙ ap (λ others. map bytes (take n texts) ∷ cut_by ns others) (drop-map bytes n texts)
    ∙ ap (λ others. map bytes (take n texts) ∷ others) (cut_events ns (drop n texts))

digits_events : (table ds : List ℕ) → map (digit_events table) ds ≡ map bytes (map (digit_text table) ds)
digits_events table [] = refl
digits_events table (d ∷ ds) = ap (λ others. digit_events table d ∷ others) (digits_events table ds)

pub whole_is : (t : Tables) (ds : List ℕ) → whole_events t ds ≡ groups_events t.symbols.strings.grouping_separator (groups_of t ds)
whole_is t ds =
    let separator : List ℕ = t.symbols.strings.grouping_separator in
    let texts : List (List ℕ) = map (digit_text t.digits) ds in
    let sizes : ℕ → List ℕ = λ count. group_sizes t.strategy t.symbols.grouping_sizes count in
    ap (λ digits. chained (joined (group_part separator ∷ []) (groups t.strategy t.symbols.grouping_sizes digits))) (digits_events t.digits ds)
    ∙ ap (λ count. chained (joined (group_part separator ∷ []) (cut_by (sizes count) (map bytes texts)))) (length-map texts bytes)
    ∙ ap (λ gs. chained (joined (group_part separator ∷ []) gs)) (cut_events (sizes (length texts)) texts)
    ∙ groups_joined separator (groups_of t ds)

-- Between groups.

after_is : (separator : List ℕ) (gs : List (List (List ℕ))) → 0 < length gs → after_text separator gs ≡ separator ++ groups_text separator gs
after_is separator [] some = absurd (omega (arith, some))
after_is separator (g ∷ gs) some = refl

pub separators_between : SeparatorsStandBetween
separators_between separator [] k some more = absurd (omega (arith, more))
separators_between separator (g ∷ gs) zero some more = absurd (omega (arith, some))
separators_between separator (g ∷ gs) (suc k) some more =
    let whole : take k gs ++ drop k gs ≡ gs = take-append-drop k gs in
    let left : length (drop k gs) ≡ length gs - k = length-drop k gs in
    ap (λ list. groups_text separator (g ∷ list)) (sym whole)
    ∙ groups_after_text separator g (take k gs) (drop k gs)
    ∙ ap (λ rest. groups_text separator (g ∷ take k gs) ++ rest) (after_is separator (drop k gs) (omega (arith, left, more)))
