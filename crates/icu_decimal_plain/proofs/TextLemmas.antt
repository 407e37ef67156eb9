-- The text of the events that a number is written as.
use Rattle.std.proofs.Common.{◌≡◌, ℕ, Bool, true, false, cond, List, [], ◌∷◌, ◌++◌, length, map, refl, sym, ap, ◌∙◌, arith}
use Rattle.std.proofs.lemmas.List.{append-nil, length-map}
use Rattle.std.specs.Prelude.{Option, None, Some, codes}
use Rattle.writeable.specs.AnnotatedText.{Event, bytes, opening, closing, text_of, without_parts}
use Rattle.writeable.specs.PartName.{PartName}
use Rattle.writeable.specs.SinkLaws.{text_of_joined}
use Rattle.writeable.proofs.AnnotatedTextLemmas.{bytes_joined, text_of_bytes, text_of_opening, text_of_closing}
use Rattle.fixed_decimal.specs.Number.{Number, fraction_digits, whole_digits}
use Rattle.fixed_decimal.specs.SignedValue.{SignedValue}
use Rattle.icu_decimal_plain.specs.Affixes.{AffixTexts, affixes_of, as_part, decimal_part, prefix_events, suffix_events}
use Rattle.icu_decimal_grouping.specs.Grouper.{cut_by, cut_sizes, ends_at, group_sizes, is_grouped, joined, marked, middle_size}
use Rattle.icu_decimal_plain.specs.PlainText.{PlainNumber, Tables, chained, decimal_events, decimal_text, digit_events, digit_text, formatted, fraction_events, fraction_text, grouped, integer_events, prefix_text, suffix_text, unsigned_events, unsigned_text, whole_events, whole_text}
use Rattle.icu_decimal_grouping.proofs.GrouperLemmas.{has_groups, joined_is_separated}
use Rattle.icu_decimal_plain.proofs.PlainTextLemmas.{group_part}

-- opened and closed again
text_between : (part : PartName) (es : List Event) → text_of (opening part ++ (es ++ closing)) ≡ text_of es
text_between part es =
    text_of_joined (opening part) (es ++ closing)
    ∙ ap (λ text. text ++ text_of (es ++ closing)) (text_of_opening part)
    ∙ text_of_joined es closing
    ∙ ap (λ text. text_of es ++ text) text_of_closing
    ∙ append-nil (text_of es)

pub text_of_part : (part : PartName) (text : List ℕ) → text_of (as_part part text) ≡ text
text_of_part part text = text_between part (bytes text) ∙ text_of_bytes text

-- Digits in groups.

text_cond : (b : Bool) (group : List Event) (lists : List (List Event)) (texts : List (List ℕ)) → text_of (chained lists) ≡ chained texts → text_of (chained (cond b (group ∷ []) [] ++ lists)) ≡ chained (cond b (text_of group ∷ []) [] ++ texts)
text_cond true group lists texts same = text_of_joined group (chained lists) ∙ ap (λ text. text_of group ++ text) same
text_cond false group lists texts same = same

text_marked : (ends : ℕ → Bool) (group : List Event) (f : ℕ → List Event) (g : ℕ → List ℕ) (ds : List ℕ) → ((d : ℕ) → text_of (f d) ≡ g d) → text_of (chained (marked ends (group ∷ []) (map f ds))) ≡ chained (marked ends (text_of group ∷ []) (map g ds))
text_marked ends group f g [] same = refl
text_marked ends group f g (d ∷ ds) same =
    let rest = marked ends (group ∷ []) (map f ds) in
    let texts = marked ends (text_of group ∷ []) (map g ds) in
    let size : length (map f ds) ≡ length (map g ds) = length-map ds f ∙ sym (length-map ds g) in
    text_of_joined (f d) (chained (cond (ends (length (map f ds))) (group ∷ []) [] ++ rest))
    ∙ ap (λ text. text ++ text_of (chained (cond (ends (length (map f ds))) (group ∷ []) [] ++ rest))) (same d)
    ∙ ap (λ text. g d ++ text) (text_cond (ends (length (map f ds))) group rest texts (text_marked ends group f g ds same))
    ∙ ap (λ n. g d ++ chained (cond (ends n) (text_of group ∷ []) [] ++ texts)) size

text_chained : (f : ℕ → List Event) (g : ℕ → List ℕ) (ds : List ℕ) → ((d : ℕ) → text_of (f d) ≡ g d) → text_of (chained (map f ds)) ≡ chained (map g ds)
text_chained f g [] same = refl
text_chained f g (d ∷ ds) same =
    text_of_joined (f d) (chained (map f ds))
    ∙ ap (λ text. text ++ text_of (chained (map f ds))) (same d)
    ∙ ap (λ text. g d ++ text) (text_chained f g ds same)

-- no digits are one group without digits
none_by : {A : Type 0} (separator : List A) (b : Bool) (sizes : List ℕ) → (b ≡ true → ⊥) → chained (joined (separator ∷ []) (cut_by (cond b sizes (0 ∷ [])) [])) ≡ []
none_by separator true sizes never = absurd (never refl)
none_by separator false sizes never = refl

none_grouped : {A : Type 0} (t : Tables) (separator : List A) → grouped t separator [] ≡ []
none_grouped t separator =
    none_by separator (is_grouped t.strategy t.symbols.grouping_sizes 0) (cut_sizes t.symbols.grouping_sizes.primary (middle_size t.symbols.grouping_sizes) 0)
    (λ some. let has = has_groups t.strategy t.symbols.grouping_sizes 0 some in omega (arith, has.enough))

pub text_grouped : (t : Tables) (group : List Event) (f : ℕ → List Event) (g : ℕ → List ℕ) (ds : List ℕ) → ((d : ℕ) → text_of (f d) ≡ g d) → text_of (grouped t group (map f ds)) ≡ grouped t (text_of group) (map g ds)
text_grouped t group f g [] same = ap text_of (none_grouped t group) ∙ sym (none_grouped t (text_of group))
text_grouped t group f g (d ∷ ds) same =
    let strategy = t.strategy in
    let sizes = t.symbols.grouping_sizes in
    let size : length (map f (d ∷ ds)) ≡ length (map g (d ∷ ds)) = length-map (d ∷ ds) f ∙ sym (length-map (d ∷ ds) g) in
    ap (λ lists. text_of (chained lists)) (joined_is_separated strategy sizes (group ∷ []) (map f (d ∷ ds)) (omega arith))
    ∙ text_marked (ends_at (group_sizes strategy sizes (length (map f (d ∷ ds))))) group f g (d ∷ ds) same
    ∙ ap (λ n. chained (marked (ends_at (group_sizes strategy sizes n)) (text_of group ∷ []) (map g (d ∷ ds)))) size
    ∙ sym (ap chained (joined_is_separated strategy sizes (text_of group ∷ []) (map g (d ∷ ds)) (omega arith)))

-- The text of a number.

text_digit : (table : List ℕ) (d : ℕ) → text_of (digit_events table d) ≡ digit_text table d
text_digit table d = text_of_bytes (digit_text table d)

pub text_inside : (t : Tables) (ds : List ℕ) → text_of (whole_events t ds) ≡ whole_text t ds
text_inside t ds =
    text_grouped t (group_part t) (digit_events t.digits) (digit_text t.digits) ds (text_digit t.digits)
    ∙ ap (λ separator. grouped t separator (map (digit_text t.digits) ds)) (text_of_part (decimal_part (codes "group")) t.symbols.strings.grouping_separator)

pub text_whole : (t : Tables) (ds : List ℕ) → text_of (integer_events t ds) ≡ whole_text t ds
text_whole t ds = text_between (decimal_part (codes "integer")) (whole_events t ds) ∙ text_inside t ds

text_fraction : (t : Tables) (ds : List ℕ) → text_of (fraction_events t ds) ≡ fraction_text t ds
text_fraction t [] = refl
text_fraction t (d ∷ ds) =
    let digits = chained (map (digit_events t.digits) (d ∷ ds)) in
    let point = as_part (decimal_part (codes "decimal")) t.symbols.strings.decimal_separator in
    let part = opening (decimal_part (codes "fraction")) ++ (digits ++ closing) in
    text_of_joined point part
    ∙ ap (λ text. text ++ text_of part) (text_of_part (decimal_part (codes "decimal")) t.symbols.strings.decimal_separator)
    ∙ ap (λ text. t.symbols.strings.decimal_separator ++ text) (text_between (decimal_part (codes "fraction")) digits ∙ text_chained (digit_events t.digits) (digit_text t.digits) (d ∷ ds) (text_digit t.digits))

pub unsigned_is_text : (p : PlainNumber) → text_of (unsigned_events p) ≡ unsigned_text p.tables p.number
unsigned_is_text p =
    let whole = integer_events p.tables (whole_digits p.number) in
    let fraction = fraction_events p.tables (fraction_digits p.number) in
    text_of_joined whole fraction
    ∙ ap (λ text. text ++ text_of fraction) (text_whole p.tables (whole_digits p.number))
    ∙ ap (λ text. whole_text p.tables (whole_digits p.number) ++ text) (text_fraction p.tables (fraction_digits p.number))

pub text_prefix : (affixes : Option AffixTexts) → text_of (prefix_events affixes) ≡ prefix_text affixes
text_prefix None = refl
text_prefix (Some affixes) = text_of_part affixes.part affixes.prefix

text_suffix : (affixes : Option AffixTexts) → text_of (suffix_events affixes) ≡ suffix_text affixes
text_suffix None = refl
text_suffix (Some affixes) = text_of_part affixes.part affixes.suffix

-- a value between the affixes of a sign
pub text_with_sign : (affixes : Option AffixTexts) (es : List Event) (text : List ℕ) → text_of es ≡ text → text_of (prefix_events affixes ++ (es ++ suffix_events affixes)) ≡ prefix_text affixes ++ (text ++ suffix_text affixes)
text_with_sign affixes es text same =
    let inner = es ++ suffix_events affixes in
    text_of_joined (prefix_events affixes) inner
    ∙ ap (λ written. written ++ text_of inner) (text_prefix affixes)
    ∙ ap (λ written. prefix_text affixes ++ written) (text_of_joined es (suffix_events affixes)
    ∙ ap (λ written. written ++ text_of (suffix_events affixes)) same
    ∙ ap (λ written. text ++ written) (text_suffix affixes))

pub decimal_is_text : (t : Tables) (d : SignedValue Number) → text_of (decimal_events (formatted t d)) ≡ decimal_text t d
decimal_is_text t d =
    let number : PlainNumber = record { number = d.absolute; tables = t } in
    text_with_sign (affixes_of t.symbols.strings d.sign) (unsigned_events number) (unsigned_text t d.absolute) (unsigned_is_text number)

-- a value between two texts
pub text_in_unit : (before behind : List ℕ) (es : List Event) (text : List ℕ) → text_of es ≡ text → text_of (bytes before ++ (es ++ bytes behind)) ≡ before ++ (text ++ behind)
text_in_unit before behind es text same =
    let inner = es ++ bytes behind in
    text_of_joined (bytes before) inner
    ∙ ap (λ written. written ++ text_of inner) (text_of_bytes before)
    ∙ ap (λ written. before ++ written) (text_of_joined es (bytes behind)
    ∙ ap (λ written. written ++ text_of (bytes behind)) same
    ∙ ap (λ written. text ++ written) (text_of_bytes behind))

-- Without parts.

-- the events of a value without affixes
pub without_sign : (es : List Event) → without_parts ([] ++ (es ++ [])) ≡ without_parts es
without_sign es = ap without_parts (append-nil es)

-- those of a value between two affixes
pub with_sign : (part : PartName) (prefix suffix : List ℕ) (es : List Event) → without_parts (as_part part prefix ++ (es ++ as_part part suffix)) ≡ bytes prefix ++ (without_parts es ++ bytes suffix)
with_sign part prefix suffix es =
    let inner = es ++ as_part part suffix in
    ap bytes (text_of_joined (as_part part prefix) inner
    ∙ ap (λ text. text ++ text_of inner) (text_of_part part prefix)
    ∙ ap (λ text. prefix ++ text) (text_of_joined es (as_part part suffix) ∙ ap (λ text. text_of es ++ text) (text_of_part part suffix)))
    ∙ bytes_joined prefix (text_of es ++ suffix)
    ∙ ap (λ bs. bytes prefix ++ bs) (bytes_joined (text_of es) suffix)
