-- Lines whose tags are alike have one answer: `specs/Laws.antt`.
use Rattle.std.proofs.Common.{◌≡◌, ◌<◌, ◌==◌, ℕ, Bool, true, false, cond, ◌||◌, List, [], ◌∷◌, ◌++◌, Option, Some, None, refl, sym, ap, ap₂, ◌∙◌, subst, arith}
use Rattle.std.specs.Prelude.{flat_map, if◌then◌else◌}
use Rattle.std.specs.List.{list_all, onto_first}
use Rattle.std.specs.Char.{is_ascii_alphanumeric}
use Rattle.std.specs.Str.{is_utf8}
use Rattle.std.proofs.lemmas.Bool.{and_parts, and_from}
use Rattle.std.proofs.lemmas.Bool.Decides.{nat_tests, same_from_decides}
use Rattle.std.proofs.lemmas.List.Folds.{list_all-append}
use Rattle.std.proofs.lemmas.Str.{IsUtf8-append, IsUtf8-from_ascii, IsUtf8-past_char, IsUtf8-from_is_utf8, is_utf8-from_IsUtf8, encode_ascii}
use Rattle.std.proofs.lemmas.Str.Ascii.{IsAscii-nil, IsAscii-cons}
use Rattle.icu_decimal.specs.Rules.{Rules}
use Rattle.icu_locale_core.specs.Subtags.{Text, is_plain}
use Rattle.icu_locale_core.specs.Pieces.{hyphen, pieces, hyphened, joined_text}
use Rattle.icu_locale_core.specs.Collections.{Each}
use Rattle.icu_locale_core.specs.Meaning.{TagMeaning, MeansTag}
use Rattle.icu_locale_core.specs.NormalText.{normal_text}
use Rattle.icu_locale_core.specs.TagPreferences.{Preferences, language_priority, preferences_of}
use Rattle.icu_locale_core.proofs.PlainPieces.{tag_plain, joined-pieces}
use Rattle.icu_locale_core.proofs.NormalTags.{read_again}
use Rattle.icu_decimal.specs.declared.options.GroupingStrategy.{GroupingStrategy}
use Rattle.locale_numbers_book.specs.Book.{BookTables}
use Rattle.locale_numbers_book.specs.Wanted.{wanted_of}
use Rattle.locale_numbers_book.proofs.AlikeLemmas.{plain_alike, shape_alike}
use Rattle.locale_numbers_book.specs.FoundFormats.{in_latin}
use Rattle.locale_numbers_book.specs.FoundRules.{rules_and_ranges}
use Rattle.locale_numbers_book.proofs.WantedLemmas.{asks_of}
use Rattle.icu_plurals.specs.declared.PluralRange.{PluralRange}
use Rattle.icu_plurals.specs.declared.PluralRuleType.{PluralRuleType}
use Rattle.locale_numbers_answers.specs.Answers.{answer_by}
use Rattle.locale_numbers_formats.specs.declared.NumberFormat.{NumberFormat}
use Rattle.locale_numbers_formats.specs.declared.NumberShape.{NumberShape}
use Rattle.locale_numbers_formats.specs.declared.SignAsked.{SignAsked}
use Rattle.locale_numbers_requests.specs.Cutting.{is_separator}
use Rattle.locale_numbers_requests.specs.FormField.{form_named}
use Rattle.locale_numbers_requests.specs.Request.{asked_by, tab, fields, format_asked, grouping_named, sign_named, request_by, request_in, request_of}
use Rattle.locale_numbers_requests.specs.RoundingField.{rounding_named}
use Rattle.locale_numbers_requests.specs.declared.Task.{Task}
use Rattle.locale_numbers.specs.Answer.{answer_tagged, answer_asked, found_for, plural_rules_for, second_for}
use Rattle.locale_numbers.specs.Laws.{AreAlike, AlikeTagsAreAnsweredAlike, NormalTextIsAnsweredAlike}
use Rattle.locale_numbers.proofs.SecondLemmas.{second_same}

-- ---- the bytes of a tag

-- a letter, a digit or a hyphen
abbrev is_tag_byte : ℕ → Bool
is_tag_byte b = is_ascii_alphanumeric b || (b == hyphen)

byte_no_tab : (b : ℕ) → is_tag_byte b ≡ true → is_separator tab b ≡ false
byte_no_tab b h = grind (arith, nat_tests)

byte_ascii : (b : ℕ) → is_tag_byte b ≡ true → b < 128
byte_ascii b h = grind (arith, nat_tests)

letter_byte : (b : ℕ) → is_ascii_alphanumeric b ≡ true → is_tag_byte b ≡ true
letter_byte b h = ap (λ t. t || (b == hyphen)) h

plain_bytes : (p : Text) → is_plain p ≡ true → list_all is_tag_byte p ≡ true
plain_bytes [] h = refl
plain_bytes (b ∷ bs) h =
    let parts = and_parts (is_ascii_alphanumeric b) (is_plain bs) h in
    and_from (is_tag_byte b) (list_all is_tag_byte bs) (letter_byte b parts.0) (plain_bytes bs parts.1)

hyphened_bytes : (ps : List Text) → Each is_plain ps → list_all is_tag_byte (flat_map hyphened ps) ≡ true
hyphened_bytes [] h = refl
hyphened_bytes (p ∷ ps) h =
    list_all-append is_tag_byte p (flat_map hyphened ps)
    ∙ and_from (list_all is_tag_byte p) (list_all is_tag_byte (flat_map hyphened ps)) (plain_bytes p h.0) (hyphened_bytes ps h.1)

joined_bytes : (ps : List Text) → Each is_plain ps → list_all is_tag_byte (joined_text ps) ≡ true
joined_bytes [] h = refl
joined_bytes (p ∷ ps) h =
    list_all-append is_tag_byte p (flat_map hyphened ps)
    ∙ and_from (list_all is_tag_byte p) (list_all is_tag_byte (flat_map hyphened ps)) (plain_bytes p h.0) (hyphened_bytes ps h.1)

tag_bytes : (text : Text) (m : TagMeaning) → MeansTag (pieces text) m → list_all is_tag_byte text ≡ true
tag_bytes text m means = subst (λ t. list_all is_tag_byte t ≡ true) (joined-pieces text) (joined_bytes (pieces text) (tag_plain (pieces text) m means))

-- ---- a line after its tag

-- an ASCII character in front changes nothing
utf8_past : (b : ℕ) (rest : List ℕ) → b < 128 → is_utf8 (b ∷ rest) ≡ is_utf8 rest
utf8_past b rest h =
    same_from_decides (is_utf8 (b ∷ rest)) (is_utf8 rest)
    (IsUtf8-from_is_utf8 (b ∷ rest), is_utf8-from_IsUtf8 (b ∷ rest)) (
      (λ e. IsUtf8-append (b ∷ []) rest (IsUtf8-from_ascii (b ∷ []) (IsAscii-cons b [] h IsAscii-nil)) (IsUtf8-from_is_utf8 rest e)),
      (λ u. is_utf8-from_IsUtf8 rest (IsUtf8-past_char (b ∷ rest) rest b u (sym (ap (λ e. e ++ rest) (encode_ascii b h))))),
    )

utf8_after : (text rest : List ℕ) → list_all is_tag_byte text ≡ true → is_utf8 (text ++ tab ∷ rest) ≡ is_utf8 rest
utf8_after [] rest h = utf8_past tab rest (omega arith)
utf8_after (b ∷ bs) rest h =
    let parts = and_parts (is_tag_byte b) (list_all is_tag_byte bs) h in
    utf8_past b (bs ++ tab ∷ rest) (byte_ascii b parts.0) ∙ utf8_after bs rest parts.1

fields_after : (text rest : List ℕ) → list_all is_tag_byte text ≡ true → fields (text ++ tab ∷ rest) ≡ text ∷ fields rest
fields_after [] rest h = refl
fields_after (b ∷ bs) rest h =
    let parts = and_parts (is_tag_byte b) (list_all is_tag_byte bs) h in
    ap (λ t. cond t ([] ∷ fields (bs ++ tab ∷ rest)) (onto_first b (fields (bs ++ tab ∷ rest)))) (byte_no_tab b parts.0)
    ∙ ap (onto_first b) (fields_after bs rest parts.1)

request_after : (text rest : List ℕ) → list_all is_tag_byte text ≡ true → request_of (text ++ tab ∷ rest) ≡ (if is_utf8 rest then request_in (text ∷ fields rest) else None)
request_after text rest h =
    ap (λ t. if t then request_in (fields (text ++ tab ∷ rest)) else None) (utf8_after text rest h)
    ∙ ap (λ fs. if is_utf8 rest then request_in fs else None) (fields_after text rest h)

-- ---- fields after a tag

-- the answer to the rest of a request by what a tag prefers, the same for both
abbrev AreAnsweredAlike : BookTables → List ℕ → List ℕ → Option Preferences → Option Preferences → Type 0
AreAnsweredAlike book text other one two = (task : Task) (format : NumberFormat) (digits : List ℕ)
    → answer_tagged book one (record { tag = text; task = task; format = format; text = digits }) ≡ answer_tagged book two (record { tag = other; task = task; format = format; text = digits })

module _ (book : BookTables) (text other : List ℕ) (alike : AreAnsweredAlike book text other (wanted_of text) (wanted_of other)) where
  taken_alike : (digits : List ℕ) (found : Option (Task × NumberFormat)) → answer_asked book (asked_by text found digits) ≡ answer_asked book (asked_by other found digits)
  taken_alike digits (Some found) = alike found.0 found.1 digits
  taken_alike digits None = refl

  known_alike : (digits : List ℕ) (form : Option _) (grouping : Option GroupingStrategy) (sign : Option SignAsked) (shown : Option _)
      → answer_asked book (request_by text form grouping sign shown digits) ≡ answer_asked book (request_by other form grouping sign shown digits)
  known_alike digits (Some form) (Some grouping) (Some sign) (Some shown) = taken_alike digits (format_asked form grouping sign shown)
  known_alike digits (Some form) (Some grouping) (Some sign) None = refl
  known_alike digits (Some form) (Some grouping) None shown = refl
  known_alike digits (Some form) None sign shown = refl
  known_alike digits None grouping sign shown = refl

  fields_alike : (fs : List (List ℕ)) → answer_asked book (request_in (text ∷ fs)) ≡ answer_asked book (request_in (other ∷ fs))
  fields_alike [] = refl
  fields_alike (a ∷ []) = refl
  fields_alike (a ∷ b ∷ []) = refl
  fields_alike (a ∷ b ∷ c ∷ []) = refl
  fields_alike (a ∷ b ∷ c ∷ d ∷ []) = refl
  fields_alike (form ∷ grouping ∷ sign ∷ rounding ∷ digits ∷ []) = known_alike digits (form_named form) (grouping_named grouping) (sign_named sign) (rounding_named rounding)
  fields_alike (a ∷ b ∷ c ∷ d ∷ e ∷ f ∷ fs) = refl

  read_alike : (rest : List ℕ) (t : Bool)
      → answer_asked book (if t then request_in (text ∷ fields rest) else None) ≡ answer_asked book (if t then request_in (other ∷ fields rest) else None)
  read_alike rest true = fields_alike (fields rest)
  read_alike rest false = refl

-- ---- alike tags

-- the locales of their preferences are one in the form with the language first
locales_same : (m n : TagMeaning) → AreAlike m n → language_priority (preferences_of m).locale ≡ language_priority (preferences_of n).locale
locales_same m n a =
    λ i. record { language = a.language i; script = a.script i; region = a.region i; variant = a.variant i; subdivision = a.subdivision i }

-- so their preferences find the same
found_same : (book : BookTables) (m n : TagMeaning) → AreAlike m n → (shape : NumberShape) → found_for shape book (preferences_of m) ≡ found_for shape book (preferences_of n)
found_same book m n a shape = shape_alike book (preferences_of m) (preferences_of n) (locales_same m n a) a.numbering_system shape

beside_same : (book : BookTables) (m n : TagMeaning) → AreAlike m n → (shape : NumberShape) → second_for shape book (preferences_of m) ≡ second_for shape book (preferences_of n)
beside_same book m n a shape =
    second_same book book (preferences_of m) (preferences_of n) shape
    (plain_alike book (preferences_of m) (preferences_of n) (locales_same m n a) a.numbering_system shape.grouping)
    (shape_alike book (in_latin (preferences_of m)) (in_latin (preferences_of n)) (locales_same m n a) refl shape)

abbrev rules_of : BookTables → TagMeaning → PluralRuleType → Option (Rules × List PluralRange)
rules_of book m rule_type = plural_rules_for rule_type book (preferences_of m)

rules_same : (book : BookTables) (m n : TagMeaning) → AreAlike m n → rules_of book m ≡ rules_of book n
rules_same book m n a = ap (λ locale rule_type. rules_and_ranges rule_type book locale) (locales_same m n a)

asks_alike : (book : BookTables) (text other : List ℕ) (m n : TagMeaning) → AreAlike m n → AreAnsweredAlike book text other (Some (preferences_of m)) (Some (preferences_of n))
asks_alike book text other m n a task format digits =
    ap₂ (λ found second. answer_by task format found second (rules_of book m) digits) (found_same book m n a format.shape) (beside_same book m n a format.shape)
    ∙ ap (λ rules. answer_by task format (found_for format.shape book (preferences_of n)) (second_for format.shape book (preferences_of n)) rules digits) (rules_same book m n a)

pub alike_tags : AlikeTagsAreAnsweredAlike
alike_tags book text other rest m n first second a =
    let alike : AreAnsweredAlike book text other (wanted_of text) (wanted_of other) =
    rw (asks_of text m first, asks_of other n second) (asks_alike book text other m n a) in
    ap (answer_asked book) (request_after text rest (tag_bytes text m first))
    ∙ read_alike book text other alike rest (is_utf8 rest)
    ∙ sym (ap (answer_asked book) (request_after other rest (tag_bytes other n second)))

pub normal_text_alike : NormalTextIsAnsweredAlike
normal_text_alike book text rest m means =
    alike_tags book text (normal_text m) rest m m means (read_again (pieces text) m means)
    (record { language = refl; script = refl; region = refl; variant = refl; subdivision = refl; numbering_system = refl })
