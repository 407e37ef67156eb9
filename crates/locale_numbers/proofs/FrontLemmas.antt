-- A line asks what its front does, with its text: `specs/Front.antt`.
use Rattle.std.proofs.Common.{◌≡◌, ◌∷◌, [], ◌++◌, ◌<◌, ◌+◌, ◌∙◌, inl, inr, ℕ, List, Option, Some, None, Bool, true, false, All, length, get_or, sym, ap, refl, subst, arith}
use Rattle.std.specs.Prelude.{if◌then◌else◌, ◌&&◌, IfSome, IsTrue, option_map}
use Rattle.std.specs.List.{slice_split, onto_first}
use Rattle.std.specs.Str.{IsUtf8, is_utf8, IsCharBoundary}
use Rattle.std.proofs.Math.Seq.{drop-append_seam, take-append_seam}
use Rattle.std.proofs.lemmas.Bool.{false≢true}
use Rattle.std.proofs.lemmas.Bool.Decides.{same_from_decides}
use Rattle.std.proofs.lemmas.Grind.{common_steps}
use Rattle.std.proofs.lemmas.List.{append_assoc, length-append}
use Rattle.std.proofs.lemmas.List.Splits.{length-slice_split, slice_split-cons_no, slice_split-cons_yes, slice_split_none}
use Rattle.std.proofs.lemmas.Str.{IsUtf8-from_is_utf8, is_utf8-from_IsUtf8, IsUtf8-append, IsUtf8-take, IsUtf8-drop, IsCharBoundary-after_ascii}
use Rattle.icu_decimal.specs.declared.options.GroupingStrategy.{GroupingStrategy}
use Rattle.icu_locale_core.specs.TagPreferences.{Preferences}
use Rattle.locale_numbers_book.specs.Book.{BookTables}
use Rattle.locale_numbers_book.specs.Wanted.{wanted_of}
use Rattle.locale_numbers_cache.specs.LastRead.{Remembered}
use Rattle.locale_numbers_formats.specs.declared.NumberFormat.{NumberFormat}
use Rattle.locale_numbers_formats.specs.declared.SignAsked.{SignAsked}
use Rattle.locale_numbers_requests.specs.Cutting.{IsLastCut, IsNot, is_separator}
use Rattle.locale_numbers_requests.specs.Request.{Asked, asked_by, fields, format_asked, request_by, request_in, request_of, tab, with_text}
use Rattle.locale_numbers_requests.specs.declared.Refusal.TheVariants as refusal
use Rattle.locale_numbers_requests.specs.declared.Task.{Task}
use Rattle.locale_numbers.specs.Answer.{answer_asked, answer_of, answer_tagged, refused}
use Rattle.locale_numbers.specs.FormatterKeys.{key_asked, key_of, key_tagged, key_with}
use Rattle.locale_numbers.specs.Front.{FitsKey, HasKeyThat, answer_after, answer_front, answer_keyed, asked_text, front_asked, front_of, is_as_it_is, key_after, key_front, key_keyed}
use Rattle.locale_numbers.specs.declared.formatter_key.FormatterKey.{FormatterKey}
use Rattle.locale_numbers.specs.declared.front.Front.{Front}

-- ---- the fields

module _ {A : Type 0} (p : A → Bool) where
  onto_more : (x : A) (pieces more : List (List A)) → 0 < length pieces → onto_first x (pieces ++ more) ≡ onto_first x pieces ++ more
  onto_more x [] more some = absurd (omega (arith, some))
  onto_more x (piece ∷ pieces) more some = refl

  -- the pieces before a separator, and those after it
  split_apart : (xs : List A) (y : A) (ys : List A) → p y ≡ true → slice_split p (xs ++ y ∷ ys) ≡ slice_split p xs ++ slice_split p ys
  split_apart [] y ys is = slice_split-cons_yes p y ys is
  split_apart (x ∷ xs) y ys is = at (p x) refl (split_apart xs y ys is)
    where
      at : (b : Bool) → p x ≡ b → slice_split p (xs ++ y ∷ ys) ≡ slice_split p xs ++ slice_split p ys
          → slice_split p (x ∷ xs ++ y ∷ ys) ≡ slice_split p (x ∷ xs) ++ slice_split p ys
      at true passes rest =
          slice_split-cons_yes p x (xs ++ y ∷ ys) passes
          ∙ ap (λ pieces. [] ∷ pieces) rest
          ∙ ap (λ pieces. pieces ++ slice_split p ys) (sym (slice_split-cons_yes p x xs passes))
      at false fails rest =
          slice_split-cons_no p x (xs ++ y ∷ ys) fails
          ∙ ap (onto_first x) rest
          ∙ onto_more x (slice_split p xs) (slice_split p ys) (omega (arith, length-slice_split p xs))
          ∙ ap (λ pieces. pieces ++ slice_split p ys) (sym (slice_split-cons_no p x xs fails))

-- a text with no tab is the last field
last_field : (before text : List ℕ) → All (IsNot tab) text → fields ((before ++ tab ∷ []) ++ text) ≡ fields before ++ text ∷ []
last_field before text none =
    ap fields (append_assoc before (tab ∷ []) text)
    ∙ split_apart (is_separator tab) before tab text refl
    ∙ ap (λ pieces. fields before ++ pieces) (slice_split_none (is_separator tab) text none)

no_text : (before : List ℕ) → fields (before ++ tab ∷ []) ≡ fields before ++ [] ∷ []
no_text before = split_apart (is_separator tab) before tab [] refl

-- ---- what they ask

asks_by : (tag : List ℕ) (found : Option (Task × NumberFormat)) (text : List ℕ) → asked_by tag found text ≡ with_text text (asked_by tag found [])
asks_by tag None text = refl
asks_by tag (Some found) text = refl

asks : (tag : List ℕ) (form : Option _) (grouping : Option GroupingStrategy) (sign : Option SignAsked) (digits : Option _) (text : List ℕ)
    → request_by tag form grouping sign digits text ≡ with_text text (request_by tag form grouping sign digits [])
asks tag None grouping sign digits text = refl
asks tag (Some form) None sign digits text = refl
asks tag (Some form) (Some grouping) None digits text = refl
asks tag (Some form) (Some grouping) (Some sign) None text = refl
asks tag (Some form) (Some grouping) (Some sign) (Some digits) text = asks_by tag (format_asked form grouping sign digits) text

asks_in : (before : List (List ℕ)) (text : List ℕ) → request_in (before ++ text ∷ []) ≡ with_text text (request_in (before ++ [] ∷ []))
asks_in [] text = refl
asks_in (tag ∷ []) text = refl
asks_in (tag ∷ form ∷ []) text = refl
asks_in (tag ∷ form ∷ grouping ∷ []) text = refl
asks_in (tag ∷ form ∷ grouping ∷ sign ∷ []) text = refl
asks_in (tag ∷ form ∷ grouping ∷ sign ∷ rounding ∷ []) text = asks tag _ _ _ _ text
asks_in (tag ∷ form ∷ grouping ∷ sign ∷ rounding ∷ more ∷ []) text = refl
asks_in (tag ∷ form ∷ grouping ∷ sign ∷ rounding ∷ more ∷ most ∷ rest) text = refl

-- ---- where they are UTF-8

-- both sides of a cut after a tab are UTF-8, where the whole is
sides_utf8 : (before text : List ℕ) → IsUtf8 ((before ++ tab ∷ []) ++ text) → IsUtf8 (before ++ tab ∷ []) × IsUtf8 text
sides_utf8 before text utf8 =
    let front : List ℕ = before ++ tab ∷ [] in
    let size : length front ≡ length before + 1 = length-append before (tab ∷ []) in
    let within : length before < length (front ++ text) = omega (arith, size, length-append front text) in
    let is : get_or (front ++ text) (length before) 0 ≡ tab = grind (arith, common_steps) in
    let at : IsCharBoundary (front ++ text) (length before + 1) = IsCharBoundary-after_ascii (front ++ text) (length before) utf8 within (omega (arith, is)) in
    let behind : IsCharBoundary (front ++ text) (length front) = subst (IsCharBoundary (front ++ text)) (sym size) at in (
      subst IsUtf8 (take-append_seam front text) (IsUtf8-take (front ++ text) (length front) utf8 behind),
      subst IsUtf8 (drop-append_seam front text) (IsUtf8-drop (front ++ text) (length front) utf8 behind),
    )

-- before a text that is UTF-8, the line is where its front is
front_utf8 : (before text : List ℕ) → IsUtf8 text → is_utf8 ((before ++ tab ∷ []) ++ text) ≡ is_utf8 (before ++ tab ∷ [])
front_utf8 before text utf8 =
    let front : List ℕ = before ++ tab ∷ [] in
    same_from_decides {P = IsUtf8 front} (is_utf8 (front ++ text)) (is_utf8 front)
    (λ whole. (sides_utf8 before text (IsUtf8-from_is_utf8 (front ++ text) whole)).0, λ fine. is_utf8-from_IsUtf8 (front ++ text) (IsUtf8-append front text fine utf8))
    (IsUtf8-from_is_utf8 front, is_utf8-from_IsUtf8 front)

-- ---- a line

asked_if : (b : Bool) (text : List ℕ) (before : List (List ℕ)) → (if b then request_in (before ++ text ∷ []) else None) ≡ with_text text (if b then request_in (before ++ [] ∷ []) else None)
asked_if true text before = asks_in before text
asked_if false text before = refl

asked_after_tab : (before text : List ℕ) → All (IsNot tab) text → IsUtf8 text → request_of ((before ++ tab ∷ []) ++ text) ≡ with_text text (request_of (before ++ tab ∷ []))
asked_after_tab before text none utf8 =
    ap (λ b. if b then request_in (fields ((before ++ tab ∷ []) ++ text)) else None) (front_utf8 before text utf8)
    ∙ ap (λ pieces. if is_utf8 (before ++ tab ∷ []) then request_in pieces else None) (last_field before text none)
    ∙ asked_if (is_utf8 (before ++ tab ∷ [])) text (fields before)
    ∙ ap (λ pieces. with_text text (if is_utf8 (before ++ tab ∷ []) then request_in pieces else None)) (sym (no_text before))

nothing_if : (b : Bool) (asked : Option Asked) → asked ≡ None → (if b then asked else None) ≡ None
nothing_if true asked none = none
nothing_if false asked none = refl

-- a line with no tab asks nothing
no_tab : (line : List ℕ) → All (IsNot tab) line → request_of line ≡ None
no_tab line none = nothing_if (is_utf8 line) (request_in (fields line)) (ap request_in (slice_split_none (is_separator tab) line none))

nothing_asked : (text : List ℕ) → with_text text (request_of []) ≡ None
nothing_asked text = ap (with_text text) (nothing_if (is_utf8 []) (request_in (fields [])) refl)

module _ (line front text : List ℕ) (cut : IsLastCut tab line front text) where
  -- a line asks what its front does, with its text
  line_asks : IsUtf8 text → request_of line ≡ with_text text (request_of front)
  line_asks utf8 = elim cut.ends [
    | inl none ↦ (let whole : line ≡ text = cut.whole ∙ ap (λ f. f ++ text) none in
        ap request_of whole ∙ no_tab text cut.none ∙ sym (ap (λ f. with_text text (request_of f)) none ∙ nothing_asked text))
    | inr ends ↦ ap request_of (cut.whole ∙ ap (λ f. f ++ text) ends.1) ∙ asked_after_tab ends.0 text cut.none utf8 ∙ sym (ap (λ f. with_text text (request_of f)) ends.1)
  ]

  not_utf8 : (b : Bool) → (b ≡ true → ⊥) → (pieces : List (List ℕ)) → (if b then request_in pieces else None) ≡ None
  not_utf8 true none pieces = absurd (none refl)
  not_utf8 false none pieces = refl

  -- and nothing, where its text is not UTF-8
  line_asks_nothing : (IsUtf8 text → ⊥) → request_of line ≡ None
  line_asks_nothing broken = elim cut.ends [
    | inl none ↦ ap request_of (cut.whole ∙ ap (λ f. f ++ text) none) ∙ no_tab text cut.none
    | inr ends ↦ not_utf8 (is_utf8 line) (λ whole.
        broken (sides_utf8 ends.0 text (subst IsUtf8 (cut.whole ∙ ap (λ f. f ++ text) ends.1) (IsUtf8-from_is_utf8 line whole))).1) (fields line)
  ]

  -- so whether its text is UTF-8 says which
  pub line_asked : request_of line ≡ asked_text text (request_of front)
  line_asked = at (is_utf8 text) refl
    where
      at : (b : Bool) → is_utf8 text ≡ b → request_of line ≡ (if b then with_text text (request_of front) else None)
      at true is = line_asks (IsUtf8-from_is_utf8 text is)
      at false is = line_asks_nothing (λ utf8. false≢true (sym is ∙ is_utf8-from_IsUtf8 text utf8))

-- ---- the answer, and the key

-- a request with another text, and the front that it has
abbrev texted : Asked → List ℕ → Asked
texted asked text = record { tag = asked.tag; task = asked.task; format = asked.format; text = text }

abbrev fronted : Asked → Option FormatterKey → Front
fronted asked key = record { task = asked.task; options = asked.format.options; is_as_it_is = is_as_it_is asked.format; key = key }

abbrev keyed_with : Asked → Option Preferences → Option FormatterKey
keyed_with asked wanted = option_map (key_with asked.task asked.format.shape) wanted

answered_by : (book : BookTables) (asked : Asked) (key : Option FormatterKey) (wanted : Option Preferences) (text : List ℕ)
    → answer_tagged book wanted (texted asked text) ≡ answer_keyed book (fronted asked key) (keyed_with asked wanted) text
answered_by book asked key None text = refl
answered_by book asked key (Some p) text = refl

answered : (book : BookTables) (asked : Option Asked) (text : List ℕ) → answer_asked book (with_text text asked) ≡ answer_front book (front_asked asked) text
answered book None text = refl
answered book (Some asked) text = answered_by book asked (keyed_with asked (wanted_of asked.tag)) (wanted_of asked.tag) text

keyed_by : (asked : Asked) (wanted : Option Preferences) (text : List ℕ) → key_tagged (texted asked text) wanted ≡ key_keyed asked.task (keyed_with asked wanted) text
keyed_by asked None text = refl
keyed_by asked (Some p) text = refl

keyed : (asked : Option Asked) (text : List ℕ) → key_asked (with_text text asked) ≡ key_front (front_asked asked) text
keyed None text = refl
keyed (Some asked) text = keyed_by asked (wanted_of asked.tag) text

module _ (line bytes text : List ℕ) (asks : request_of line ≡ asked_text text (request_of bytes)) where
  -- a line is answered as its text is after its front
  pub answer_of_line : (book : BookTables) → answer_of book line ≡ answer_after book (front_of bytes) text
  answer_of_line book = at (is_utf8 text) asks
    where
      at : (b : Bool) → request_of line ≡ (if b then with_text text (request_of bytes) else None) → answer_of book line ≡ (if b then answer_front book (front_of bytes) text else refused refusal.Shape)
      at true asks = ap (answer_asked book) asks ∙ answered book (request_of bytes) text
      at false asks = ap (answer_asked book) asks

  -- and asks for the same key
  pub key_of_line : key_of line ≡ key_after (front_of bytes) text
  key_of_line = at (is_utf8 text) asks
    where
      at : (b : Bool) → request_of line ≡ (if b then with_text text (request_of bytes) else None) → key_of line ≡ (if b then key_front (front_of bytes) text else None)
      at true asks = ap key_asked asks ∙ keyed (request_of bytes) text
      at false asks = ap key_asked asks

-- what is kept of a request does not go by its text
with_no_text : (asked : Option Asked) → front_asked (with_text [] asked) ≡ front_asked asked
with_no_text None = refl
with_no_text (Some asked) = refl

-- what is made of the parts of a front that was read
pub front_read : (bytes : List ℕ) (asked : Asked) (wanted : Option Preferences) (key : Option FormatterKey) (given : Bool) → with_text [] (request_of bytes) ≡ Some asked
    → wanted ≡ wanted_of asked.tag → key ≡ keyed_with asked wanted → given ≡ is_as_it_is asked.format
    → Some (record { task = asked.task; options = asked.format.options; is_as_it_is = given; key = key }) ≡ front_of bytes
front_read bytes asked wanted key given read prefers made plain =
    ap (λ b. Some (record { task = asked.task; options = asked.format.options; is_as_it_is = b; key = key })) plain
    ∙ ap (λ k. Some (fronted asked k)) (made ∙ ap (keyed_with asked) prefers)
    ∙ sym (ap front_asked read)
    ∙ with_no_text (request_of bytes)

-- what fits a front with its key
abbrev Fits : Front → Type 0
Fits front = IfSome front.key (FitsKey front)

fits_by : (asked : Asked) (key : Option FormatterKey) (wanted : Option Preferences) → IfSome (keyed_with asked wanted) (FitsKey (fronted asked key))
fits_by asked key None = tt
fits_by asked key (Some p) = record { purpose = refl; plain = refl }

fits : (asked : Option Asked) → IfSome (front_asked asked) Fits
fits None = tt
fits (Some asked) = fits_by asked (keyed_with asked (wanted_of asked.tag)) (wanted_of asked.tag)

-- the key of a front that was read is that of its task, and what is known of its format is so
pub fits_front : (front : Option Front) (bytes : List ℕ) → front ≡ front_of bytes → IfSome front Fits
fits_front front bytes is = subst (λ f. IfSome f Fits) (sym is) (fits (request_of bytes))

-- ---- the front that came last

-- what holds of each key holds of a front's
pub of_each : (holds : FormatterKey → Type 0) (front : Option Front) → ((key : FormatterKey) → holds key) → HasKeyThat holds front
of_each holds None each = tt
of_each holds (Some front) each = at front.key
  where
    at : (key : Option FormatterKey) → IfSome key holds
    at None = tt
    at (Some key) = each key

-- before there is one, anything
pub right_of_none : (holds : FormatterKey → Type 0) (latest : Option (Option Front)) → latest ≡ None → IfSome latest (HasKeyThat holds)
right_of_none holds latest none = subst (λ front. IfSome front (HasKeyThat holds)) (sym none) tt

-- what is noted of the front that came last is right for this one, where nothing changed as it was found
pub still_right : (holds : FormatterKey → Type 0) (held same : Bool) (before after : Remembered (Option Front)) (front : Option Front)
    → IfSome before.latest (HasKeyThat (λ key. IsTrue held → holds key)) → (IsTrue same → after ≡ before) → after.latest ≡ Some front
    → HasKeyThat (λ key. IsTrue (held && same) → holds key) front
still_right holds false same before after front of unchanged latest = of_each (λ key. IsTrue false → holds key) front (λ key is. absurd (false≢true is))
still_right holds true false before after front of unchanged latest = of_each (λ key. IsTrue false → holds key) front (λ key is. absurd (false≢true is))
still_right holds true true before after front of unchanged latest =
    subst (λ found. IfSome found (HasKeyThat (λ key. IsTrue true → holds key))) (ap (λ (keys : Remembered (Option Front)). keys.latest) (sym (unchanged refl)) ∙ latest) of
