-- A line asks what its fields ask: `specs/Laws.antt`.
use Rattle.std.proofs.Common.{◌≡◌, ◌≢◌, ◌==◌, ℕ, false, cond, List, [], ◌∷◌, ◌++◌, None, refl, ap, ◌∙◌, arith, if◌then◌else◌}
use Rattle.std.proofs.lemmas.Bool.{eqb-true, false_from_ne_true}
use Rattle.std.proofs.lemmas.Str.{IsUtf8-append, IsUtf8-from_ascii, IsUtf8-nil, is_utf8-from_IsUtf8}
use Rattle.std.proofs.lemmas.Str.Ascii.{IsAscii-nil, IsAscii-cons}
use Rattle.std.specs.List.{AllByRecursion, onto_first}
use Rattle.std.specs.Str.{IsUtf8, is_utf8}
use Rattle.locale_numbers_book.specs.Book.{BookTables}
use Rattle.locale_numbers_requests.specs.Cutting.{is_separator}
use Rattle.locale_numbers_requests.specs.Request.{fields, request_in, tab}
use Rattle.locale_numbers.specs.Answer.{answer_asked}
use Rattle.locale_numbers.specs.Laws.{HasNoTab, IsField, LinesAskTheirFields, joined_fields}

-- ---- cut again

no_separator : (c : ℕ) → c ≢ tab → is_separator tab c ≡ false
no_separator c other = false_from_ne_true (c == tab) (λ same. other (eqb-true c tab same))

-- a text without tabs is one field
alone : (text : List ℕ) → HasNoTab text → fields text ≡ text ∷ []
alone [] none = refl
alone (c ∷ cs) none =
    ap (λ t. cond t ([] ∷ fields cs) (onto_first c (fields cs))) (no_separator c none.0) ∙ ap (onto_first c) (alone cs none.1)

-- and before a tab it is the first
first_field : (text rest : List ℕ) → HasNoTab text → fields (text ++ tab ∷ rest) ≡ text ∷ fields rest
first_field [] rest none = refl
first_field (c ∷ cs) rest none =
    ap (λ t. cond t ([] ∷ fields (cs ++ tab ∷ rest)) (onto_first c (fields (cs ++ tab ∷ rest)))) (no_separator c none.0)
    ∙ ap (onto_first c) (first_field cs rest none.1)

fields_again : (field : List ℕ) (more : List (List ℕ)) → AllByRecursion IsField (field ∷ more) → fields (joined_fields (field ∷ more)) ≡ field ∷ more
fields_again field [] are = alone field are.0.no_tab
fields_again field (next ∷ more) are =
    first_field field (joined_fields (next ∷ more)) are.0.no_tab ∙ ap (λ list. field ∷ list) (fields_again next more are.1)

-- ---- UTF-8

tab_utf8 : IsUtf8 (tab ∷ [])
tab_utf8 = IsUtf8-from_ascii (tab ∷ []) (IsAscii-cons tab [] (omega arith) IsAscii-nil)

line_utf8 : (field : List ℕ) (more : List (List ℕ)) → AllByRecursion IsField (field ∷ more) → IsUtf8 (joined_fields (field ∷ more))
line_utf8 field [] are = are.0.utf8
line_utf8 field (next ∷ more) are =
    IsUtf8-append field (tab ∷ joined_fields (next ∷ more)) are.0.utf8
    (IsUtf8-append (tab ∷ []) (joined_fields (next ∷ more)) tab_utf8 (line_utf8 next more are.1))

-- ---- the law

asked_by : (book : BookTables) (line : List ℕ) (list : List (List ℕ)) → IsUtf8 line → fields line ≡ list
    → answer_asked book (if is_utf8 line then request_in (fields line) else None) ≡ answer_asked book (request_in list)
asked_by book line list utf8 same =
    ap (λ b. answer_asked book (if b then request_in (fields line) else None)) (is_utf8-from_IsUtf8 line utf8)
    ∙ ap (λ fs. answer_asked book (request_in fs)) same

pub lines_ask : LinesAskTheirFields
lines_ask book [] are = asked_by book [] ([] ∷ []) IsUtf8-nil refl
lines_ask book (field ∷ more) are = asked_by book (joined_fields (field ∷ more)) (field ∷ more) (line_utf8 field more are) (fields_again field more are)
