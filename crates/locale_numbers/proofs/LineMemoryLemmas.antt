-- What the front of a request asks, and what its answer takes memory for: `specs/LineMemory.antt`.
use Rattle.std.proofs.Common.{◌≡◌, ◌++◌, ◌+◌, ◌-◌, [], ℕ, Bool, true, false, List, Option, None, Some, length, length-append, refl, sym, ap, ◌∙◌, subst, arith, if◌then◌else◌}
use Rattle.std.proofs.Math.Seq.{take-append_seam}
use Rattle.std.specs.Prelude.{take}
use Rattle.std.specs.Str.{is_utf8}
use Rattle.fixed_decimal.specs.Number.{Number}
use Rattle.fixed_decimal.specs.SignedValue.{SignedValue}
use Rattle.icu_locale_core.specs.Pieces.{pieces}
use Rattle.icu_locale_core.specs.TagAllocation.{tag_may_grow}
use Rattle.locale_numbers_book.specs.Book.{BookTables}
use Rattle.locale_numbers_requests.specs.Request.{Asked, request_of, with_text}
use Rattle.locale_numbers.specs.Front.{HasKeyThat, MayTakeAfter, asked_text, front_asked, front_of}
use Rattle.locale_numbers.specs.KeptFormatters.{Kept}
use Rattle.locale_numbers.specs.LineMemory.{MayTakeTag, front_before}
use Rattle.locale_numbers.specs.declared.formatter_key.FormatterKey.{FormatterKey}
use Rattle.locale_numbers.specs.declared.front.Front.{Front}

-- what a front that was read says of memory is what its tag does
pub tag_taken : (o : Option Asked) (read : Asked) → with_text [] o ≡ Some read → tag_may_grow (pieces read.tag) ≡ true → MayTakeTag o
tag_taken None read is grows = absurd (cc)
tag_taken (Some asked) read is grows =
    let one : ◌≡◌ {A = Asked} (record { tag = asked.tag; task = asked.task; format = asked.format; text = [] }) read = cc in
    subst (λ (a : Asked). tag_may_grow (pieces a.tag) ≡ true) (sym one) grows

-- a front and a text are those of a request
pub record IsFrontOf (front text : List ℕ) (asked : Asked) : Type 0 where
  pub fronts : front_of front ≡ front_asked (Some asked)
  pub texts : text ≡ asked.text
  pub tags : MayTakeTag (request_of front) → MayTakeTag (Some asked)

record IsOf (o : Option Asked) (text : List ℕ) (asked : Asked) : Type 0 where
  fronts : front_asked o ≡ front_asked (Some asked)
  texts : text ≡ asked.text
  tags : MayTakeTag o → MayTakeTag (Some asked)

of_by : (b : Bool) (o : Option Asked) (text : List ℕ) (asked : Asked) → (if b then with_text text o else None) ≡ Some asked → IsOf o text asked
of_by true (Some a) text asked is =
    let one : ◌≡◌ {A = Asked} (record { tag = a.tag; task = a.task; format = a.format; text = text }) asked = cc in
    subst (λ (x : Asked). IsOf (Some a) text x) one (record { fronts = refl; texts = refl; tags = λ grows. grows })
of_by true None text asked is = absurd (cc)
of_by false o text asked is = absurd (cc)

pub front_of_request : (line front text : List ℕ) (asked : Asked) → request_of line ≡ asked_text text (request_of front) → request_of line ≡ Some asked → IsFrontOf front text asked
front_of_request line front text asked asks is =
    let all = of_by (is_utf8 text) (request_of front) text asked (sym asks ∙ is) in
    record { fronts = all.fronts; texts = all.texts; tags = all.tags }

-- its bytes are those before the text
pub front_is_before : (line front text : List ℕ) (asked : Asked) → line ≡ front ++ text → text ≡ asked.text → front_before line asked.text ≡ front
front_is_before line front text asked whole same =
    let size : length (front ++ text) ≡ length front + length text = length-append front text in
    let left : length (front ++ text) - length text ≡ length front = omega (arith, size) in
    ap (λ t. front_before line t) (sym same)
    ∙ ap (λ l. front_before l text) whole
    ∙ ap (λ n. take n (front ++ text)) left
    ∙ take-append_seam front text

-- what is known of a request holds of the front that was read of it
pub formatter_after : (takes : FormatterKey → Type 0) (read : Option Front) (front text : List ℕ) (asked : Asked) → read ≡ front_of front → IsFrontOf front text asked
    → HasKeyThat (λ key. ¬ (takes key)) (front_asked (Some asked)) → HasKeyThat (λ key. ¬ (takes key)) read
formatter_after takes read front text asked is whole quiet = subst (HasKeyThat (λ key. ¬ (takes key))) (sym (is ∙ whole.fronts)) quiet

pub text_after : (book : BookTables) (kept_for : FormatterKey → Option Kept) (before : SignedValue Number) (read : Option Front) (front text : List ℕ) (asked : Asked) → read ≡ front_of front → IsFrontOf front text asked
    → ¬ (MayTakeAfter book kept_for (front_asked (Some asked)) asked.text before) → ¬ (MayTakeAfter book kept_for read text before)
text_after book kept_for before read front text asked is whole none = λ wants.
    none (subst (λ t. MayTakeAfter book kept_for (front_asked (Some asked)) t before) whole.texts (subst (λ f. MayTakeAfter book kept_for f text before) (is ∙ whole.fronts) wants))
