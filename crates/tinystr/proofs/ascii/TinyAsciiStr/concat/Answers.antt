use Rattle.std.proofs.Common.{◌≡◌, ℕ, ◌+◌, ◌-◌, ◌≤◌, ◌++◌, List, length, take, drop, min, arith, rules, ap, sym, ◌∙◌}
use Rattle.std.proofs.lemmas.List.{length-take}
use Rattle.tinystr.specs.SmallText.{IsForm, IsSmall, padded}
use Rattle.tinystr.proofs.SmallTextLemmas.{IsForm-of, text_of-of, put_gives_form, IsSmall-append, list_all-take, take-joined}
use Rattle.tinystr.proofs.ascii.TinyAsciiStr.concat.Goals as goal

-- what is written after the front is what fits of the other text
record Joined (q : ℕ) (one other bytes : List ℕ) : Type 0 where
  small : IsSmall q (take q (one ++ other))
  form : bytes ≡ padded q (take q (one ++ other))

joined : (q used : ℕ) (one other front bytes start : List ℕ) (m : ℕ) → front ≡ take q one → used ≡ length front
    → start ≡ padded q front → IsSmall q front → IsSmall m other
    → bytes ≡ take used start ++ (take (min (length other) (q - used)) other ++ drop (used + length (take (min (length other) (q - used)) other)) start)
    → Joined q one other bytes
joined q used one other front bytes start m is_front is_used is_start small rest written =
    let room = q - length front in
    let second = take (min (length other) (q - length front)) other in
    let fits : length front + length second ≤ q = omega (arith, length-take (min (length other) (q - length front)) other, small.short) in
    let here : bytes ≡ take (length front) (padded q front) ++ (second ++ drop (length front + length second) (padded q front)) =
    rw (is_used, is_start) at written in
    let text : take q (one ++ other) ≡ front ++ second = rw (← is_front) at (take-joined q one other) in
    record {
      small = rw text (IsSmall-append q front second fits small.ascii (list_all-take (min (length other) (q - length front)) other rest.ascii));
      form = put_gives_form q front second bytes fits here ∙ ap (padded q) (sym text);
    }

pub from_utf8_unchecked-requires : goal.from_utf8_unchecked-requires
from_utf8_unchecked-requires g c =
    let all = joined g.row.Q c.len-used.result c.args.self c.args.other c.resize-front.result c.put_at.new.bytes c.all_bytes.result.now g.row.M
    c.resize-front.ensures c.len-used.ensures.value c.all_bytes.ensures.value c.all_bytes.ensures.small
    (rw (← c.as_utf8-rest.ensures.value) c.as_utf8-rest.ensures.small)
    (rw (← c.as_utf8-rest.ensures.value, ← c.min.ensures) c.put_at.ensures) in
    let form : IsForm g.row.Q c.put_at.new.bytes = IsForm-of g.row.Q _ c.put_at.new.bytes all.small all.form in
    search rules

pub returns : goal.returns
returns g c =
    let all = joined g.row.Q c.len-used.result c.args.self c.args.other c.resize-front.result c.put_at.new.bytes c.all_bytes.result.now g.row.M
    c.resize-front.ensures c.len-used.ensures.value c.all_bytes.ensures.value c.all_bytes.ensures.small
    (rw (← c.as_utf8-rest.ensures.value) c.as_utf8-rest.ensures.small)
    (rw (← c.as_utf8-rest.ensures.value, ← c.min.ensures) c.put_at.ensures) in
    c.from_utf8_unchecked.ensures ∙ text_of-of g.row.Q _ c.put_at.new.bytes all.small all.form
