use Rattle.std.proofs.Common.{◌≡◌, ◌-◌, length, map, take, Some, cond, eqb, insert, option_map, ◌∙◌, refl, sym, ap, subst}
use Rattle.std.proofs.lemmas.List.{map_push, length-map}
use Rattle.std.proofs.lemmas.Option.{slice_get-map}
use Rattle.std.specs.List.{slice_get}
use Rattle.writeable.specs.HeldParts.{HeldParts}
use Rattle.writeable.specs.ListedParts.{interval_of, open_interval}
use Rattle.writeable.specs.PartName.{name_of}
use Rattle.writeable.proofs.HeldLemmas.{holds_closing, holds_stray}
use Rattle.writeable.proofs.ListedPartsLemmas.{holds_same, refused_closing, split_last, no_last, map_listed}
use Rattle.writeable.proofs.parts_sink.PartsSinkSink.close_part.Goals as goal

-- no part is open
pub returns-in_default-clause-ok : goal.returns-in_default-clause-ok
returns-in_default-clause-ok c = λ before is.
    let missing = sym c.last.ensures.value ∙ sym c.copied.ensures ∙ c.in_default.is in
    let none = ap (map open_interval) (sym c.deref.ensures.value ∙ no_last c.deref.result.now missing) in
    holds_stray _ before is (sym (ap (λ (s : HeldParts). s.held.open_parts) c.self.view_is) ∙ none)

-- the last open part is closed
pub returns-in-Ok-clause-ok : goal.returns-in-Ok-clause-ok
returns-in-Ok-clause-ok c = λ before is.
    let inside = c.self.inside in
    let items = inside.open_parts.items in
    let last = c.in-Some.last in
    let found = subst (λ xs. slice_get xs (length xs - 1) ≡ Some last) c.deref.ensures.value
    (sym c.last.ensures.value ∙ sym c.copied.ensures ∙ c.in-Some.is) in
    let front = take (length items - 1) items in
    let split = ap (map open_interval) (split_last items last found) ∙ map_push open_interval front last in
    let listed = ap (map interval_of) c.in-Ok.ensures.ok
    ∙ map_listed interval_of (eqb last.start c.len.result) inside.parts.items last.place (last.start, c.len.result, last.part)
    ∙ ap (λ end. cond (eqb last.start end) (map interval_of inside.parts.items)
    (insert (map interval_of inside.parts.items) last.place (record { start = last.start; end = end; part = name_of last.part })))
    (c.len.ensures ∙ inside.text.bytes.ok.0) in
    let left = ap (map open_interval) (c.pop.ensures.rest ∙ ap (λ n. take (n - 1) items) inside.open_parts.ok.0) in
    holds_closing _ _ before (map open_interval front) (open_interval last) (ap (λ (s : HeldParts). s.held) c.self.view_is ∙ is) split refl listed left

-- nothing changed
pub returns-in-Err-clause-begun : goal.returns-in-Err-clause-begun
returns-in-Err-clause-begun c =
    let inside = c.self.inside in
    let items = inside.open_parts.items in
    let last = c.in-Some.last in
    let found = subst (λ xs. slice_get xs (length xs - 1) ≡ Some last) c.deref.ensures.value
    (sym c.last.ensures.value ∙ sym c.copied.ensures ∙ c.in-Some.is) in
    let shown = subst (λ n. slice_get (map open_interval items) (n - 1) ≡ Some (open_interval last)) (sym (length-map items open_interval))
    (slice_get-map open_interval items (length items - 1) ∙ ap (option_map open_interval) found) in
    let ends = c.len.ensures ∙ inside.text.bytes.ok.0 in
    refused_closing _ _ (open_interval last) (λ before is.
    holds_same _ _ before (ap (λ (s : HeldParts). s.held) c.self.view_is ∙ is) refl (ap (map interval_of) c.in-Err.ensures.err) refl)
    shown (λ same. c.in-Err.ensures.room (same ∙ sym ends))
