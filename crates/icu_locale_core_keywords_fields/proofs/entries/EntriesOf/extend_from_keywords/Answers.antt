use Rattle.std.proofs.Common.{◌≡◌, sym, ap, ◌∙◌, subst, arith}
use Rattle.std.specs.List.{count_by}
use Rattle.icu_locale_core_grammar.specs.Collections.{Rises, keys_of}
use Rattle.icu_locale_core_keywords_fields.specs.EntryChanges.{is_new}
use Rattle.icu_locale_core_keywords_fields.proofs.RisingLemmas.{Rises-joined}
use Rattle.icu_locale_core_keywords_fields.proofs.JoinLemmas.{joined_there, set_to_joined}
use Rattle.icu_locale_core_keywords_fields.proofs.NewKeyLemmas.{has_all, none_new, in_turn_at_most}
use Rattle.icu_locale_core_keywords_fields.proofs.entries.EntriesOf.extend_from_keywords.Goals as goal

pub returns-then-count_new-eq0-clause-ok : goal.returns-then-count_new-eq0-clause-ok
returns-then-count_new-eq0-clause-ok g c =
    let none : count_by (is_new c.args.other) c.args.self.now ≡ 0 =
    ap (count_by (is_new c.args.other)) (sym c.as_slice.ensures.value) ∙ sym c.count_new.ensures ∙ c.if-count_new-eq0.true in
    c.other.view_is ∙ joined_there c.args.other c.args.self.now (subst (λ l. Rises (keys_of l)) c.other.view_is c.other.invariant) (has_all c.args.other c.args.self.now none)

pub returns-in_err-reserve-clause-there : goal.returns-in_err-reserve-clause-there
returns-in_err-reserve-clause-there g c = λ all.
    let none : c.count_new-more.result ≡ 0 =
    c.count_new-more.ensures ∙ ap (count_by (is_new c.args.self.now)) c.as_slice-2.ensures.value ∙ none_new c.args.self.now c.args.other all in
    absurd (omega (arith, none, c.in_err-reserve.ensures.full, c.self.inside.entries.ok.1))

pub returns-in_err-reserve-clause-within : goal.returns-in_err-reserve-clause-within
returns-in_err-reserve-clause-within g c = λ all.
    let none : c.count_new.result ≡ 0 = c.count_new.ensures ∙ ap (count_by (is_new c.args.other)) c.as_slice.ensures.value ∙ none_new c.args.other c.args.self.now all in
    absurd (omega (arith, none, c.if-count_new-eq0.false))

pub set_all-requires-clause-room : goal.set_all-requires-clause-room
set_all-requires-clause-room g c =
    let es = c.reserve.new.self.items in
    let same : es ≡ c.args.self.now = c.reserve.ensures.items ∙ c.self.view_is in
    let wanted : c.count_new-more.result ≡ count_by (is_new es) c.other.inside.entries.items =
    c.count_new-more.ensures ∙ ap (count_by (is_new c.args.self.now)) (c.as_slice-2.ensures.value ∙ sym c.other.view_is)
    ∙ ap (λ m. count_by (is_new m) c.other.inside.entries.items) (sym same) in
    let rises : Rises (keys_of es) = subst (λ l. Rises (keys_of l)) (sym c.reserve.ensures.items) c.self.invariant in
    omega (arith, wanted, in_turn_at_most es c.other.inside.entries.items rises, c.in_ok-reserve.ensures.ok, c.reserve.new.self.ok.0)

pub invariant_of-self-2 : goal.invariant_of-self-2
invariant_of-self-2 g c =
    let first : Rises (keys_of c.args.other) = subst (λ l. Rises (keys_of l)) c.other.view_is c.other.invariant in
    let second : Rises (keys_of c.args.self.now) = subst (λ l. Rises (keys_of l)) c.self.view_is c.self.invariant in
    subst (λ l. Rises (keys_of l)) (sym (set_to_joined _ _ _ _ _ c.other.view_is (c.reserve.ensures.items ∙ c.self.view_is) first second c.set_all.ensures)) (Rises-joined c.args.other c.args.self.now)

pub returns-clause-ok : goal.returns-clause-ok
returns-clause-ok g c =
    let first : Rises (keys_of c.args.other) = subst (λ l. Rises (keys_of l)) c.other.view_is c.other.invariant in
    let second : Rises (keys_of c.args.self.now) = subst (λ l. Rises (keys_of l)) c.self.view_is c.self.invariant in
    set_to_joined _ _ _ _ _ c.other.view_is (c.reserve.ensures.items ∙ c.self.view_is) first second c.set_all.ensures
