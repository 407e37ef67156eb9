use Rattle.std.proofs.Common.{map, ◌++◌, ◌≡◌, ◌∙◌, ap, sym, subst, false}
use Rattle.writeable.specs.Taking.{on_err}
use Rattle.icu_decimal_patterns.specs.KeptEntries.{TypePatterns, entry_in, of_type}
use Rattle.icu_decimal_patterns.specs.KeptSteps.{base_after, base_of, kept_of, repeats}
use Rattle.icu_decimal_patterns.proofs.KeptLemmas.{kept_some, kept_step, kept_whole}
use Rattle.icu_decimal_patterns.proofs.OwnTableLemmas.{kept_table}
use Rattle.icu_decimal_patterns.proofs.compact_patterns.kept.Goals as goal

pub loop-log10_type-preserved : goal.loop-log10_type-preserved
loop-log10_type-preserved c =
    let x : TypePatterns = record { log10_type = c.in-Some.log10_type; exponent = c.in-Some.exponent; patterns = c.in-Some.typed } in
    let base : base_of c.base_after.result ≡ base_after (base_of c.args.zero) c.loop-log10_type.patterns.items = c.base_after.ensures ∙ ap (base_after (base_of c.args.zero)) c.as_slice.ensures.value in
    let fresh : repeats (base_after (base_of c.args.zero) c.loop-log10_type.patterns.items) x.patterns ≡ false = ap (λ b. repeats b x.patterns) (sym base) ∙ sym c.is_repeated_by.ensures ∙ c.if-is_repeated_by.false in
    let step = kept_step (base_of c.args.zero) c.loop-log10_type.entries.items c.loop-log10_type.patterns.items x (map of_type c.next.new.self) _ _ fresh
    (subst (λ ys. (c.loop-log10_type.entries.items ++ map entry_in (kept_of (base_after (base_of c.args.zero) c.loop-log10_type.patterns.items) (map of_type ys)) ≡ map entry_in (kept_of (base_of c.args.zero) (map of_type c.args.given.entries)))
    × (c.loop-log10_type.patterns.items ++ map (λ y. y.patterns) (kept_of (base_after (base_of c.args.zero) c.loop-log10_type.patterns.items) (map of_type ys)) ≡ map (λ y. y.patterns) (kept_of (base_of c.args.zero) (map of_type c.args.given.entries))))
    c.in-Some.ensures.steps c.loop-log10_type.invariant) in
    rw (c.in_ok-push.ensures.items, c.in_ok-push-2.ensures.items) step

pub invariant_of-result : goal.invariant_of-result
invariant_of-result c =
    rw (c.shrink_to_fit.ensures.items, c.shrink_to_fit-2.ensures.items)
    (kept_table (base_of c.args.zero) (map of_type c.args.given.entries) c.loop-log10_type.entries.items c.loop-log10_type.patterns.items
    (kept_whole (base_of c.args.zero) _ (map of_type c.args.given.entries) c.loop-log10_type.log10_type-iterator _ _ c.in-None.ensures.steps.0 c.loop-log10_type.invariant)
    c.requires.order c.requires.rising c.requires.sound)

pub returns-in_err-push-clause-room : goal.returns-in_err-push-clause-room
returns-in_err-push-clause-room c =
    let base : base_of c.base_after.result ≡ base_after (base_of c.args.zero) c.loop-log10_type.patterns.items = c.base_after.ensures ∙ ap (base_after (base_of c.args.zero)) c.as_slice.ensures.value in
    let fresh : repeats (base_after (base_of c.args.zero) c.loop-log10_type.patterns.items) c.in-Some.typed ≡ false = ap (λ b. repeats b c.in-Some.typed) (sym base) ∙ sym c.is_repeated_by.ensures ∙ c.if-is_repeated_by.false in
    on_err _ (kept_some (base_of c.args.zero) _ (map of_type c.args.given.entries) c.loop-log10_type.log10_type-iterator c.next.new.self (c.in-Some.log10_type, (c.in-Some.exponent, c.in-Some.typed)) c.loop-log10_type.entries.items
    c.in-Some.ensures.steps fresh c.loop-log10_type.invariant.0)

pub returns-in_err-push-2-clause-room : goal.returns-in_err-push-2-clause-room
returns-in_err-push-2-clause-room c =
    let base : base_of c.base_after.result ≡ base_after (base_of c.args.zero) c.loop-log10_type.patterns.items = c.base_after.ensures ∙ ap (base_after (base_of c.args.zero)) c.as_slice.ensures.value in
    let fresh : repeats (base_after (base_of c.args.zero) c.loop-log10_type.patterns.items) c.in-Some.typed ≡ false = ap (λ b. repeats b c.in-Some.typed) (sym base) ∙ sym c.is_repeated_by.ensures ∙ c.if-is_repeated_by.false in
    on_err _ (kept_some (base_of c.args.zero) _ (map of_type c.args.given.entries) c.loop-log10_type.log10_type-iterator c.next.new.self (c.in-Some.log10_type, (c.in-Some.exponent, c.in-Some.typed)) c.loop-log10_type.entries.items
    c.in-Some.ensures.steps fresh c.loop-log10_type.invariant.0)
