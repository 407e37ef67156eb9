use Rattle.std.proofs.Common.{length, sym, ap, ◌∙◌}
use Rattle.std.specs.Prelude.{◌==◌}
use Rattle.std.specs.List.{list_all}
use Rattle.icu_locale_core_langid.specs.Spelling.{stands_in}
use Rattle.icu_locale_core_langid.proofs.SpelledSetLemmas.{not_as_many, spelled_by_last, answer_no}
use Rattle.icu_locale_core_langid.proofs.spelling.spell_set.Goals as goal

pub returns-then-not-are_as_many : goal.returns-then-not-are_as_many
returns-then-not-are_as_many c =
    answer_no (not_as_many c.args.pieces.now c.args.set.now c.as_slice-variants.ensures.set
    (sym c.if-not-are_as_many.true ∙ c.are_as_many.ensures ∙ (λ i. length (c.again.ensures i) == length (c.as_slice-variants.ensures.value i))))

pub returns : goal.returns
returns c =
    spelled_by_last c.args.pieces.now c.args.set.now c.are_there.result c.as_slice-variants.ensures.set
    (sym c.if-not-are_as_many.false ∙ c.are_as_many.ensures ∙ (λ i. length (c.again.ensures i) == length (c.as_slice-variants.ensures.value i)))
    (c.are_there.ensures ∙ ap (list_all (stands_in c.args.pieces.now)) c.as_slice-variants.ensures.value)
