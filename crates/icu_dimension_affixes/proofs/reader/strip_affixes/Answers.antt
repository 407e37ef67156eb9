use Rattle.std.proofs.Common.{◌≢◌, ◌++◌, ◌∙◌, ℕ, List, IfNone, ap, string_bytes, subst}
use Rattle.icu_dimension_affixes.proofs.ReaderLemmas.{strip_none}
use Rattle.icu_dimension_affixes.proofs.reader.strip_affixes.Goals as goal

pub returns-in-Some-clause-none : goal.returns-in-Some-clause-none
returns-in-Some-clause-none c =
    let rest = c.in-Some.rest.now in
    strip_none c.strip_after.result c.args.text.now rest (string_bytes c.args.affixes.now.before) (string_bytes c.args.affixes.now.after)
    (c.in-Some.ensures.some ∙ ap (λ before. before ++ rest) c.as_str.ensures.value)
    (subst (λ after. IfNone c.strip_after.result ((front : List ℕ) → rest ≢ front ++ after)) c.as_str-in-Some.ensures.value c.strip_after.ensures.none)
