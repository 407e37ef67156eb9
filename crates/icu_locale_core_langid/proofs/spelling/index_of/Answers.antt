use Rattle.std.proofs.Common.{◌≡◌, false, MatchOption, subst}
use Rattle.icu_locale_core_grammar.specs.Collections.{contains_text}
use Rattle.icu_locale_core_langid.specs.Spelling.{IsAt}
use Rattle.icu_locale_core_langid.proofs.SeenLemmas.{found_at, none_there}
use Rattle.icu_locale_core_langid.proofs.spelling.index_of.Goals as goal

pub returns-in-Ok : goal.returns-in-Ok
returns-in-Ok c =
    subst (λ t. MatchOption c.ok.result (contains_text t c.args.variants.now ≡ false) (IsAt t c.args.variants.now)) c.in-Ok.ensures.1
    (rw c.ok.ensures.value (found_at c.in-Ok.variant c.args.variants.now c.binary_search.result c.requires.rises c.binary_search.ensures.bound c.binary_search.ensures.position))

pub returns-in-Err : goal.returns-in-Err
returns-in-Err c = none_there c.args.piece.now c.args.variants.now c.requires.each c.in-Err.ensures.0
