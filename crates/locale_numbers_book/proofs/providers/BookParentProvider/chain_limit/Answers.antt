use Rattle.std.proofs.Common.{List, Option, sym, ap, ◌∙◌, subst}
use Rattle.icu_locale_core.specs.TagPreferences.{DataLocaleMeaning}
use Rattle.icu_decimal_chains.specs.Chains.{Follows, walk}
use Rattle.locale_numbers_parents.specs.Parents.{Entry}
use Rattle.locale_numbers_book.specs.Book.{BookTables}
use Rattle.locale_numbers_book.specs.Tables.{step_in}
use Rattle.locale_numbers_book.proofs.providers.BookParentProvider.chain_limit.Goals as goal

pub returns-in-Some-clause-cuts_none : goal.returns-in-Some-clause-cuts_none
returns-in-Some-clause-cuts_none c =
    let held = sym (ap (λ (b : BookTables). b.parents) c.self.view_is) ∙ c.in-Some.is in
    subst (λ (o : Option (List Entry)). (l : DataLocaleMeaning) → Follows (step_in o) l (walk (step_in o) c.chain_limit.result l)) (sym held) c.chain_limit.ensures.cuts_none
