use Rattle.std.proofs.Common.{sym, ap, ◌∙◌}
use Rattle.icu_locale_core_grammar.specs.Meaning.{no_extensions}
use Rattle.icu_locale_core_grammar.specs.TagStages.{stage_behind}
use Rattle.icu_locale_core_extensions.specs.ExtensionsValue.{ExtensionsValue}
use Rattle.icu_locale_core_locale.specs.StageView.{singletons}
use Rattle.icu_locale_core_locale.proofs.StageLemmas.{language_goes_on}
use Rattle.icu_locale_core_locale.proofs.parser.stage.after_identifier.Goals as goal

pub returns-in-Some : goal.returns-in-Some
returns-in-Some c = λ none.
    language_goes_on c.args.id c.args.piece.now _ none
    (ap (λ seen. stage_behind c.args.id (singletons seen) no_extensions c.args.piece.now) (sym c.new.ensures)
    ∙ ap (λ (e : ExtensionsValue). stage_behind c.args.id (singletons c.new.result) e.blocks c.args.piece.now) (sym c.new-2.ensures)
    ∙ c.in-Some.ensures)
