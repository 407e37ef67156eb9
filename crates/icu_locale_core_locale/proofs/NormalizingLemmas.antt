-- A text means a given locale exactly where it reads as an equal one.
use Rattle.std.proofs.Common.{◌≡◌, Bool, false, List, sym, ◌∙◌, subst}
use Rattle.std.specs.Prelude.{IsTrue, ◌↔◌}
use Rattle.std.proofs.lemmas.Bool.{false≢true}
use Rattle.icu_locale_core_grammar.proofs.FaultyPieceLemmas as Faults
use Rattle.icu_locale_core_grammar.proofs.Runs as Runs
use Rattle.icu_locale_core_grammar.proofs.TagReader.{tag_reader}
use Rattle.icu_locale_core_grammar.specs.declared.error.ParseError.{ParseError}
use Rattle.icu_locale_core_grammar.specs.Subtags.{Text}
use Rattle.icu_locale_core_grammar.specs.Meaning.{TagMeaning, MeansTag}
use Rattle.icu_locale_core_grammar.specs.FaultyPiece.{HasFault}
use Rattle.icu_locale_core_locale.specs.SameLocale.{same_locale}
use Rattle.icu_locale_core_locale.specs.SameLocaleLaws.{locale_decides}

pub same_is_meant : (ps : List Text) (read held : TagMeaning) (same : Bool) → MeansTag ps read → same ≡ same_locale read held → IsTrue same ↔ MeansTag ps held
same_is_meant ps read held same means is =
    ((λ yes. subst (MeansTag ps) ((locale_decides read held).0 (sym is ∙ yes)) means), (λ meant. is ∙ (locale_decides read held).1 (Runs.one_meaning tag_reader ps read held means meant)))

pub fault_means_none : (ps : List Text) (held : TagMeaning) (e : ParseError) → HasFault MeansTag ps e → IsTrue false ↔ MeansTag ps held
fault_means_none ps held e refused = ((λ yes. absurd (false≢true yes)), (λ meant. absurd (Faults.never_both ps held e meant refused)))
