use Rattle.icu_locale_core_grammar.proofs.FaultyPieceLemmas as Faults
use Rattle.icu_locale_core_grammar.proofs.Runs as Runs
use Rattle.icu_locale_core_grammar.proofs.NormalTags.{read_again}
use Rattle.icu_locale_core_grammar.proofs.TagReader.{tag_reader}
use Rattle.icu_locale_core_grammar.specs.Pieces.{pieces}
use Rattle.icu_locale_core_grammar.specs.NormalText.{normal_text}
use Rattle.icu_locale_core_locale.proofs.laws.locales_read_back.Goals as goal

pub returns : goal.returns
returns c = λ text m read.
    let again = read_again (pieces text) m read in
    record {
      means = again;
      alone = λ n other. Runs.one_meaning tag_reader (pieces (normal_text m)) n m other again;
      accepted = λ e refused. Faults.never_both (pieces (normal_text m)) m e again refused;
    }
