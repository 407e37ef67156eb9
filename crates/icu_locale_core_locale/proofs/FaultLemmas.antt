-- Where a reader of tags finds a fault of the grammar, it does not answer out of memory.
use Rattle.std.proofs.Common.{List, Err, IsErrOf}
use Rattle.icu_locale_core_grammar.specs.declared.error.ParseError.{ParseError}
use Rattle.icu_locale_core_grammar.specs.declared.error.ParseError.TheVariants.{InvalidLanguage, InvalidSubtag, InvalidExtension, DuplicatedExtension, Memory}
use Rattle.icu_locale_core_grammar.specs.Subtags.{Text}
use Rattle.icu_locale_core_grammar.specs.FaultyPiece.{first_piece, HasFault}
use Rattle.icu_locale_core_grammar.specs.Meaning.{MeansTag}
use Rattle.icu_locale_core_grammar.proofs.FaultNames.{by_case}

-- a fault of the grammar is not out of memory
pub never_memory : {T : Type 0} (ps : List Text) (e : ParseError) → HasFault MeansTag ps e → IsErrOf {T = T} (Err e) Memory → ⊥
never_memory ps InvalidLanguage fault is = cc
never_memory ps InvalidSubtag fault is = cc
never_memory ps InvalidExtension fault is = cc
never_memory ps DuplicatedExtension fault is = cc
never_memory ps Memory fault is = absurd (by_case MeansTag Memory fault.front (first_piece fault.rest) fault.named)
