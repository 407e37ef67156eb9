use Rattle.std.proofs.Common.{◌≡◌, true, false, Some, subst}
use Rattle.icu_locale_core_grammar.specs.TagStages.{language_after}
use Rattle.icu_locale_core_langid.specs.Allocation.{grows_at}
use Rattle.icu_locale_core_langid.specs.LanguageStep.{PutsPiece}
use Rattle.icu_locale_core_langid.proofs.AllocationLemmas.{no_growth}
use Rattle.icu_locale_core_langid.proofs.SteppingLemmas.{one_more_after}
use Rattle.icu_locale_core_langid.proofs.parser.put_pieces.Goals as goal

pub loop-piece-preserved : goal.loop-piece-preserved
loop-piece-preserved c =
    let piece = c.in-Some.piece.now in
    let put = subst (PutsPiece c.loop-piece.id piece c.put_piece.new.id) c.if-not-branch.false c.in_ok-put_piece.ensures.step in
    one_more_after c.args.id.now c.loop-piece.id c.put_piece.new.id c.args.from c.loop-piece.rest c.in-Some.behind piece c.loop-piece.invariant c.in-Some.ensures put

pub returns-in_err-put_piece-clause-room : goal.returns-in_err-put_piece-clause-room
returns-in_err-put_piece-clause-room c = λ none.
    let took = c.loop-piece.invariant in
    let failed : false ≡ true =
    c.in_err-put_piece.ensures.room
    (no_growth language_after grows_at (λ m. false) (Some c.args.id.now) (Some c.loop-piece.id) c.args.from took.0 c.loop-piece.rest c.in-Some.behind c.in-Some.piece.now took.1 c.in-Some.ensures took.2 none) in
    cc
