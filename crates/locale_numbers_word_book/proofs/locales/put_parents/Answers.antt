use Rattle.std.proofs.Common.{◌-◌, ◌+◌, sym, ◌∙◌, arith}
use Rattle.locale_numbers_word_book.specs.WordLocales.{is_no_root}
use Rattle.locale_numbers_word_book.proofs.WordLocaleLemmas.{ended, stepped}
use Rattle.locale_numbers_word_book.proofs.locales.put_parents.Goals as goal

pub returns-in-None : goal.returns-in-None
returns-in-None g c =
    let limit = g.P.ParentProvider.limit c.args.provider.now in
    ended is_no_root (g.P.ParentProvider.next c.args.provider.now) (limit - c.loop-turn._turn) (limit - (c.loop-turn._turn + 1)) c.loop-turn.current _
    (omega arith) (sym c.parent.ensures ∙ c.in-None.is)
    ∙ c.loop-turn.invariant

pub loop-turn-preserved : goal.loop-turn-preserved
loop-turn-preserved g c =
    let limit = g.P.ParentProvider.limit c.args.provider.now in
    stepped is_no_root (g.P.ParentProvider.next c.args.provider.now) (limit - c.loop-turn._turn) (limit - (c.loop-turn._turn + 1)) c.loop-turn.current c.in-Some.parent _ _
    (omega arith) (sym c.parent.ensures ∙ c.in-Some.is) c.in_ok-put_known-in-Some.ensures
    ∙ c.loop-turn.invariant
