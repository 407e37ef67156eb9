use Rattle.std.proofs.Common.{◌+◌, ◌*◌, ◌-◌, length, sym, ◌∙◌, arith}
use Rattle.std.specs.Str.Lines.{lines}
use Rattle.icu_locale_core.specs.DataText.{data_text}
use Rattle.locale_numbers_book.specs.SelectedText.{listed, step_by}
use Rattle.locale_numbers_book.proofs.ChainLemmas.{mapped_ended, mapped_further, picked_ended, picked_further}
use Rattle.locale_numbers_book.proofs.texts.chain.put_chain.Goals as goal

pub returns-in-None-clause-names : goal.returns-in-None-clause-names
returns-in-None-clause-names c =
    mapped_ended data_text (step_by (lines c.args.parents.now)) (5 * length (lines c.args.parents.now) + 4 - c.loop-turn._turn) (5 * length (lines c.args.parents.now) + 4 - (c.loop-turn._turn + 1)) c.loop-turn.current _ _
    (omega arith) (sym c.in_ok-next.ensures.next ∙ c.in-None.is) c.in_ok-next.ensures.names
    ∙ c.loop-turn.invariant.names

pub returns-in-None-clause-entries : goal.returns-in-None-clause-entries
returns-in-None-clause-entries c =
    picked_ended (listed (lines c.args.parents.now)) (step_by (lines c.args.parents.now)) (5 * length (lines c.args.parents.now) + 4 - c.loop-turn._turn) (5 * length (lines c.args.parents.now) + 4 - (c.loop-turn._turn + 1)) c.loop-turn.current _ _
    (omega arith) (sym c.in_ok-next.ensures.next ∙ c.in-None.is) c.in_ok-next.ensures.entries
    ∙ c.loop-turn.invariant.entries

pub loop-turn-preserved : goal.loop-turn-preserved
loop-turn-preserved c =
    record {
      names = mapped_further data_text (step_by (lines c.args.parents.now)) (5 * length (lines c.args.parents.now) + 4 - c.loop-turn._turn) (5 * length (lines c.args.parents.now) + 4 - (c.loop-turn._turn + 1)) c.loop-turn.current c.in-Some.next _ _ (omega arith) (sym c.in_ok-next.ensures.next ∙ c.in-Some.is) c.in_ok-next.ensures.names
          ∙ c.loop-turn.invariant.names;
      entries = picked_further (listed (lines c.args.parents.now)) (step_by (lines c.args.parents.now)) (5 * length (lines c.args.parents.now) + 4 - c.loop-turn._turn) (5 * length (lines c.args.parents.now) + 4 - (c.loop-turn._turn + 1)) c.loop-turn.current c.in-Some.next _ _ (omega arith) (sym c.in_ok-next.ensures.next ∙ c.in-Some.is) c.in_ok-next.ensures.entries
          ∙ c.loop-turn.invariant.entries;
    }
