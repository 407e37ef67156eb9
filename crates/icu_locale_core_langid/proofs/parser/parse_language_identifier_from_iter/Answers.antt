use Rattle.std.proofs.Common.{inr, sym, ◌∙◌}
use Rattle.icu_locale_core_langid.proofs.StoppingLemmas.{stopped, read_in_mode, refused_in_mode, none_in_mode}
use Rattle.icu_locale_core_langid.proofs.parser.parse_language_identifier_from_iter.Goals as goal

pub returns-then-not-leaves-clause-fault : goal.returns-then-not-leaves-clause-fault
returns-then-not-leaves-clause-fault c =
    inr (refused_in_mode c.args.mode c.args.iter.now c.in-Some.id c.in-Ok.rest (stopped c.again.result c.args.iter.now c.in-Ok.stage _ c.in-Ok.rest c.again.ensures c.in-Some.is c.in-Ok.ensures.stops) (sym c.leaves.ensures ∙ c.if-not-leaves.true))

pub returns-in-None-clause-fault : goal.returns-in-None-clause-fault
returns-in-None-clause-fault c =
    inr (none_in_mode c.args.mode c.args.iter.now c.in-Ok.rest (stopped c.again.result c.args.iter.now c.in-Ok.stage _ c.in-Ok.rest c.again.ensures c.in-None.is c.in-Ok.ensures.stops))

pub returns-else-not-leaves-clause-value : goal.returns-else-not-leaves-clause-value
returns-else-not-leaves-clause-value c =
    rw c.settled.ensures
    (read_in_mode c.args.mode c.args.iter.now c.in-Some.id c.in-Ok.rest (stopped c.again.result c.args.iter.now c.in-Ok.stage _ c.in-Ok.rest c.again.ensures c.in-Some.is c.in-Ok.ensures.stops) (sym c.leaves.ensures ∙ c.if-not-leaves.false))
