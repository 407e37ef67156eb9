use Rattle.std.proofs.Common.{subst}
use Rattle.locale_numbers_formatter.specs.TypedPlain.{MayAllocateInTurn}
use Rattle.locale_numbers_formatter.proofs.LenientLemmas.{both_allocate, one_allocates}
use Rattle.locale_numbers_formatter.proofs.plain_readers_in_turn.PlainReadersInTurn.read.Goals as goal

pub returns-in-Some-clause-memory : goal.returns-in-Some-clause-memory
returns-in-Some-clause-memory c = λ ran_out.
    subst (λ tables. MayAllocateInTurn tables c.args.text.now) c.self.view_is
    (both_allocate c.self.inside.first c.self.inside.second c.in-Some.second c.args.text.now c.in-Some.is (c.read_typed_or.ensures.memory ran_out))

pub returns-in-None-clause-memory : goal.returns-in-None-clause-memory
returns-in-None-clause-memory c = λ ran_out.
    subst (λ tables. MayAllocateInTurn tables c.args.text.now) c.self.view_is
    (one_allocates c.self.inside.first c.self.inside.second c.args.text.now c.in-None.is (c.read_typed.ensures.memory ran_out))
