use Rattle.std.proofs.Common.{◌≡◌, ◌++◌, Some, subst}
use Rattle.std.proofs.lemmas.Bool.Decides.{Decides-eqb}
use Rattle.std.proofs.lemmas.Slice.Eq.{strip_prefix_is}
use Rattle.writeable.specs.Order.{Comparison, order_given}
use Rattle.writeable.proofs.OrderLemmas.{alike_goes_on}
use Rattle.writeable.proofs.compare_sink.CompareSink.take_alike.Goals as goal

pub returns-in-Some-clause-alike : goal.returns-in-Some-clause-alike
returns-in-Some-clause-alike c = λ _ more.
    subst (λ (s : Comparison). order_given c.self.inside.so_far c.in-Some.rest.now more ≡ order_given s.so_far s.rest (c.args.piece.now ++ more)) c.self.view_is
    (alike_goes_on c.self.inside.so_far c.args.piece.now c.self.inside.rest.now c.in-Some.rest.now more
    (strip_prefix_is Decides-eqb c.self.inside.rest.now c.args.piece.now (Some c.in-Some.rest) c.in-Some.ensures.cases))
