use Rattle.std.proofs.Common.{◌≡◌, ◌≤◌, ◌++◌, length, arith, subst}
use Rattle.std.proofs.lemmas.List.{drop_all}
use Rattle.writeable.specs.Order.{Comparison, order_given}
use Rattle.writeable.proofs.AnnotatedTextLemmas.{text_of_bytes}
use Rattle.writeable.proofs.compare_sink.CompareSinkSink.write_str.Goals as goal

-- nothing is left of the text
pub returns-clause-ok : goal.returns-clause-ok
returns-clause-ok c = λ more.
    let ended : length c.args.text.now ≤ c.loop-byte.byte-index = omega arith in
    let decides = rw (drop_all c.loop-byte.byte-index c.args.text.now ended) at (c.loop-byte.invariant more) in
    rw (text_of_bytes c.args.text.now)
    (subst (λ (s : Comparison). order_given c.loop-byte.self.so_far c.loop-byte.self.rest more ≡ order_given s.so_far s.rest (c.args.text.now ++ more)) (c.take_alike.ensures.other c.if-take_alike.false) decides)
