use Rattle.std.proofs.Common.{◌≡◌, ℕ, List, ◌++◌, drop}
use Rattle.writeable.specs.Order.{order_given}
use Rattle.writeable.proofs.compare_sink.CompareSinkSink.write_str.Given as goal

-- what is left of the text decides as the whole text does
abbrev pub invariant-loop-byte : goal.invariant-loop-byte
invariant-loop-byte l = (more : List ℕ) → order_given l.self.so_far l.self.rest (drop l.byte-index l.text ++ more)
    ≡ order_given l.initial.self.so_far l.initial.self.rest (l.text ++ more)
