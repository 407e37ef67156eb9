use Rattle.std.proofs.Common.{flat_map}
use Rattle.writeable.specs.AnnotatedText.{bytes}
use Rattle.writeable.specs.Taking.{IsWriting}
use Rattle.legumeyet_c_values.specs.Facts.{spaced}
use Rattle.legumeyet_c_values.proofs.fact_texts.write_others.Given as goal

abbrev pub invariant-category : goal.invariant-category
invariant-category g l = record {
  next : (goal.iterator-category g).can_next l.left;
  finite : (goal.iterator-category g).is_finite l.left;
  writing : IsWriting g.S.Sink.takes g.S.Sink.refused l.initial.sink (bytes (flat_map spaced l.fn.categories)) l.sink (bytes (flat_map spaced l.left));
}
