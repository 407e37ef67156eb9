use Rattle.std.proofs.Common.{◌≡◌, length}
use Rattle.std.specs.List.{list_all}
use Rattle.icu_locale_core_langid.specs.Spelling.{IsVariantSet, stands_in}
use Rattle.icu_locale_core_langid.proofs.spelling.are_there.Given as goal

abbrev pub invariant-loop-rest : goal.invariant-loop-rest
invariant-loop-rest l = record {
  set : IsVariantSet l.rest;
  same : list_all (stands_in l.pieces) l.rest ≡ list_all (stands_in l.pieces) l.variants;
}

abbrev pub decreases-loop-rest : goal.decreases-loop-rest
decreases-loop-rest l = length l.rest
