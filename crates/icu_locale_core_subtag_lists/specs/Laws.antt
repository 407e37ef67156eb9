-- What holds of sets and of private subtags, without a word on how they are searched and read.
-- Defined in docs/tags.md, "Laws".
-- Cited by the functions of the module of laws.
use Rattle.std.specs.Prelude.{◌≡◌, ◌≢◌, not, ◌&&◌, ◌||◌, List, [], ◌++◌}
use Rattle.icu_locale_core_grammar.specs.Subtags.{Text, same_text, is_attribute, is_private_piece}
use Rattle.icu_locale_core_grammar.specs.Pieces.{joined_text}
use Rattle.icu_locale_core_grammar.specs.Collections.{contains_text, Rises, set_of}
use Rattle.icu_locale_core_grammar.specs.NormalText.{private_pieces}
use Rattle.icu_locale_core_grammar.specs.WellFormed.{AreLower}
use Rattle.icu_locale_core_grammar.specs.PartReaders.{ReadsAttributes, ReadsPrivate}
use Rattle.icu_locale_core_subtag_lists.specs.SubtagSets.{remove_text}

pub record RemovalTakesOne : Type 0 where
  pub has : (q t : Text) (ts : List Text) → contains_text q (remove_text t ts) ≡ (contains_text q ts && not (same_text q t))
  pub rises : (t : Text) (ts : List Text) → Rises ts → Rises (remove_text t ts)

pub record JoiningHasBoth : Type 0 where
  pub has : (q : Text) (ts us : List Text) → contains_text q (set_of (ts ++ us)) ≡ (contains_text q ts || contains_text q us)
  pub rises : (ts us : List Text) → Rises (set_of (ts ++ us))

abbrev pub AttributesReadBack : Type 0
AttributesReadBack = (set : List Text) → AreLower is_attribute set → Rises set → ReadsAttributes (joined_text set) set

abbrev pub PrivateReadsBack : Type 0
PrivateReadsBack = (own : List Text) → AreLower is_private_piece own → own ≢ [] → ReadsPrivate (joined_text (private_pieces own)) own
