-- The normal pieces of a meaning in normal form have that meaning, so its normal text read again is the meaning.
use Rattle.std.proofs.Common.{◌≡◌, List, map, sym, refl, ap, ◌∙◌, subst}
use Rattle.icu_locale_core_grammar.specs.Subtags.{Text}
use Rattle.icu_locale_core_grammar.specs.Pieces.{pieces}
use Rattle.icu_locale_core_grammar.specs.Extensions.{block_key}
use Rattle.icu_locale_core_grammar.specs.Meaning.{TagMeaning, MeansTag}
use Rattle.icu_locale_core_grammar.specs.NormalText.{language_pieces, blocks_of, private_pieces, normal, normal_text}
use Rattle.icu_locale_core_grammar.specs.WellFormed.{IsNormalTag}
use Rattle.icu_locale_core_grammar.proofs.Runs as Runs
use Rattle.icu_locale_core_grammar.proofs.TagReader.{tag_reader}
use Rattle.icu_locale_core_grammar.proofs.PlainPieces.{tag_plain, pieces-joined}
use Rattle.icu_locale_core_grammar.proofs.MeaningsAreNormal.{meaning_normal}
use Rattle.icu_locale_core_grammar.proofs.NormalBodies.{apart_from_rising, language_means, private_means}
use Rattle.icu_locale_core_grammar.proofs.NormalBlocks.{blocks_are, blocks_mean}
use Rattle.icu_locale_core_grammar.proofs.NormalOrder.{blocks_rise}

pub normal_means : (m : TagMeaning) → IsNormalTag m → MeansTag (normal m) m
normal_means m n = record {
  front = language_pieces m.language;
  blocks = blocks_of m.extensions;
  last = private_pieces m.private_use;
  parts = refl;
  meant = language_means m.language n.language;
  each = blocks_are m.extensions n.extensions;
  apart = apart_from_rising (map block_key (blocks_of m.extensions)) (blocks_rise m.extensions n.extensions);
  together = blocks_mean m.extensions n.extensions;
  private = private_means m.private_use n.private_use;
}

-- the text of the normal pieces, cut again
pub normal_again : (m : TagMeaning) → MeansTag (normal m) m → pieces (normal_text m) ≡ normal m
normal_again m a = pieces-joined m.language.language _ (tag_plain (normal m) m a)

pub read_again : (ps : List Text) (m : TagMeaning) → MeansTag ps m → MeansTag (pieces (normal_text m)) m
read_again ps m a =
    let b = normal_means m (meaning_normal ps m a) in
    subst (λ l. MeansTag l m) (sym (normal_again m b)) b

-- meanings in normal form with one text are one
pub one_text : (m n : TagMeaning) → IsNormalTag m → IsNormalTag n → normal_text m ≡ normal_text n → m ≡ n
one_text m n a b e =
    let x = normal_means m a in
    let y = normal_means n b in
    let same : normal m ≡ normal n = sym (normal_again m x) ∙ ap pieces e ∙ normal_again n y in
    Runs.one_meaning tag_reader (normal n) m n (subst (λ l. MeansTag l m) same x) y
