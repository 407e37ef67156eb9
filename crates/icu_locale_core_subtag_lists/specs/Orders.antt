-- The laws of comparing lists of texts, text by text in byte order.
-- Defined in docs/tags.md, "Sets and maps".
-- Cited by `PartialOrd` and `Hash` of sets, private subtags and values of keywords and fields, whose laws it proves.
use Rattle.std.specs.Prelude.{◌≡◌, true, List, Some, refl}
use Rattle.std.proofs.Common.{ap, subst}
use Rattle.std.specs.Cmp.{IsPartialOrder, Agrees}
use Rattle.std.specs.Cmp.Lexicographic.{pointwise, slice_cmp, slice_partial_cmp, lists_po, lists_agrees, texts_po, pointwise_decides, bytes_decides}
use Rattle.std.specs.Hash as fed
use Rattle.icu_locale_core_grammar.specs.Subtags.{Text, same_text}
use Rattle.icu_locale_core_grammar.specs.Collections.{text_cmp}

pub lists_of_texts_po : IsPartialOrder (pointwise same_text) (λ ts us. Some (slice_cmp text_cmp ts us))
lists_of_texts_po =
    let o = lists_po texts_po in
    let a : Agrees (slice_partial_cmp (λ t u. Some (text_cmp t u))) (slice_cmp text_cmp) = lists_agrees (λ t u. refl) in
    subst (IsPartialOrder (pointwise same_text)) (λ i ts us. a ts us i) o

-- lists that compare as equal are fed to a hasher alike
pub lists_fed_alike : (ts us : List Text) → pointwise same_text ts us ≡ true → fed.slice fed.str ts ≡ fed.slice fed.str us
lists_fed_alike ts us e = ap (fed.slice fed.str) ((pointwise_decides bytes_decides ts us).0 e)
