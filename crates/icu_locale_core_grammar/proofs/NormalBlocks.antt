-- The blocks of extensions in normal form: each is a block, their singletons rise, and together they mean the extensions.
use Rattle.std.proofs.Common.{◌≡◌, Bool, true, false, List, [], ◌∷◌, ◌++◌, Option, None, Some, take, drop, fold, sym, refl, ap, ◌∙◌, subst, take-append-drop}
use Rattle.std.specs.List.{AllByRecursion}
use Rattle.icu_locale_core_grammar.specs.Subtags.{Text, transform_text, unicode_text}
use Rattle.icu_locale_core_grammar.specs.Collections.{Entry, put_first, map_of}
use Rattle.icu_locale_core_grammar.specs.LanguagePart.{LanguageId}
use Rattle.icu_locale_core_grammar.specs.Extensions.{Block, block_key}
use Rattle.icu_locale_core_grammar.specs.Meaning.{UnicodeMeaning, TransformMeaning, Part, unicode, transform, other, MeansPart, ExtensionMeanings, no_unicode, no_transform, no_extensions, put_part, IsExtension}
use Rattle.icu_locale_core_grammar.specs.NormalText.{inner_pieces, entry_pieces, unicode_pieces, transform_pieces, one_block, unicode_block, transform_block, other_block, other_blocks, before_transform, blocks_of}
use Rattle.icu_locale_core_grammar.specs.WellFormed.{IsNormalOther, AreNormalExtensions}
use Rattle.icu_locale_core_grammar.proofs.ListLemmas.{fold-append, each-append, each_front, each_rest}
use Rattle.icu_locale_core_grammar.proofs.MapLemmas.{put_entry, map_of_rising}
use Rattle.icu_locale_core_grammar.proofs.WholeMeaning.{blocks_meaning}
use Rattle.icu_locale_core_grammar.proofs.NormalBodies.{unicode_means, transform_means, other_means}

-- ---- one block

one_block_is : (s : Text) (ps : List Text) (v : Part) → MeansPart s ps v → AllByRecursion IsExtension (one_block s ps v)
one_block_is s [] v a = tt
one_block_is s (p ∷ ps) v a = (record { meant = a; filled = λ e. cc }, tt)

others_are : (os : List Entry) → AllByRecursion IsNormalOther os → AllByRecursion IsExtension (other_blocks os)
others_are [] each = tt
others_are (o ∷ os) each =
    each-append IsExtension (other_block o) (other_blocks os) (one_block_is o.0 o.1 (other o.1) (each.0.singleton.is, other_means o.1 each.0.pieces)) (others_are os each.1)

pub blocks_are : (e : ExtensionMeanings) → AreNormalExtensions e → AllByRecursion IsExtension (blocks_of e)
blocks_are e n =
    let at = before_transform e.others in
    let split : take at e.others ++ drop at e.others ≡ e.others = take-append-drop at e.others in
    let whole : AllByRecursion IsNormalOther (take at e.others ++ drop at e.others) = subst (AllByRecursion IsNormalOther) (sym split) n.others.each in
    each-append IsExtension (other_blocks (take at e.others)) _ (others_are (take at e.others) (each_front IsNormalOther (take at e.others) (drop at e.others) whole))
    (each-append IsExtension (transform_block e.transform) _ (one_block_is transform_text (transform_pieces e.transform) (transform e.transform) (refl, transform_means e.transform n.transform))
    (each-append IsExtension (unicode_block e.unicode) _ (one_block_is unicode_text (unicode_pieces e.unicode) (unicode e.unicode) (refl, unicode_means e.unicode n.unicode))
    (others_are (drop at e.others) (each_rest IsNormalOther (take at e.others) (drop at e.others) whole))))

-- ---- what the blocks mean together

-- no piece is there exactly where nothing is meant
nothing_inner : (id : Option LanguageId) (rest : List Text) → inner_pieces id ++ rest ≡ [] → (id ≡ None) × (rest ≡ [])
nothing_inner None rest e = (refl, e)
nothing_inner (Some id) rest e = cc

nothing_entries : (needs : Bool) (es : List Entry) → entry_pieces needs es ≡ [] → es ≡ []
nothing_entries needs [] e = refl
nothing_entries needs (f ∷ fs) e = cc

nothing_before : (front rest : List Text) → front ++ rest ≡ [] → (front ≡ []) × (rest ≡ [])
nothing_before [] rest e = (refl, e)
nothing_before (p ∷ ps) rest e = cc

no_transform_pieces : (t : TransformMeaning) → transform_pieces t ≡ [] → t ≡ no_transform
no_transform_pieces t e =
    let f = nothing_inner t.head (entry_pieces true t.entries) e in
    let g = nothing_entries true t.entries f.1 in
    λ i. record { head = f.0 i; entries = g i }

no_unicode_pieces : (u : UnicodeMeaning) → unicode_pieces u ≡ [] → u ≡ no_unicode
no_unicode_pieces u e =
    let f = nothing_before u.head (entry_pieces false u.entries) e in
    let g = nothing_entries false u.entries f.1 in
    λ i. record { head = f.0 i; entries = g i }

abbrev together : ExtensionMeanings → List (Block Part) → ExtensionMeanings
together = blocks_meaning put_part

together-append : (e : ExtensionMeanings) (xs ys : List (Block Part)) → together e (xs ++ ys) ≡ together (together e xs) ys
together-append e xs ys = fold-append (λ x b. put_part (block_key b) b.value x) e xs ys

abbrev exts_of : UnicodeMeaning → TransformMeaning → List Entry → ExtensionMeanings
exts_of u t os = record { unicode = u; transform = t; others = os }

transform_together : (u : UnicodeMeaning) (t : TransformMeaning) (os : List Entry) → together (exts_of u no_transform os) (transform_block t) ≡ exts_of u t os
transform_together u t os = by_pieces (transform_pieces t) refl
  where
    by_pieces : (ps : List Text) → transform_pieces t ≡ ps → together (exts_of u no_transform os) (one_block transform_text ps (transform t)) ≡ exts_of u t os
    by_pieces [] e = ap (λ x. exts_of u x os) (sym (no_transform_pieces t e))
    by_pieces (p ∷ ps) e = refl

unicode_together : (u : UnicodeMeaning) (t : TransformMeaning) (os : List Entry) → together (exts_of no_unicode t os) (unicode_block u) ≡ exts_of u t os
unicode_together u t os = by_pieces (unicode_pieces u) refl
  where
    by_pieces : (ps : List Text) → unicode_pieces u ≡ ps → together (exts_of no_unicode t os) (one_block unicode_text ps (unicode u)) ≡ exts_of u t os
    by_pieces [] e = ap (λ x. exts_of x t os) (sym (no_unicode_pieces u e))
    by_pieces (p ∷ ps) e = refl

others_together : (u : UnicodeMeaning) (t : TransformMeaning) (before os : List Entry) → AllByRecursion IsNormalOther os → together (exts_of u t before) (other_blocks os) ≡ exts_of u t (fold put_entry before os)
others_together u t before [] each = refl
others_together u t before (o ∷ os) each =
    together-append (exts_of u t before) (other_block o) (other_blocks os) ∙ ap (λ e. together e (other_blocks os)) (one o.1 refl) ∙ others_together u t (put_first o before) os each.1
  where
    one : (ps : List Text) → o.1 ≡ ps → together (exts_of u t before) (one_block o.0 ps (other o.1)) ≡ exts_of u t (put_first o before)
    one [] e = absurd (each.0.filled e)
    one (p ∷ ps) e = ap (λ s. exts_of u t (put_first (s, o.1) before)) each.0.singleton.same

pub blocks_mean : (e : ExtensionMeanings) → AreNormalExtensions e → together no_extensions (blocks_of e) ≡ e
blocks_mean e n =
    let at = before_transform e.others in
    let split : take at e.others ++ drop at e.others ≡ e.others = take-append-drop at e.others in
    let whole : AllByRecursion IsNormalOther (take at e.others ++ drop at e.others) = subst (AllByRecursion IsNormalOther) (sym split) n.others.each in
    let before = fold put_entry [] (take at e.others) in
    together-append no_extensions (other_blocks (take at e.others)) _
    ∙ ap (λ x. together x (transform_block e.transform ++ (unicode_block e.unicode ++ other_blocks (drop at e.others)))) (others_together no_unicode no_transform [] (take at e.others) (each_front IsNormalOther (take at e.others) (drop at e.others) whole))
    ∙ together-append (exts_of no_unicode no_transform before) (transform_block e.transform) _
    ∙ ap (λ x. together x (unicode_block e.unicode ++ other_blocks (drop at e.others))) (transform_together no_unicode e.transform before)
    ∙ together-append (exts_of no_unicode e.transform before) (unicode_block e.unicode) _
    ∙ ap (λ x. together x (other_blocks (drop at e.others))) (unicode_together e.unicode e.transform before)
    ∙ others_together e.unicode e.transform before (drop at e.others) (each_rest IsNormalOther (take at e.others) (drop at e.others) whole)
    ∙ ap (exts_of e.unicode e.transform) (sym (fold-append put_entry [] (take at e.others) (drop at e.others)) ∙ ap map_of split ∙ map_of_rising e.others n.others.rises)
