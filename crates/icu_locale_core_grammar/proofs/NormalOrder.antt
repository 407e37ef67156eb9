-- The singletons of the blocks of extensions in normal form rise.
use Rattle.std.proofs.Common.{◌≡◌, ◌+◌, ℕ, Bool, true, false, not, List, [], ◌∷◌, ◌++◌, map, take, drop, cond, length, sym, refl, ap, ◌∙◌, subst, one-add, append_assoc, take-append-drop, arith}
use Rattle.std.specs.List.{AllByRecursion}
use Rattle.std.specs.List.Sorted.{IsStrictlySortedBy}
use Rattle.std.specs.Ordering.{is_lt}
use Rattle.std.specs.declared.cmp.Ordering.{Ordering}
use Rattle.std.specs.declared.cmp.Ordering.TheVariants.{Less, Equal, Greater}
use Rattle.std.proofs.lemmas.List.{map-append}
use Rattle.std.proofs.lemmas.Bool.Decides.{nat_tests}
use Rattle.icu_locale_core_grammar.specs.Subtags.{Text, is_transform, is_unicode, same_text, lower, transform_text, unicode_text}
use Rattle.icu_locale_core_grammar.specs.Collections.{text_cmp, Entry, Rises, keys_of}
use Rattle.icu_locale_core_grammar.specs.Extensions.{block_key}
use Rattle.icu_locale_core_grammar.specs.Meaning.{Part, ExtensionMeanings, unicode, transform, other}
use Rattle.icu_locale_core_grammar.specs.NormalText.{unicode_pieces, transform_pieces, one_block, unicode_block, transform_block, other_block, other_blocks, before_transform, blocks_of}
use Rattle.icu_locale_core_grammar.specs.WellFormed.{IsNormalOther, AreNormalExtensions}
use Rattle.icu_locale_core_grammar.proofs.ListLemmas.{each-append, each_front, each_rest, each_weaker}
use Rattle.icu_locale_core_grammar.proofs.SetLemmas.{cmp_equal, cmp_below, cmp_through}
use Rattle.icu_locale_core_grammar.proofs.SingletonLemmas.{other_is_none}
use Rattle.icu_locale_core_grammar.proofs.SubtagLemmas.{singleton_single, single_length}

-- ---- lists that rise

abbrev below : Text → Text → Type 0
below bound t = text_cmp t bound ≡ Less

abbrev above : Text → Text → Type 0
above bound t = text_cmp bound t ≡ Less

-- one text less
rises_without : (xs : List Text) (y : Text) (ys : List Text) → Rises (xs ++ y ∷ ys) → Rises (xs ++ ys)
unfolding IsStrictlySortedBy
rises_without [] y ys rises = rises.1
rises_without (x ∷ xs) y ys rises =
    (each-append (above x) xs ys (each_front (above x) xs (y ∷ ys) rises.0) (each_rest (above x) xs (y ∷ ys) rises.0).1, rises_without xs y ys rises.1)

-- a list after texts that are below its first
rises_after : (xs : List Text) (y : Text) (ys : List Text) → Rises xs → AllByRecursion (below y) xs → Rises (y ∷ ys) → Rises (xs ++ y ∷ ys)
unfolding IsStrictlySortedBy
rises_after [] y ys rises each behind = behind
rises_after (x ∷ xs) y ys rises each behind =
    (each-append (above x) xs (y ∷ ys) rises.0 (each.0, each_weaker (above y) (above x) (λ z f. cmp_through x y z each.0 f) ys behind.0), rises_after xs y ys rises.1 each.1 behind)

rises_front : (xs ys : List Text) → Rises (xs ++ ys) → Rises xs
unfolding IsStrictlySortedBy
rises_front [] ys rises = tt
rises_front (x ∷ xs) ys rises = (each_front (above x) xs ys rises.0, rises_front xs ys rises.1)

rises_rest : (xs ys : List Text) → Rises (xs ++ ys) → Rises ys
unfolding IsStrictlySortedBy
rises_rest [] ys rises = rises
rises_rest (x ∷ xs) ys rises = rises_rest xs ys rises.1

rises_begun : (x : Text) (xs : List Text) → AllByRecursion (above x) xs → Rises xs → Rises (x ∷ xs)
unfolding IsStrictlySortedBy
rises_begun x xs each rises = (each, rises)

rises_head : (x : Text) (xs : List Text) → Rises (x ∷ xs) → AllByRecursion (above x) xs
unfolding IsStrictlySortedBy
rises_head x xs rises = rises.0

rises_tail : (x : Text) (xs : List Text) → Rises (x ∷ xs) → Rises xs
unfolding IsStrictlySortedBy
rises_tail x xs rises = rises.1

-- ---- the other singletons before and after `t` and `u`

-- another singleton that is not above `t` is below it
other_below : (o : Entry) → IsNormalOther o → is_lt (text_cmp transform_text o.0) ≡ false → below transform_text o.0
other_below o n e = by_order (text_cmp transform_text o.0) refl e
  where
    by_order : (r : Ordering) → text_cmp transform_text o.0 ≡ r → is_lt r ≡ false → below transform_text o.0
    by_order Less f e = cc
    by_order Equal f e =
        let same : transform_text ≡ o.0 = cmp_equal transform_text o.0 f in
        let yes : is_transform o.0 ≡ true = ap is_transform (sym same) in
        let others = (other_is_none o.0 n.singleton.is).2 in cc
    by_order Greater f e = cmp_below transform_text o.0 f

one_above : (c : ℕ) → text_cmp transform_text (c ∷ []) ≡ Less → same_text unicode_text (c ∷ []) ≡ false → text_cmp unicode_text (c ∷ []) ≡ Less
one_above c e f = grind (arith, nat_tests)

-- and one that is above `t` is above `u`
other_above : (o : Entry) → IsNormalOther o → is_lt (text_cmp transform_text o.0) ≡ true → above unicode_text o.0
other_above o n e = by_text o.0 n.singleton.same (single_length o.0 (singleton_single o.0 (other_is_none o.0 n.singleton.is).0)) (other_is_none o.0 n.singleton.is).1 (by_order (text_cmp transform_text o.0) refl e)
  where
    by_order : (r : Ordering) → text_cmp transform_text o.0 ≡ r → is_lt r ≡ true → text_cmp transform_text o.0 ≡ Less
    by_order Less f e = f
    by_order Equal f e = cc
    by_order Greater f e = cc

    by_text : (s : Text) → lower s ≡ s → length s ≡ 1 → is_unicode s ≡ false → text_cmp transform_text s ≡ Less → above unicode_text s
    by_text [] same one apart less = cc
    by_text (c ∷ []) same one apart less = one_above c less (sym (ap (same_text unicode_text) same) ∙ apart)
    by_text (c ∷ d ∷ rest) same one apart less = absurd (omega arith)

record IsParted (os : List Entry) (at : ℕ) : Type 0 where
  before : AllByRecursion (below transform_text) (keys_of (take at os))
  behind : AllByRecursion (above unicode_text) (keys_of (drop at os))

parted : (os : List Entry) → AllByRecursion IsNormalOther os → Rises (keys_of os) → IsParted os (before_transform os)
parted [] each rises = record { before = tt; behind = tt }
parted (o ∷ os) each rises = by_test (is_lt (text_cmp transform_text o.0)) refl (parted os each.1 (rises_tail o.0 (keys_of os) rises))
  where
    by_test : (b : Bool) → is_lt (text_cmp transform_text o.0) ≡ b → IsParted os (before_transform os) → IsParted (o ∷ os) (cond (not b) (1 + before_transform os) 0)
    by_test true e more =
        let here = other_above o each.0 e in
        record { before = tt; behind = (here, each_weaker (above o.0) (above unicode_text) (λ s f. cmp_through unicode_text o.0 s here f) (keys_of os) (rises_head o.0 (keys_of os) rises)) }
    by_test false e more =
        subst (IsParted (o ∷ os)) (sym (one-add (before_transform os))) (record { before = (other_below o each.0 e, more.before); behind = more.behind })

-- ---- the blocks

others_keys : (os : List Entry) → AllByRecursion IsNormalOther os → map block_key (other_blocks os) ≡ keys_of os
others_keys [] each = refl
others_keys (o ∷ os) each = map-append block_key (other_block o) (other_blocks os) ∙ one o.1 refl (others_keys os each.1)
  where
    one : (ps : List Text) → o.1 ≡ ps → map block_key (other_blocks os) ≡ keys_of os → map block_key (one_block o.0 ps (other o.1)) ++ map block_key (other_blocks os) ≡ o.0 ∷ keys_of os
    one [] e more = absurd (each.0.filled e)
    one (p ∷ ps) e more = λ i. each.0.singleton.same i ∷ more i

-- a block that may be left out
rises_with_block : (s : Text) (ps : List Text) (v : Part) (xs ys : List Text) → Rises (xs ++ lower s ∷ ys) → Rises (xs ++ (map block_key (one_block s ps v) ++ ys))
rises_with_block s [] v xs ys rises = rises_without xs (lower s) ys rises
rises_with_block s (p ∷ ps) v xs ys rises = rises

pub blocks_rise : (e : ExtensionMeanings) → AreNormalExtensions e → Rises (map block_key (blocks_of e))
blocks_rise e n =
    let at = before_transform e.others in
    let front = take at e.others in
    let rest = drop at e.others in
    let split : front ++ rest ≡ e.others = take-append-drop at e.others in
    let whole : AllByRecursion IsNormalOther (front ++ rest) = subst (AllByRecursion IsNormalOther) (sym split) n.others.each in
    let keys : keys_of front ++ keys_of rest ≡ keys_of e.others = sym (map-append (λ o. o.0) front rest) ∙ ap keys_of split in
    let rises : Rises (keys_of front ++ keys_of rest) = subst Rises (sym keys) n.others.rises in
    let p = parted e.others n.others.each n.others.rises in
    let behind : Rises (unicode_text ∷ keys_of rest) = rises_begun unicode_text (keys_of rest) p.behind (rises_rest (keys_of front) (keys_of rest) rises) in
    let middle : Rises (transform_text ∷ unicode_text ∷ keys_of rest) =
    rises_begun transform_text (unicode_text ∷ keys_of rest) (refl, each_weaker (above unicode_text) (above transform_text) (λ s f. cmp_through transform_text unicode_text s refl f) (keys_of rest) p.behind) behind in
    let all : Rises (keys_of front ++ transform_text ∷ unicode_text ∷ keys_of rest) = rises_after (keys_of front) transform_text (unicode_text ∷ keys_of rest) (rises_front (keys_of front) (keys_of rest) rises) p.before middle in
    let less : Rises ((keys_of front ++ transform_text ∷ []) ++ (map block_key (unicode_block e.unicode) ++ keys_of rest)) =
    rises_with_block unicode_text (unicode_pieces e.unicode) (unicode e.unicode) (keys_of front ++ transform_text ∷ []) (keys_of rest)
    (subst Rises (sym (append_assoc (keys_of front) (transform_text ∷ []) (unicode_text ∷ keys_of rest))) all) in
    let least : Rises (keys_of front ++ (map block_key (transform_block e.transform) ++ (map block_key (unicode_block e.unicode) ++ keys_of rest))) =
    rises_with_block transform_text (transform_pieces e.transform) (transform e.transform) (keys_of front) (map block_key (unicode_block e.unicode) ++ keys_of rest)
    (subst Rises (append_assoc (keys_of front) (transform_text ∷ []) (map block_key (unicode_block e.unicode) ++ keys_of rest)) less) in
    let spelled : map block_key (blocks_of e) ≡ keys_of front ++ (map block_key (transform_block e.transform) ++ (map block_key (unicode_block e.unicode) ++ keys_of rest)) =
    map-append block_key (other_blocks front) (transform_block e.transform ++ (unicode_block e.unicode ++ other_blocks rest))
    ∙ ap (λ l. l ++ map block_key (transform_block e.transform ++ (unicode_block e.unicode ++ other_blocks rest))) (others_keys front (each_front IsNormalOther front rest whole))
    ∙ ap (λ l. keys_of front ++ l) (map-append block_key (transform_block e.transform) (unicode_block e.unicode ++ other_blocks rest)
    ∙ ap (λ l. map block_key (transform_block e.transform) ++ l) (map-append block_key (unicode_block e.unicode) (other_blocks rest)
    ∙ ap (λ l. map block_key (unicode_block e.unicode) ++ l) (others_keys rest (each_rest IsNormalOther front rest whole)))) in
    subst Rises (sym spelled) least
