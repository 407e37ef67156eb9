-- The orders of values are total, and equal are equal values alone.
use Rattle.std.proofs.Common.{◌≡◌, None, Some, refl, ap, subst}
use Rattle.std.specs.Option.{option_cmp}
use Rattle.std.specs.Cmp.{IsTotalOrder, on_total, then_total}
use Rattle.std.specs.Cmp.Lexicographic.{lists_total, options_total, nat_list_cmp_total}
use Rattle.std.specs.FinMap.{IsAntisymmetric, nat_cmp-IsAntisymmetric, slice_cmp-IsAntisymmetric}
use Rattle.std.specs.Ordering.{ordering_then}
use Rattle.std.specs.declared.cmp.Ordering.{Ordering}
use Rattle.std.specs.declared.cmp.Ordering.TheVariants.{Less, Equal, Greater}
use Rattle.std.proofs.lemmas.Cmp.{tied_itself}
use Rattle.icu_locale_core_grammar.specs.Collections.{text_cmp}
use Rattle.icu_locale_core_grammar.specs.TagOrder.{texts_cmp, optional_cmp, entry_cmp, entries_cmp, language_cmp, unicode_cmp, transform_cmp, tag_cmp, subdivision_cmp, data_locale_cmp}
use Rattle.icu_locale_core_grammar.specs.OrderLaws.{IsOrder}

-- ---- putting orders together

-- both tie where one after the other does
pub tie_first : (a b : Ordering) → ordering_then a b ≡ Equal → a ≡ Equal
tie_first Less b e = e
tie_first Equal b e = refl
tie_first Greater b e = e

pub tie_second : (a b : Ordering) → ordering_then a b ≡ Equal → b ≡ Equal
tie_second Less b e = cc
tie_second Equal b e = e
tie_second Greater b e = cc

pub is_order : {K : Type 0} {R : K → K → Ordering} → IsTotalOrder R → IsAntisymmetric R → IsOrder R
is_order {K} {R} total same = record { total = total; apart = λ x y. (same x y, λ e. subst (λ z. R x z ≡ Equal) e (tied_itself total x)) }

-- equal are equal options alone
options_same : {K : Type 0} {R : K → K → Ordering} → IsAntisymmetric R → IsAntisymmetric (option_cmp R)
options_same same None None e = refl
options_same same None (Some y) e = cc
options_same same (Some x) None e = cc
options_same same (Some x) (Some y) e = ap Some (same x y e)

-- ---- texts and entries

text_total : IsTotalOrder text_cmp
text_total = nat_list_cmp_total

text_same : IsAntisymmetric text_cmp
text_same = slice_cmp-IsAntisymmetric nat_cmp-IsAntisymmetric

texts_total : IsTotalOrder texts_cmp
texts_total = lists_total text_total

texts_same : IsAntisymmetric texts_cmp
texts_same = slice_cmp-IsAntisymmetric text_same

entry_total : IsTotalOrder entry_cmp
entry_total = then_total (on_total (λ e. e.0) text_total) (on_total (λ e. e.1) texts_total)

entry_same : IsAntisymmetric entry_cmp
entry_same x y e =
    let key = text_same x.0 y.0 (tie_first (text_cmp x.0 y.0) (texts_cmp x.1 y.1) e) in
    let value = texts_same x.1 y.1 (tie_second (text_cmp x.0 y.0) (texts_cmp x.1 y.1) e) in
    λ i. (key i, value i)

entries_total : IsTotalOrder entries_cmp
entries_total = lists_total entry_total

entries_same : IsAntisymmetric entries_cmp
entries_same = slice_cmp-IsAntisymmetric entry_same

-- ---- the parts of a tag

language_total : IsTotalOrder language_cmp
language_total =
    then_total (on_total (λ id. id.language) text_total)
    (then_total (on_total (λ id. id.script) (options_total text_total))
    (then_total (on_total (λ id. id.region) (options_total text_total)) (on_total (λ id. id.variants) texts_total)))

language_same : IsAntisymmetric language_cmp
language_same x y e =
    let r = text_cmp x.language y.language in
    let s = optional_cmp x.script y.script in
    let t = optional_cmp x.region y.region in
    let u = texts_cmp x.variants y.variants in
    let later = tie_second r (ordering_then s (ordering_then t u)) e in
    let last = tie_second s (ordering_then t u) later in
    let language = text_same x.language y.language (tie_first r (ordering_then s (ordering_then t u)) e) in
    let script = options_same text_same x.script y.script (tie_first s (ordering_then t u) later) in
    let region = options_same text_same x.region y.region (tie_first t u last) in
    let variants = texts_same x.variants y.variants (tie_second t u last) in
    λ i. record { language = language i; script = script i; region = region i; variants = variants i }

unicode_total : IsTotalOrder unicode_cmp
unicode_total = then_total (on_total (λ u. u.head) texts_total) (on_total (λ u. u.entries) entries_total)

unicode_same : IsAntisymmetric unicode_cmp
unicode_same x y e =
    let head = texts_same x.head y.head (tie_first (texts_cmp x.head y.head) (entries_cmp x.entries y.entries) e) in
    let entries = entries_same x.entries y.entries (tie_second (texts_cmp x.head y.head) (entries_cmp x.entries y.entries) e) in
    λ i. record { head = head i; entries = entries i }

transform_total : IsTotalOrder transform_cmp
transform_total = then_total (on_total (λ t. t.head) (options_total language_total)) (on_total (λ t. t.entries) entries_total)

transform_same : IsAntisymmetric transform_cmp
transform_same x y e =
    let r = option_cmp language_cmp x.head y.head in
    let s = entries_cmp x.entries y.entries in
    let head = options_same language_same x.head y.head (tie_first r s e) in
    let entries = entries_same x.entries y.entries (tie_second r s e) in
    λ i. record { head = head i; entries = entries i }

-- ---- whole values

tag_total : IsTotalOrder tag_cmp
tag_total =
    then_total (on_total (λ m. m.language) language_total)
    (then_total (on_total (λ m. m.extensions.unicode) unicode_total)
    (then_total (on_total (λ m. m.extensions.transform) transform_total)
    (then_total (on_total (λ m. m.private_use) texts_total) (on_total (λ m. m.extensions.others) entries_total))))

tag_same : IsAntisymmetric tag_cmp
tag_same x y e =
    let r = language_cmp x.language y.language in
    let s = unicode_cmp x.extensions.unicode y.extensions.unicode in
    let t = transform_cmp x.extensions.transform y.extensions.transform in
    let u = texts_cmp x.private_use y.private_use in
    let v = entries_cmp x.extensions.others y.extensions.others in
    let second = tie_second r (ordering_then s (ordering_then t (ordering_then u v))) e in
    let third = tie_second s (ordering_then t (ordering_then u v)) second in
    let fourth = tie_second t (ordering_then u v) third in
    let front = language_same x.language y.language (tie_first r (ordering_then s (ordering_then t (ordering_then u v))) e) in
    let unicode = unicode_same x.extensions.unicode y.extensions.unicode (tie_first s (ordering_then t (ordering_then u v)) second) in
    let transform = transform_same x.extensions.transform y.extensions.transform (tie_first t (ordering_then u v) third) in
    let own = texts_same x.private_use y.private_use (tie_first u v fourth) in
    let others = entries_same x.extensions.others y.extensions.others (tie_second u v fourth) in
    λ i. record { language = front i; extensions = record { unicode = unicode i; transform = transform i; others = others i }; private_use = own i }

subdivision_total : IsTotalOrder subdivision_cmp
subdivision_total = then_total (on_total (λ s. s.region) text_total) (on_total (λ s. s.suffix) text_total)

subdivision_same : IsAntisymmetric subdivision_cmp
subdivision_same x y e =
    let region = text_same x.region y.region (tie_first (text_cmp x.region y.region) (text_cmp x.suffix y.suffix) e) in
    let suffix = text_same x.suffix y.suffix (tie_second (text_cmp x.region y.region) (text_cmp x.suffix y.suffix) e) in
    λ i. record { region = region i; suffix = suffix i }

data_locale_total : IsTotalOrder data_locale_cmp
data_locale_total =
    then_total (on_total (λ d. d.language) text_total)
    (then_total (on_total (λ d. d.script) (options_total text_total))
    (then_total (on_total (λ d. d.region) (options_total text_total))
    (then_total (on_total (λ d. d.variant) (options_total text_total)) (on_total (λ d. d.subdivision) (options_total subdivision_total)))))

data_locale_same : IsAntisymmetric data_locale_cmp
data_locale_same x y e =
    let r = text_cmp x.language y.language in
    let s = optional_cmp x.script y.script in
    let t = optional_cmp x.region y.region in
    let u = optional_cmp x.variant y.variant in
    let v = option_cmp subdivision_cmp x.subdivision y.subdivision in
    let second = tie_second r (ordering_then s (ordering_then t (ordering_then u v))) e in
    let third = tie_second s (ordering_then t (ordering_then u v)) second in
    let fourth = tie_second t (ordering_then u v) third in
    let language = text_same x.language y.language (tie_first r (ordering_then s (ordering_then t (ordering_then u v))) e) in
    let script = options_same text_same x.script y.script (tie_first s (ordering_then t (ordering_then u v)) second) in
    let region = options_same text_same x.region y.region (tie_first t (ordering_then u v) third) in
    let variant = options_same text_same x.variant y.variant (tie_first u v fourth) in
    let subdivision = options_same subdivision_same x.subdivision y.subdivision (tie_second u v fourth) in
    λ i. record { language = language i; script = script i; region = region i; variant = variant i; subdivision = subdivision i }

-- ---- the laws

pub text_order : IsOrder text_cmp
text_order = is_order text_total text_same

pub texts_order : IsOrder texts_cmp
texts_order = is_order texts_total texts_same

pub entries_order : IsOrder entries_cmp
entries_order = is_order entries_total entries_same

pub language_order : IsOrder language_cmp
language_order = is_order language_total language_same

pub unicode_order : IsOrder unicode_cmp
unicode_order = is_order unicode_total unicode_same

pub transform_order : IsOrder transform_cmp
transform_order = is_order transform_total transform_same

pub tag_order : IsOrder tag_cmp
tag_order = is_order tag_total tag_same

pub subdivision_order : IsOrder subdivision_cmp
subdivision_order = is_order subdivision_total subdivision_same

pub data_locale_order : IsOrder data_locale_cmp
data_locale_order = is_order data_locale_total data_locale_same
