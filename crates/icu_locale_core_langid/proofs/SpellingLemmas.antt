-- Pieces mean a language identifier exactly where they spell its parts one after another.
use Rattle.std.proofs.Common.{◌≡◌, Bool, true, false, List, [], ◌∷◌, ◌++◌, Option, None, Some, IfSome, map, option_map, option_to_list, sym, refl, ap, ◌∙◌, subst}
use Rattle.std.specs.List.{AllByRecursion, list_all}
use Rattle.std.specs.Prelude.{IsTrue, ◌↔◌}
use Rattle.std.proofs.lemmas.Bool.{and_parts, false≢true}
use Rattle.std.proofs.lemmas.List.{map-append}
use Rattle.std.specs.Char.{to_ascii_lowercase}
use Rattle.icu_locale_core_grammar.specs.Subtags.{Text, is_variant, is_script, is_region, lower, title, upper}
use Rattle.icu_locale_core_grammar.specs.Collections.{Each, AreApart, contains_text, set_of}
use Rattle.icu_locale_core_grammar.specs.LanguagePart.{LanguageId, MeansLanguage}
use Rattle.icu_locale_core_grammar.specs.WellFormed.{IsNormalPiece, IsNormalLanguage}
use Rattle.icu_locale_core_grammar.specs.TagStages.{language_after, language_ends}
use Rattle.icu_locale_core_grammar.proofs.CaseLemmas.{lower_keeps, variant_changed, lower-lower, lowered_twice, lower-title, lower-upper}
use Rattle.icu_locale_core_grammar.proofs.CaseSteps.{language_ignores, alike_means}
use Rattle.icu_locale_core_grammar.proofs.LanguageReader.{language_reader}
use Rattle.icu_locale_core_langid.specs.Spelling.{IsAfter, Takes, SpellsSet}
use Rattle.icu_locale_core_langid.proofs.SpelledSetLemmas.{is_among, pieces_among, answer_no}

-- ---- what is after is one list

no_front : (ps : List Text) → map lower ps ≡ [] → ps ≡ []
no_front [] e = refl
no_front (p ∷ ps) e = cc

same_rest : (ts front other rest left : List Text) → map lower front ≡ map lower ts → map lower other ≡ map lower ts → front ++ rest ≡ other ++ left → rest ≡ left
same_rest [] front other rest left e f g =
    sym (ap (λ l. l ++ rest) (no_front front e)) ∙ g ∙ ap (λ l. l ++ left) (no_front other f)
same_rest (t ∷ ts) [] other rest left e f g = cc
same_rest (t ∷ ts) (a ∷ front) [] rest left e f g = cc
same_rest (t ∷ ts) (a ∷ front) (b ∷ other) rest left e f g =
    let e : map lower front ≡ map lower ts = cc in
    let f : map lower other ≡ map lower ts = cc in
    let g : front ++ rest ≡ other ++ left = cc in
    same_rest ts front other rest left e f g

one_after : (ts ps rest left : List Text) → IsAfter ts ps rest → IsAfter ts ps left → rest ≡ left
one_after ts ps rest left a b = same_rest ts a.front b.front rest left a.same b.same (sym a.parts ∙ b.parts)

-- ---- the parts in their order

pub record SpellsParts (ps : List Text) (id : LanguageId) : Type 0 where
  pub second : List Text
  pub third : List Text
  pub last : List Text
  pub language : IsAfter (id.language ∷ []) ps second
  pub script : IsAfter (option_to_list id.script) second third
  pub region : IsAfter (option_to_list id.region) third last
  pub variants : SpellsSet last id.variants

-- what means the identifier spells its parts
script_after : (written script : Option Text) (rest : List Text) → option_map title written ≡ script → IsAfter (option_to_list script) (option_to_list written ++ rest) rest
script_after None script rest e = subst (λ s. IsAfter (option_to_list s) rest rest) e (record { front = []; parts = refl; same = refl })
script_after (Some q) script rest e =
    subst (λ s. IsAfter (option_to_list s) (q ∷ rest) rest) e (record { front = q ∷ []; parts = refl; same = ap (λ t. t ∷ []) (sym (lower-title q)) })

region_after : (written region : Option Text) (rest : List Text) → option_map upper written ≡ region → IsAfter (option_to_list region) (option_to_list written ++ rest) rest
region_after None region rest e = subst (λ s. IsAfter (option_to_list s) rest rest) e (record { front = []; parts = refl; same = refl })
region_after (Some q) region rest e =
    subst (λ s. IsAfter (option_to_list s) (q ∷ rest) rest) e (record { front = q ∷ []; parts = refl; same = ap (λ t. t ∷ []) (sym (lower-upper q)) })

pub means_spells : (ps : List Text) (id : LanguageId) → MeansLanguage ps id → SpellsParts ps id
means_spells ps id a =
    let w = a.written in
    let language : lower w.language ≡ id.language = ap (λ i. i.language) a.meant in
    record {
      second = option_to_list w.script ++ (option_to_list w.region ++ w.variants);
      third = option_to_list w.region ++ w.variants;
      last = w.variants;
      language = record { front = w.language ∷ []; parts = sym a.parts; same = ap (λ t. t ∷ []) (sym (lower-lower w.language) ∙ ap lower language) };
      script = script_after w.script id.script (option_to_list w.region ++ w.variants) (ap (λ i. i.script) a.meant);
      region = region_after w.region id.region w.variants (ap (λ i. i.region) a.meant);
      variants = record { apart = a.sound.apart; same = ap (λ i. i.variants) a.meant };
    }

-- ---- and what spells its parts means it

among_are : (set ps : List Text) → AllByRecursion (λ p. is_among set p ≡ true) ps → Each is_variant (map lower ps)
among_are set [] each = tt
among_are set (p ∷ ps) each =
    (variant_changed to_ascii_lowercase lower_keeps p ∙ (and_parts (is_variant p) (contains_text (lower p) set) each.0).0, among_are set ps each.1)

each_of : (f : Text → Bool) (ps : List Text) → list_all f ps ≡ true → AllByRecursion (λ p. f p ≡ true) ps
each_of f [] all = tt
each_of f (p ∷ ps) all = let g = and_parts (f p) (list_all f ps) all in (g.0, each_of f ps g.1)

option_is : (test : Text → Bool) (normal : Text → Text) (s : Option Text) → IfSome s (IsNormalPiece test normal) → IfSome s (λ p. test p ≡ true)
option_is test normal None n = tt
option_is test normal (Some p) n = n.is

option_stays : (test : Text → Bool) (normal : Text → Text) (s : Option Text) → IfSome s (IsNormalPiece test normal) → option_map normal s ≡ s
option_stays test normal None n = refl
option_stays test normal (Some p) n = ap Some n.same

-- the identifier with its variants in another order
reordered : (id : LanguageId) (ps : List Text) → IsNormalLanguage id → SpellsSet ps id.variants
    → MeansLanguage (id.language ∷ (option_to_list id.script ++ (option_to_list id.region ++ map lower ps))) id
reordered id ps normal spells =
    let among = each_of (is_among id.variants) ps (pieces_among ps id.variants normal.variants spells) in
    record {
      written = record { language = id.language; script = id.script; region = id.region; variants = map lower ps };
      sound = record { language = normal.language.is; script = option_is is_script title id.script normal.script; region = option_is is_region upper id.region normal.region; variants = among_are id.variants ps among; apart = subst AreApart (sym (lowered_twice ps)) spells.apart };
      parts = refl;
      meant = λ i. record { language = normal.language.same i; script = option_stays is_script title id.script normal.script i; region = option_stays is_region upper id.region normal.region i; variants = (ap set_of (lowered_twice ps) ∙ spells.same) i };
    }

pub spells_means : (ps : List Text) (id : LanguageId) → IsNormalLanguage id → SpellsParts ps id → MeansLanguage ps id
spells_means ps id normal s =
    let whole : ps ≡ s.language.front ++ (s.script.front ++ (s.region.front ++ s.last)) =
    s.language.parts ∙ ap (λ l. s.language.front ++ l) (s.script.parts ∙ ap (λ l. s.script.front ++ l) s.region.parts) in
    let front : map lower (s.language.front ++ (s.script.front ++ (s.region.front ++ s.last)))
    ≡ map lower s.language.front ++ (map lower s.script.front ++ (map lower s.region.front ++ map lower s.last)) =
    map-append lower s.language.front (s.script.front ++ (s.region.front ++ s.last))
    ∙ ap (λ l. map lower s.language.front ++ l) (map-append lower s.script.front (s.region.front ++ s.last) ∙ ap (λ l. map lower s.script.front ++ l) (map-append lower s.region.front s.last)) in
    let parts : map lower (option_to_list id.script ++ (option_to_list id.region ++ map lower s.last)) ≡ map lower (option_to_list id.script) ++ (map lower (option_to_list id.region) ++ map lower s.last) =
    map-append lower (option_to_list id.script) (option_to_list id.region ++ map lower s.last)
    ∙ ap (λ l. map lower (option_to_list id.script) ++ l) (map-append lower (option_to_list id.region) (map lower s.last) ∙ ap (λ l. map lower (option_to_list id.region) ++ l) (lowered_twice s.last)) in
    let same : map lower (id.language ∷ (option_to_list id.script ++ (option_to_list id.region ++ map lower s.last))) ≡ map lower ps =
    ap (λ l. lower id.language ∷ l) parts
    ∙ (λ i. sym s.language.same i ++ (sym s.script.same i ++ (sym s.region.same i ++ map lower s.last)))
    ∙ sym (ap (map lower) whole ∙ front) in
    alike_means language_after language_ignores None language_ends MeansLanguage language_reader
    (id.language ∷ (option_to_list id.script ++ (option_to_list id.region ++ map lower s.last))) ps id same (reordered id s.last normal s.variants)

-- ---- where one part is not there

pub no_language : (ps : List Text) (id : LanguageId) → ((rest : List Text) → IsAfter (id.language ∷ []) ps rest → ⊥) → MeansLanguage ps id → ⊥
no_language ps id none a = let s = means_spells ps id a in none s.second s.language

pub no_script : (ps second : List Text) (id : LanguageId) → IsAfter (id.language ∷ []) ps second → ((rest : List Text) → IsAfter (option_to_list id.script) second rest → ⊥) → MeansLanguage ps id → ⊥
no_script ps second id language none a =
    let s = means_spells ps id a in
    none s.third (subst (λ l. IsAfter (option_to_list id.script) l s.third) (one_after (id.language ∷ []) ps s.second second s.language language) s.script)

-- what is after the script, where the first two are there
third_is : (ps second third : List Text) (id : LanguageId) (s : SpellsParts ps id) → IsAfter (id.language ∷ []) ps second → IsAfter (option_to_list id.script) second third → s.third ≡ third
third_is ps second third id s language script =
    one_after (option_to_list id.script) second s.third third
    (subst (λ l. IsAfter (option_to_list id.script) l s.third) (one_after (id.language ∷ []) ps s.second second s.language language) s.script) script

pub no_region : (ps second third : List Text) (id : LanguageId) → IsAfter (id.language ∷ []) ps second → IsAfter (option_to_list id.script) second third
    → ((rest : List Text) → IsAfter (option_to_list id.region) third rest → ⊥) → MeansLanguage ps id → ⊥
no_region ps second third id language script none a =
    let s = means_spells ps id a in
    none s.last (subst (λ l. IsAfter (option_to_list id.region) l s.last) (third_is ps second third id s language script) s.region)

pub last_spells : (ps second third last : List Text) (id : LanguageId) → IsAfter (id.language ∷ []) ps second → IsAfter (option_to_list id.script) second third
    → IsAfter (option_to_list id.region) third last → MeansLanguage ps id → SpellsSet last id.variants
last_spells ps second third last id language script region a =
    let s = means_spells ps id a in
    let same : s.last ≡ last = one_after (option_to_list id.region) third s.last last (subst (λ l. IsAfter (option_to_list id.region) l s.last) (third_is ps second third id s language script) s.region) region in
    subst (λ l. SpellsSet l id.variants) same s.variants

-- ---- taking one piece

front_differs : (p t : Text) (rest left front : List Text) → p ∷ rest ≡ front ++ left → map lower front ≡ lower t ∷ [] → lower p ≡ lower t
front_differs p t rest left [] parts same = cc
front_differs p t rest left (q ∷ qs) parts same = let one : p ≡ q = cc in ap lower one ∙ (let f : lower q ≡ lower t = cc in f)

pub piece_taken : (r : Bool) (p t w : Text) (ps rest : List Text) → ps ≡ p ∷ rest → w ≡ t → IsTrue r ↔ (lower p ≡ lower w) → Takes r (t ∷ []) ps rest
piece_taken true p t w ps rest first is both = record { front = p ∷ []; parts = first; same = ap (λ x. x ∷ []) (both.0 refl ∙ ap lower is) }
piece_taken false p t w ps rest first is both =
    λ left b. false≢true (both.1 (front_differs p t rest left b.front (sym first ∙ b.parts) b.same ∙ ap lower (sym is)))

pub none_taken : (t : Text) (ps left : List Text) → ps ≡ [] → IsAfter (t ∷ []) ps left → ⊥
none_taken t ps left past b = by b.front (sym past ∙ b.parts) b.same
  where
    by : (front : List Text) → [] ≡ front ++ left → map lower front ≡ lower t ∷ [] → ⊥
    by [] e f = cc
    by (q ∷ qs) e f = cc

-- ---- the answers, where the pieces and the identifier have other names

moved : (from ps : List Text) (held id : LanguageId) → from ≡ ps → held ≡ id → MeansLanguage ps id → MeansLanguage from held
moved from ps held id e f a = subst (λ l. MeansLanguage l held) (sym e) (subst (MeansLanguage ps) (sym f) a)

pub answers_no : (from ps : List Text) (held id : LanguageId) → from ≡ ps → held ≡ id → (MeansLanguage from held → ⊥) → IsTrue false ↔ MeansLanguage ps id
answers_no from ps held id e f none = answer_no (λ a. none (moved from ps held id e f a))

pub answers_last : (from ps second third last : List Text) (held id : LanguageId) (r : Bool) → from ≡ ps → held ≡ id → IsNormalLanguage id → IsAfter (held.language ∷ []) from second
    → IsAfter (option_to_list held.script) second third → IsAfter (option_to_list held.region) third last → IsTrue r ↔ SpellsSet last held.variants → IsTrue r ↔ MeansLanguage ps id
answers_last from ps second third last held id r e f normal language script region both = (
  (λ yes. subst (λ l. MeansLanguage l id) e (subst (MeansLanguage from) f
      (spells_means from held (subst IsNormalLanguage (sym f) normal) (record { second = second; third = third; last = last; language = language; script = script; region = region; variants = both.0 yes })))),
  λ a. both.1 (last_spells from second third last held language script region (moved from ps held id e f a)),
)
