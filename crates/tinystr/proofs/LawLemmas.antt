-- The laws of `specs/Laws.antt`.
use mathlib.Core.List.{head-eq_of_cons-eq, tail-eq_of_cons-eq}
use Rattle.std.proofs.Common.{◌≡◌, ℕ, suc, zero, ◌<◌, ◌≤◌, Bool, true, false, ◌⊎◌, inl, inr, List, [], ◌∷◌, ◌++◌, take, map, refl, sym, ap, subst, arith, ◌∙◌}
use Rattle.std.specs.Prelude.{replicate, nat_eq}
use Rattle.std.specs.Bool.{Decides}
use Rattle.std.specs.Cmp.Lexicographic.{pointwise, texts_ties}
use Rattle.std.specs.List.{list_all}
use Rattle.std.specs.Char.{to_ascii_uppercase, to_ascii_lowercase}
use Rattle.std.proofs.lemmas.Bool.Decides.{Decides-eqb, Decides-like, same_from_decides}
use Rattle.std.proofs.lemmas.Slice.Eq.{slice_eq-Decides}
use Rattle.std.proofs.lemmas.List.{append_assoc, take-map, take-take}
use Rattle.std.proofs.lemmas.Str.Ascii.{lowercase-lowercase, uppercase-uppercase, lowercase-uppercase}
use Rattle.tinystr.specs.SmallText.{LAST_ASCII, is_text_byte, IsSmall, padded, text_of}
use Rattle.tinystr.specs.declared.error.ParseError.TheVariants.{TooLong, ContainsNull, NonAscii}
use Rattle.tinystr.specs.Faults.{StopsAtNonAscii, StopsAfterNul, IsFault}
use Rattle.tinystr.specs.Case.{lowercase, titlecase}
use Rattle.tinystr.specs.Laws.{OneForm, EqualTexts, NicheIsNoForm, OneFault, TextsHaveNoFault, CaseSettles, CaseMeetsCut, JoinsAlike}
use Rattle.tinystr.proofs.SmallTextLemmas.{text_of-cons, text_of-padded}
use Rattle.tinystr.proofs.CaseLemmas.{length-titlecase}
use Rattle.tinystr.proofs.FaultsLemmas.{fault_refuses, above_is_no_text}
use Rattle.tinystr.proofs.RawLemmas.{clean_refuses_high, clean_refuses_after}

pub one_form_law : OneForm
one_form_law n one other first second e =
    sym (text_of-padded n one first.ascii) ∙ ap text_of e ∙ text_of-padded n other second.ascii

same_texts : (one other : List ℕ) → Decides (pointwise nat_eq one other) (one ≡ other)
same_texts one other = slice_eq-Decides Decides-eqb one other (pointwise nat_eq one other) refl

pub equal_texts_law : (one other : List ℕ) → EqualTexts one other
equal_texts_law one other = record {
  same = same_texts one other;
  order = subst (λ r. Decides r (one ≡ other)) (texts_ties one other) (same_texts one other);
}

-- what decides whether the forms of two texts are the same bytes decides whether the texts are one
pub decided_by_forms : (n : ℕ) (one other first second : List ℕ) (r : Bool) → IsSmall n one → IsSmall n other
    → first ≡ padded n one → second ≡ padded n other → Decides r (first ≡ second) → r ≡ pointwise nat_eq one other
decided_by_forms n one other first second r small also is of decided =
    same_from_decides r (pointwise nat_eq one other)
    (Decides-like r (λ e. one_form_law n one other small also (sym is ∙ e ∙ of)) (λ e. is ∙ ap (padded n) e ∙ sym of) decided)
    (same_texts one other)

pub niche_law : NicheIsNoForm
niche_law zero some form = absurd (omega (arith, some))
niche_law (suc k) some form =
    let wrong : false ≡ true = sym (ap (list_all is_text_byte) (text_of-cons 255 (replicate k 255) refl)) ∙ form.small.ascii in cc

-- of two units in one list, they are one, or one lies in front of the other
record LiesIn (front : List ℕ) (unit : ℕ) (other : List ℕ) : Type 0 where
  rest : List ℕ
  whole : other ≡ front ++ unit ∷ rest

further : (a b : ℕ) (front : List ℕ) (unit : ℕ) (other : List ℕ) → a ≡ b → LiesIn front unit other → LiesIn (a ∷ front) unit (b ∷ other)
further a b front unit other e lies = record {
  rest = lies.rest;
  whole = ap (λ l. b ∷ l) lies.whole ∙ ap (λ x. x ∷ (front ++ unit ∷ lies.rest)) (sym e);
}

two_places : (one other : List ℕ) (u v : ℕ) (more rest : List ℕ) → one ++ u ∷ more ≡ other ++ v ∷ rest
    → (u ≡ v) ⊎ (LiesIn one u other ⊎ LiesIn other v one)
two_places [] [] u v more rest e = inl (head-eq_of_cons-eq e)
two_places [] (b ∷ bs) u v more rest e =
    inr (inl (record { rest = bs; whole = ap (λ x. x ∷ bs) (sym (head-eq_of_cons-eq e)) }))
two_places (a ∷ front) [] u v more rest e =
    inr (inr (record { rest = front; whole = ap (λ x. x ∷ front) (head-eq_of_cons-eq e) }))
two_places (a ∷ front) (b ∷ bs) u v more rest e =
    let same = head-eq_of_cons-eq e in
    elim (two_places front bs u v more rest (tail-eq_of_cons-eq e)) [
      | inl equal ↦ inl equal
      | inr sides ↦ elim sides [
        | inl lies ↦ inr (inl (further a b front u bs same lies))
        | inr lies ↦ inr (inr (further b a bs v front (sym same) lies))
      ]
    ]

high_and_text : (u v : ℕ) → LAST_ASCII < u → is_text_byte v ≡ true → u ≡ v → ⊥
high_and_text u v above is e = above_is_no_text u above (ap is_text_byte e ∙ is)

not_both_stops : (units : List ℕ) → StopsAtNonAscii units → StopsAfterNul units → ⊥
not_both_stops units high behind =
    elim (two_places high.front behind.front high.unit behind.unit high.rest behind.rest (sym high.whole ∙ behind.whole)) [
      | inl e ↦ high_and_text high.unit behind.unit high.above behind.behind e
      | inr sides ↦ elim sides [
        | inl lies ↦ clean_refuses_high (suc behind.nuls) behind.front behind.clean (record {
          front = high.front;
          nuls = high.nuls;
          unit = high.unit;
          rest = lies.rest;
          clean = high.clean;
          whole = lies.whole;
          above = high.above;
        })
        | inr lies ↦ clean_refuses_after high.nuls high.front high.clean (record {
          front = behind.front;
          nuls = behind.nuls;
          unit = behind.unit;
          rest = lies.rest;
          clean = behind.clean;
          whole = lies.whole;
          behind = behind.behind;
        })
      ]
    ]

not_both : (strict : Bool) (n : ℕ) (units : List ℕ) → IsFault strict n units NonAscii → IsFault strict n units ContainsNull → ⊥
not_both strict n units high nul = elim nul.1 [
  | inl stop ↦ not_both_stops units high.1 stop
  | inr ends ↦ clean_refuses_high (suc ends.1.nuls) units ends.1.clean high.1
]

pub one_fault_law : OneFault
one_fault_law strict n units (TooLong m l) (TooLong k j) first second =
    let most : m ≡ k = first.1 ∙ sym second.1 in
    let long : l ≡ j = first.2 ∙ sym second.2 in
    cc
one_fault_law strict n units (TooLong m l) ContainsNull first second = absurd (omega (arith, first.0, second.0))
one_fault_law strict n units (TooLong m l) NonAscii first second = absurd (omega (arith, first.0, second.0))
one_fault_law strict n units ContainsNull (TooLong m l) first second = absurd (omega (arith, first.0, second.0))
one_fault_law strict n units NonAscii (TooLong m l) first second = absurd (omega (arith, first.0, second.0))
one_fault_law strict n units ContainsNull ContainsNull first second = refl
one_fault_law strict n units NonAscii NonAscii first second = refl
one_fault_law strict n units ContainsNull NonAscii first second = absurd (not_both strict n units second first)
one_fault_law strict n units NonAscii ContainsNull first second = absurd (not_both strict n units first second)

pub texts_have_no_fault : TextsHaveNoFault
texts_have_no_fault strict n units fault is small = fault_refuses strict n units fault is small

twice : (f g : ℕ → ℕ) → ((b : ℕ) → f (g b) ≡ f b) → (text : List ℕ) → map f (map g text) ≡ map f text
twice f g each [] = refl
twice f g each (b ∷ bs) =
    let here : f (g b) ≡ f b = each b in
    let rest : map f (map g bs) ≡ map f bs = twice f g each bs in
    cc

title_twice : (text : List ℕ) → titlecase (titlecase text) ≡ titlecase text
title_twice [] = refl
title_twice (b ∷ bs) =
    let here : to_ascii_uppercase (to_ascii_uppercase b) ≡ to_ascii_uppercase b = uppercase-uppercase b in
    let rest : lowercase (lowercase bs) ≡ lowercase bs = twice to_ascii_lowercase to_ascii_lowercase lowercase-lowercase bs in
    cc

pub case_settles_law : (text : List ℕ) → CaseSettles text
case_settles_law text = record {
  lower = twice to_ascii_lowercase to_ascii_lowercase lowercase-lowercase text;
  upper = twice to_ascii_uppercase to_ascii_uppercase uppercase-uppercase text;
  title = title_twice text;
  upper_then_lower = twice to_ascii_lowercase to_ascii_uppercase lowercase-uppercase text;
  title_long = length-titlecase text;
}

title_cut : (count : ℕ) (text : List ℕ) → take count (titlecase text) ≡ titlecase (take count text)
title_cut zero text = refl
title_cut (suc k) [] = refl
title_cut (suc k) (b ∷ bs) = ap (λ l. to_ascii_uppercase b ∷ l) (take-map to_ascii_lowercase k bs)

pub case_meets_cut_law : (count : ℕ) (text : List ℕ) → CaseMeetsCut count text
case_meets_cut_law count text = record {
  lower = take-map to_ascii_lowercase count text;
  upper = take-map to_ascii_uppercase count text;
  title = title_cut count text;
}

cut_in_front : (q p : ℕ) (front last : List ℕ) → q ≤ p → take q (take p front ++ last) ≡ take q (front ++ last)
cut_in_front zero p front last le = refl
cut_in_front (suc q) zero front last le = absurd (omega arith)
cut_in_front (suc q) (suc p) [] last le = refl
cut_in_front (suc q) (suc p) (b ∷ bs) last le = let less : q ≤ p = omega arith in ap (λ l. b ∷ l) (cut_in_front q p bs last less)

cut_behind : (q r : ℕ) (front last : List ℕ) → q ≤ r → take q (front ++ take r last) ≡ take q (front ++ last)
cut_behind q r [] last le = take-take q r last le
cut_behind zero r (b ∷ bs) last le = refl
cut_behind (suc q) r (b ∷ bs) last le = let less : q ≤ r = omega arith in ap (λ l. b ∷ l) (cut_behind q r bs last less)

pub joins_alike_law : JoinsAlike
joins_alike_law first whole second one other last wide long =
    cut_in_front whole first (one ++ other) last wide
    ∙ ap (take whole) (append_assoc one other last)
    ∙ sym (cut_behind whole second one (other ++ last) long)
