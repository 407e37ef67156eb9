-- What is left of a set without one of its texts, what joined sets have, and that printed texts read back.
use Rattle.std.proofs.Common.{◌≡◌, ℕ, Bool, true, false, not, ◌&&◌, ◌||◌, List, [], ◌∷◌, ◌++◌, cond, refl, sym, ap, ◌∙◌, subst}
use Rattle.icu_locale_core_grammar.specs.Subtags.{Text, same_text, is_plain, has_characters, is_attribute, is_private, private_text}
use Rattle.icu_locale_core_grammar.specs.Pieces.{pieces, joined_text}
use Rattle.icu_locale_core_grammar.specs.Collections.{Each, contains_text}
use Rattle.icu_locale_core_grammar.specs.WellFormed.{AreLower}
use Rattle.icu_locale_core_grammar.specs.Meaning.{MeansAttributes}
use Rattle.icu_locale_core_grammar.specs.PartReaders.{IsExtension, MeansOwn, listed}
use Rattle.icu_locale_core_grammar.proofs.CollectionLemmas.{same_text_equal, same_text_swapped, contains-append}
use Rattle.icu_locale_core_grammar.proofs.SetLemmas.{contains-set_of, Rises-set_of}
use Rattle.icu_locale_core_grammar.proofs.NormalBodies.{attributes_mean}
use Rattle.icu_locale_core_grammar.proofs.PlainSubtags.{characters_plain}
use Rattle.icu_locale_core_grammar.proofs.PlainPieces.{pieces-joined}
use Rattle.icu_locale_core_grammar.proofs.PartPlain.{private_back}
use Rattle.icu_locale_core_subtag_lists.specs.SubtagSets.{remove_text}
use Rattle.icu_locale_core_subtag_lists.specs.Laws.{RemovalTakesOne, JoiningHasBoth, AttributesReadBack, PrivateReadsBack}
use Rattle.icu_locale_core_subtag_lists.proofs.PlaceLemmas.{Rises-remove}

-- ---- removal

kept : (a b c : Bool) → (a ≡ true → b ≡ false) → (a || (c && not b)) ≡ ((a || c) && not b)
kept true b c apart = sym (ap not (apart refl))
kept false b c apart = refl

gone : (a b c : Bool) → a ≡ b → (c && not b) ≡ ((a || c) && not b)
gone true true true same = refl
gone true true false same = refl
gone true false c same = cc
gone false b c same = refl

other_text : (q t u : Text) → same_text t u ≡ false → same_text q u ≡ true → same_text q t ≡ false
other_text q t u apart same = ap (λ v. same_text v t) (same_text_equal q u same) ∙ same_text_swapped u t ∙ apart

contains-remove : (q t : Text) (us : List Text) → contains_text q (remove_text t us) ≡ (contains_text q us && not (same_text q t))
contains-remove q t [] = refl
contains-remove q t (u ∷ us) = by (same_text t u) refl (contains-remove q t us)
  where
    by : (b : Bool) → same_text t u ≡ b → contains_text q (remove_text t us) ≡ (contains_text q us && not (same_text q t))
        → contains_text q (cond (not b) (u ∷ remove_text t us) (remove_text t us)) ≡ ((same_text q u || contains_text q us) && not (same_text q t))
    by true same more = more ∙ gone (same_text q u) (same_text q t) (contains_text q us) (ap (same_text q) (sym (same_text_equal t u same)))
    by false apart more = ap (λ b. same_text q u || b) more ∙ kept (same_text q u) (same_text q t) (contains_text q us) (other_text q t u apart)

pub removal_takes_one : RemovalTakesOne
removal_takes_one = record { has = contains-remove; rises = Rises-remove }

-- ---- joining

pub joining_has_both : JoiningHasBoth
joining_has_both = record {
  has = λ q ts us. contains-set_of q (ts ++ us) ∙ contains-append q ts us;
  rises = λ ts us. Rises-set_of (ts ++ us);
}

-- ---- printed and read

are_plain : (least most : ℕ) (ps : List Text) → AreLower (has_characters least most) ps → Each is_plain ps
are_plain least most [] each = tt
are_plain least most (p ∷ ps) each = (characters_plain least most p each.0.is, are_plain least most ps each.1)

-- a first piece that is not empty makes a text that is not
listed_pieces : (p : Text) (ps : List Text) → is_attribute p ≡ true → listed (joined_text (p ∷ ps)) ≡ pieces (joined_text (p ∷ ps))
listed_pieces [] ps is = cc
listed_pieces (c ∷ cs) ps is = refl

pub attributes_back : AttributesReadBack
attributes_back [] each rises = attributes_mean [] each rises
attributes_back (p ∷ ps) each rises =
    let back : listed (joined_text (p ∷ ps)) ≡ p ∷ ps = listed_pieces p ps each.0.is ∙ pieces-joined p ps (are_plain 3 8 (p ∷ ps) each) in
    subst (λ l. MeansAttributes l (p ∷ ps)) (sym back) (attributes_mean (p ∷ ps) each rises)

pub private_text_back : PrivateReadsBack
private_text_back [] each filled = absurd (filled refl)
private_text_back (p ∷ ps) each filled =
    subst (λ l. IsExtension is_private MeansOwn l (p ∷ ps)) (sym (pieces-joined private_text (p ∷ ps) (refl, are_plain 1 8 (p ∷ ps) each)))
    (private_back (p ∷ ps) each filled)
