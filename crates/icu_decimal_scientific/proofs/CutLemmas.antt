-- Cuts of a text: what is before the first character that passes a test is known by the text.
use Rattle.std.proofs.Common.{Bor, IfSome, MatchOption, None, Option, Some, ◌≡◌, ◌≢◌, ◌==◌, ℕ, Bool, true, false, not, ◌&&◌, List, [], ◌∷◌, ◌++◌, take, drop, take-append-drop, refl, sym, ap, ◌∙◌, append_assoc}
use Rattle.std.proofs.lemmas.Bool.{and_from, and_parts, eq-eqb, false≢true}
use Rattle.std.proofs.lemmas.List.{append_cancel_left}
use Rattle.std.proofs.lemmas.List.Folds.{list_all-append}
use Rattle.std.proofs.lemmas.Str.{encodes-append, encodes-chars, encodes_same}
use Rattle.std.specs.List.{list_all}
use Rattle.std.specs.Str.{IsUtf8, NoCharPasses, NonePass, chars, encode_utf8_all}
use Rattle.std.specs.Str.Pattern.{FindsChar, SplitsAroundMatch}
use Rattle.std.specs.Prelude.{encode_utf8}
use Rattle.icu_decimal_scientific.specs.ReadingSteps.{HasNoSplit, IsCutAt, IsOnlySplit, lacks_first}

-- ---- the first element and those after it

abbrev pub first_in : List ℕ → ℕ
first_in [] = 0
first_in (c ∷ cs) = c

abbrev pub later_in : List ℕ → List ℕ
later_in [] = []
later_in (c ∷ cs) = cs

-- a list begins with an element that fails the test
pub record Stops (out : ℕ → Bool) (cs : List ℕ) : Type 0 where
  pub first : ℕ
  pub rest : List ℕ
  pub same : cs ≡ first ∷ rest
  pub fails : out first ≡ false

never_both : (b : Bool) → b ≡ true → b ≡ false → ⊥
never_both b passes fails = false≢true (sym fails ∙ passes)

stops_not : (out : ℕ → Bool) (u : ℕ) (us ys : List ℕ) → out u ≡ true → Stops out ys → ys ≡ u ∷ us → ⊥
stops_not out u us ys passes stops is = never_both (out u) passes (ap out (ap first_in (sym is ∙ stops.same)) ∙ stops.fails)

-- two fronts of one list, in which all pass, before what fails
pub one_cut : (out : ℕ → Bool) (xs ys us vs : List ℕ) → list_all out xs ≡ true → list_all out us ≡ true → Stops out ys → Stops out vs → xs ++ ys ≡ us ++ vs → (xs ≡ us) × (ys ≡ vs)
one_cut out [] ys [] vs first second sy sv same = (refl, same)
one_cut out [] ys (u ∷ us) vs first second sy sv same = absurd (stops_not out u (us ++ vs) ys (and_parts (out u) (list_all out us) second).0 sy same)
one_cut out (x ∷ xs) ys [] vs first second sy sv same = absurd (stops_not out x (xs ++ ys) vs (and_parts (out x) (list_all out xs) first).0 sv (sym same))
one_cut out (x ∷ xs) ys (u ∷ us) vs first second sy sv same =
    let rest : (xs ≡ us) × (ys ≡ vs) = one_cut out xs ys us vs (and_parts (out x) (list_all out xs) first).1 (and_parts (out u) (list_all out us) second).1 sy sv (ap later_in same) in
    (ap (λ c. c ∷ xs) (ap first_in same) ∙ ap (λ cs. u ∷ cs) rest.0, rest.1)

-- ---- a character in a text

pub itself : (mark : ℕ) → not (mark == mark) ≡ false
itself mark = ap not (eq-eqb mark mark refl)

pub at_mark : (mark : ℕ) (rest : List ℕ) → Stops (λ d. not (d == mark)) (mark ∷ rest)
at_mark mark rest = record { first = mark; rest = rest; same = refl; fails = itself mark }

none_pass : (mark : ℕ) (cs : List ℕ) → NonePass (λ c. c == mark) cs → list_all (λ d. not (d == mark)) cs ≡ true
none_pass mark [] none = refl
none_pass mark (c ∷ cs) none = and_from (not (c == mark)) (list_all (λ d. not (d == mark)) cs) (ap not none.0) (none_pass mark cs none.1)

-- a text without a character has it nowhere
never_in : (mark : ℕ) (cs front back : List ℕ) → NonePass (λ c. c == mark) cs → cs ≡ front ++ (mark ∷ back) → ⊥
never_in mark cs front back none is =
    let out : ℕ → Bool = λ d. not (d == mark) in
    let whole : (list_all out front && list_all out (mark ∷ back)) ≡ true = sym (list_all-append out front (mark ∷ back)) ∙ ap (list_all out) (sym is) ∙ none_pass mark cs none in
    let behind : list_all out (mark ∷ back) ≡ true = (and_parts (list_all out front) (list_all out (mark ∷ back)) whole).1 in
    never_both (not (mark == mark)) (and_parts (not (mark == mark)) (list_all out back) behind).0 (itself mark)

-- what the call that cuts says
pub cut_around : (mark : ℕ) (text front back : List ℕ) → SplitsAroundMatch (FindsChar mark) text front back → IsCutAt mark text front back
cut_around mark text front back s = record {
  whole = sym (take-append-drop s.0 text) ∙ ap (λ l. l ++ drop s.0 text) (sym s.3) ∙ ap (λ l. front ++ l) (s.2.1.split ∙ ap (λ l. encode_utf8 mark ++ l) (sym s.4));
  clear = cleared s.0 s.3 s.2.0;
}
  where
    cleared : (n : ℕ) → front ≡ take n text → NoCharPasses (λ d. d == mark) (take n text) → NoCharPasses (λ d. d == mark) front
    cleared n is none = (none.0, none.1 ∙ sym is, none.2)

pub cut_some : (mark : ℕ) (text : List ℕ) (r : Option (Bor (List ℕ) × Bor (List ℕ))) → MatchOption r (FindsChar mark text None) (λ x. SplitsAroundMatch (FindsChar mark) text x.0.now x.1.now) → IfSome r (λ x. IsCutAt mark text x.0.now x.1.now)
cut_some mark text (Some x) cases = cut_around mark text x.0.now x.1.now cases
cut_some mark text None cases = tt

-- ---- cut at the first character of a separator

separator_is : (separator more : List ℕ) (mark : ℕ) → IsUtf8 separator → IsUtf8 more → chars separator ≡ mark ∷ chars more → separator ≡ encode_utf8 mark ++ more
separator_is separator more mark first second is =
    sym (encodes-chars separator first) ∙ ap encode_utf8_all is ∙ ap (λ l. encode_utf8 mark ++ l) (encodes-chars more second)

-- of a text with the separator at another place that is the first
record SameCut (mark : ℕ) (gs cs fs rest : List ℕ) : Type 0 where
  pub fronts : gs ≡ fs
  pub backs : cs ≡ rest

same_cut : (mark : ℕ) (gs cs fs rest : List ℕ) → NonePass (λ c. c == mark) gs → list_all (λ d. not (d == mark)) fs ≡ true → encode_utf8_all (gs ++ (mark ∷ cs)) ≡ encode_utf8_all (fs ++ (mark ∷ rest)) → SameCut mark gs cs fs rest
same_cut mark gs cs fs rest none lacks same =
    let cut : (gs ≡ fs) × ((mark ∷ cs) ≡ (mark ∷ rest)) = one_cut (λ d. not (d == mark)) gs (mark ∷ cs) fs (mark ∷ rest) (none_pass mark gs none) lacks (at_mark mark cs) (at_mark mark rest) (encodes_same (gs ++ (mark ∷ cs)) (fs ++ (mark ∷ rest)) same) in
    record { fronts = cut.0; backs = ap later_in cut.1 }

lacks_by : (sep fs more : List ℕ) (mark : ℕ) → sep ≡ mark ∷ more → lacks_first sep fs ≡ true → list_all (λ d. not (d == mark)) fs ≡ true
lacks_by sep fs more mark is lacks = sym (ap (λ s. lacks_first s fs) is) ∙ lacks

-- a front, a separator and what follows, as characters
whole_chars : (separator text fs bs more : List ℕ) (mark : ℕ) → IsUtf8 separator → chars separator ≡ mark ∷ more → text ≡ encode_utf8_all fs ++ (separator ++ encode_utf8_all bs) → text ≡ encode_utf8_all (fs ++ (mark ∷ (more ++ bs)))
whole_chars separator text fs bs more mark utf8 is whole =
    whole
    ∙ ap (λ s. encode_utf8_all fs ++ (s ++ encode_utf8_all bs)) (sym (encodes-chars separator utf8) ∙ ap encode_utf8_all is)
    ∙ ap (λ l. encode_utf8_all fs ++ l) (sym (encodes-append (mark ∷ more) bs))
    ∙ sym (encodes-append fs (mark ∷ (more ++ bs)))

cut_chars : (text front behind : List ℕ) (mark : ℕ) (c : IsCutAt mark text front behind) → IsUtf8 behind → text ≡ encode_utf8_all (c.clear.0 ++ (mark ∷ chars behind))
cut_chars text front behind mark c utf8 =
    c.whole
    ∙ ap (λ f. f ++ (encode_utf8 mark ++ behind)) (sym c.clear.1)
    ∙ ap (λ l. encode_utf8_all c.clear.0 ++ (encode_utf8 mark ++ l)) (sym (encodes-chars behind utf8))
    ∙ sym (encodes-append c.clear.0 (mark ∷ chars behind))

-- what is before and behind is that of each such text
record SameParts (front behind more fs bs : List ℕ) : Type 0 where
  pub fronts : front ≡ encode_utf8_all fs
  pub backs : behind ≡ more ++ encode_utf8_all bs

same_parts : (separator more text front behind fs bs : List ℕ) (mark : ℕ) → IsUtf8 separator → IsUtf8 more → IsUtf8 behind → chars separator ≡ mark ∷ chars more → IsCutAt mark text front behind
    → lacks_first (chars separator) fs ≡ true → text ≡ encode_utf8_all fs ++ (separator ++ encode_utf8_all bs) → SameParts front behind more fs bs
same_parts separator more text front behind fs bs mark first second third is c lacks whole =
    let cut : SameCut mark c.clear.0 (chars behind) fs (chars more ++ bs) = same_cut mark c.clear.0 (chars behind) fs (chars more ++ bs) c.clear.2 (lacks_by (chars separator) fs (chars more) mark is lacks)
    (sym (cut_chars text front behind mark c third) ∙ whole_chars separator text fs bs (chars more) mark first is whole) in
    record {
      fronts = sym c.clear.1 ∙ ap encode_utf8_all cut.fronts;
      backs = sym (encodes-chars behind third) ∙ ap encode_utf8_all cut.backs ∙ encodes-append (chars more) bs ∙ ap (λ l. l ++ encode_utf8_all bs) (encodes-chars more second);
    }

pub only_split : (separator more text front behind back : List ℕ) (mark : ℕ) → IsUtf8 separator → IsUtf8 more → IsUtf8 behind → chars separator ≡ mark ∷ chars more → IsCutAt mark text front behind → behind ≡ more ++ back → IsOnlySplit separator text front back
only_split separator more text front behind back mark first second third is c at = record {
  whole = c.whole ∙ ap (λ l. front ++ (encode_utf8 mark ++ l)) at ∙ ap (λ l. front ++ l) (sym (append_assoc (encode_utf8 mark) more back)) ∙ ap (λ s. front ++ (s ++ back)) (sym (separator_is separator more mark first second is));
  only = λ fs bs lacks whole. let parts : SameParts front behind more fs bs = same_parts separator more text front behind fs bs mark first second third is c lacks whole in
      (parts.fronts, append_cancel_left more back (encode_utf8_all bs) (sym at ∙ parts.backs));
}

pub no_separator : (separator text : List ℕ) → chars separator ≡ [] → HasNoSplit separator text
no_separator separator text empty fs bs lacks whole = false≢true (sym (ap (λ s. lacks_first s fs) empty) ∙ lacks)

pub no_mark : (separator more text : List ℕ) (mark : ℕ) → IsUtf8 separator → chars separator ≡ mark ∷ chars more → NoCharPasses (λ c. c == mark) text → HasNoSplit separator text
no_mark separator more text mark utf8 is none fs bs lacks whole =
    never_in mark none.0 fs (chars more ++ bs) none.2 (encodes_same none.0 (fs ++ (mark ∷ (chars more ++ bs))) (none.1 ∙ whole_chars separator text fs bs (chars more) mark utf8 is whole))

pub no_rest : (separator more text front behind : List ℕ) (mark : ℕ) → IsUtf8 separator → IsUtf8 more → IsUtf8 behind → chars separator ≡ mark ∷ chars more → IsCutAt mark text front behind → ((rest : List ℕ) → behind ≢ more ++ rest) → HasNoSplit separator text
no_rest separator more text front behind mark first second third is c none fs bs lacks whole =
    none (encode_utf8_all bs) (same_parts separator more text front behind fs bs mark first second third is c lacks whole).backs
