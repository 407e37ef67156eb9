-- Units with no fault so far, one unit on; and that what has a fault is no text.
use Rattle.std.proofs.Common.{◌≡◌, ℕ, suc, ◌+◌, ◌-◌, ◌<◌, ◌≤◌, Bool, true, false, inl, inr, ◌≢◌, List, [], ◌∷◌, ◌++◌, length, take, drop, get_or, replicate, refl, sym, ap, arith, nat_lt, ◌∙◌}
use Rattle.std.specs.List.{list_all}
use Rattle.std.proofs.lemmas.Bool.{and_parts, and_from}
use Rattle.std.proofs.lemmas.Bool.Decides.{nat_tests}
use Rattle.std.proofs.lemmas.List.{append-nil, append_assoc, take_more, take-append-drop, drop_more, replicate_more}
use Rattle.std.proofs.lemmas.List.Folds.{list_all-append}
use Rattle.tinystr.specs.SmallText.{NUL, LAST_ASCII, is_text_byte, IsSmall}
use Rattle.tinystr.specs.declared.error.ParseError.{ParseError}
use Rattle.tinystr.specs.declared.error.ParseError.TheVariants.{TooLong, ContainsNull, NonAscii}
use Rattle.tinystr.specs.Faults.{IsFaultless, StopsAtNonAscii, StopsAfterNul, EndsInNul, IsFault}

-- nothing read
pub faultless_none : IsFaultless false []
faultless_none = record { nuls = 0; clean = record { text = []; ascii = refl; whole = refl }; seen = refl }

one_nul_more : (text front : List ℕ) (nuls : ℕ) → front ≡ text ++ replicate nuls NUL → front ++ NUL ∷ [] ≡ text ++ replicate (suc nuls) NUL
one_nul_more text front nuls e =
    let count : nuls + 1 ≡ suc nuls = omega arith in
    ap (λ l. l ++ NUL ∷ []) e ∙ append_assoc text (replicate nuls NUL) (NUL ∷ []) ∙ ap (λ l. text ++ l) (replicate_more nuls NUL ∙ ap (λ k. replicate k NUL) count)

some_is_seen : (k : ℕ) → true ≡ nat_lt 0 (suc k)
some_is_seen k = grind (arith, nat_tests)

-- a NUL may follow
pub faultless_nul : (nul : Bool) (units : List ℕ) (i : ℕ) → i < length units → IsFaultless nul (take i units)
    → get_or units i 0 ≡ NUL → IsFaultless true (take (i + 1) units)
faultless_nul nul units i within clean is =
    let more : take (i + 1) units ≡ take i units ++ NUL ∷ [] = take_more units i 0 within ∙ ap (λ u. take i units ++ u ∷ []) is in
    record {
      nuls = suc clean.nuls;
      clean = record {
        text = clean.clean.text;
        ascii = clean.clean.ascii;
        whole = more ∙ one_nul_more clean.clean.text (take i units) clean.nuls clean.clean.whole;
      };
      seen = some_is_seen clean.nuls;
    }

no_nuls : (nul : Bool) (nuls : ℕ) → nul ≡ false → nul ≡ nat_lt 0 nuls → nuls ≡ 0
no_nuls nul nuls absent e = grind (arith, nat_tests)

some_nuls : (nul : Bool) (nuls : ℕ) → nul ≡ true → nul ≡ nat_lt 0 nuls → nuls ≡ suc (nuls - 1)
some_nuls nul nuls present e = let h : 0 < nuls = grind (arith, nat_tests) in omega arith

-- a text byte may follow where no NUL was seen
pub faultless_text : (nul : Bool) (units : List ℕ) (i : ℕ) → i < length units → IsFaultless nul (take i units)
    → nul ≡ false → is_text_byte (get_or units i 0) ≡ true → IsFaultless nul (take (i + 1) units)
faultless_text nul units i within clean absent is =
    let unit = get_or units i 0 in
    let text = clean.clean.text in
    let none : clean.nuls ≡ 0 = no_nuls nul clean.nuls absent clean.seen in
    let front : take i units ≡ text = clean.clean.whole ∙ ap (λ k. text ++ replicate k NUL) none ∙ append-nil text in
    record {
      nuls = 0;
      clean = record {
        text = text ++ unit ∷ [];
        ascii = list_all-append is_text_byte text (unit ∷ []) ∙ and_from (list_all is_text_byte text) (list_all is_text_byte (unit ∷ [])) clean.clean.ascii (and_from (is_text_byte unit) true is refl);
        whole = take_more units i 0 within ∙ ap (λ l. l ++ unit ∷ []) front ∙ sym (append-nil (text ++ unit ∷ []));
      };
      seen = absent;
    }

split_here : (units : List ℕ) (i : ℕ) → i < length units → units ≡ take i units ++ get_or units i 0 ∷ drop (i + 1) units
split_here units i within = sym (take-append-drop i units) ∙ ap (λ l. take i units ++ l) (drop_more units i 0 within)

-- where it stops, the fault is named
pub stops_at_non_ascii : (nul : Bool) (units : List ℕ) (i : ℕ) → i < length units → IsFaultless nul (take i units)
    → LAST_ASCII < get_or units i 0 → StopsAtNonAscii units
stops_at_non_ascii nul units i within clean above = record {
  front = take i units;
  nuls = clean.nuls;
  unit = get_or units i 0;
  rest = drop (i + 1) units;
  clean = clean.clean;
  whole = split_here units i within;
  above = above;
}

pub stops_after_nul : (nul : Bool) (units : List ℕ) (i : ℕ) → i < length units → IsFaultless nul (take i units)
    → nul ≡ true → is_text_byte (get_or units i 0) ≡ true → StopsAfterNul units
stops_after_nul nul units i within clean present is = record {
  front = take i units;
  nuls = clean.nuls - 1;
  unit = get_or units i 0;
  rest = drop (i + 1) units;
  clean = record {
    text = clean.clean.text;
    ascii = clean.clean.ascii;
    whole = clean.clean.whole ∙ ap (λ k. clean.clean.text ++ replicate k NUL) (some_nuls nul clean.nuls present clean.seen);
  };
  whole = split_here units i within;
  behind = is;
}

pub ends_in_nul : (nul : Bool) (units : List ℕ) → IsFaultless nul units → nul ≡ true → EndsInNul units
ends_in_nul nul units clean present = record {
  nuls = clean.nuls - 1;
  clean = record {
    text = clean.clean.text;
    ascii = clean.clean.ascii;
    whole = clean.clean.whole ∙ ap (λ k. clean.clean.text ++ replicate k NUL) (some_nuls nul clean.nuls present clean.seen);
  };
}

pub no_nul_is_text : (nul : Bool) (units : List ℕ) → IsFaultless nul units → nul ≡ false → list_all is_text_byte units ≡ true
no_nul_is_text nul units clean absent =
    let none : clean.nuls ≡ 0 = no_nuls nul clean.nuls absent clean.seen in
    let text : units ≡ clean.clean.text = clean.clean.whole ∙ ap (λ k. clean.clean.text ++ replicate k NUL) none ∙ append-nil clean.clean.text in
    rw text clean.clean.ascii

pub text_unit : (unit : ℕ) → unit ≤ LAST_ASCII → unit ≢ NUL → is_text_byte unit ≡ true
text_unit unit below other = grind (arith, nat_tests)

-- what is at a place of a text is a text byte
text_at : (front : List ℕ) (unit : ℕ) (rest : List ℕ) → list_all is_text_byte (front ++ unit ∷ rest) ≡ true → is_text_byte unit ≡ true
text_at front unit rest all =
    let both = and_parts (list_all is_text_byte front) (list_all is_text_byte (unit ∷ rest)) (sym (list_all-append is_text_byte front (unit ∷ rest)) ∙ all) in
    let here = and_parts (is_text_byte unit) (list_all is_text_byte rest) both.1 in
    here.0

-- what has a NUL is no text
nul_is_no_text : (text : List ℕ) (nuls : ℕ) (rest : List ℕ) → list_all is_text_byte ((text ++ replicate (suc nuls) NUL) ++ rest) ≡ true → ⊥
nul_is_no_text text nuls rest all =
    let e : (text ++ replicate (suc nuls) NUL) ++ rest ≡ text ++ NUL ∷ (replicate nuls NUL ++ rest) = append_assoc text (replicate (suc nuls) NUL) rest in
    let here : is_text_byte NUL ≡ true = text_at text NUL (replicate nuls NUL ++ rest) (rw e at all) in
    absurd (grind (arith, nat_tests))

pub above_is_no_text : (unit : ℕ) → LAST_ASCII < unit → is_text_byte unit ≡ true → ⊥
above_is_no_text unit above is = grind (arith, nat_tests)

-- what has a fault is no text
pub fault_refuses : (strict : Bool) (n : ℕ) (units : List ℕ) (e : ParseError) → IsFault strict n units e → IsSmall n units → ⊥
fault_refuses strict n units (TooLong max len) fault small = omega (arith, fault.0, small.short)
fault_refuses strict n units NonAscii fault small =
    let stop = fault.1 in
    above_is_no_text stop.unit stop.above (text_at stop.front stop.unit stop.rest (rw stop.whole at small.ascii))
fault_refuses strict n units ContainsNull fault small = elim fault.1 [
  | inl stop ↦
      let e : units ≡ (stop.clean.text ++ replicate (suc stop.nuls) NUL) ++ stop.unit ∷ stop.rest = stop.whole ∙ ap (λ l. l ++ stop.unit ∷ stop.rest) stop.clean.whole in
      nul_is_no_text stop.clean.text stop.nuls (stop.unit ∷ stop.rest) (rw e at small.ascii)
  | inr ends ↦
      let e : units ≡ (ends.1.clean.text ++ replicate (suc ends.1.nuls) NUL) ++ [] = ends.1.clean.whole ∙ sym (append-nil (ends.1.clean.text ++ replicate (suc ends.1.nuls) NUL)) in
      nul_is_no_text ends.1.clean.text ends.1.nuls [] (rw e at small.ascii)
]
