-- Listed parts have whole characters of the text, and keep them when the text grows.
use Rattle.std.proofs.Common.{◌≡◌, ℕ, List, ◌∷◌, ◌++◌, drop, sym, subst, arith}
use Rattle.std.specs.Prelude.{All, IsUtf8, IsCharBoundary}
use Rattle.std.proofs.lemmas.List.{drop-append-le, length-append}
use Rattle.std.proofs.lemmas.List.Elements.{All-drop}
use Rattle.std.proofs.lemmas.Str.{IsCharBoundary-from_drop, IsUtf8-append, IsUtf8-drop}
use Rattle.writeable.specs.ListedParts.{FitTogether, IsCutOut}
use Rattle.writeable.specs.declared.part.Part.{Part}
use Rattle.writeable.specs.declared.parts_sink.OpenPart.{OpenPart}

-- where a character of a text begins, one still does with a text after it
boundary_stays : (text more : List ℕ) (i : ℕ) → IsUtf8 text → IsUtf8 more → IsCharBoundary text i → IsCharBoundary (text ++ more) i
boundary_stays text more i one two cut =
    IsCharBoundary-from_drop (text ++ more) i (rw (length-append text more) (omega (arith, cut.0)))
    (subst IsUtf8 (sym (drop-append-le i text more cut.0)) (IsUtf8-append (drop i text) more (IsUtf8-drop text i one cut) two))

-- so the fields still fit each other
pub fit_with_more : (text more : List ℕ) (parts : List (ℕ × ℕ × Part)) (open_parts : List OpenPart) → IsUtf8 text → IsUtf8 more
    → FitTogether text parts open_parts → FitTogether (text ++ more) parts open_parts
fit_with_more text more parts open_parts one two fit = record {
  places = fit.places;
  cut_out = λ k d within.
      let cut = fit.cut_out k d within in
      record {
        ordered = cut.ordered;
        start = boundary_stays text more _ one two cut.start;
        end = boundary_stays text more _ one two cut.end;
      };
  begun = λ k d within. boundary_stays text more _ one two (fit.begun k d within);
}

-- the first of the listed parts, and those after it
pub first_cut_out : (text : List ℕ) (listed : ℕ × ℕ × Part) (parts more : List (ℕ × ℕ × Part)) → parts ≡ listed ∷ more
    → All (IsCutOut text) parts → IsCutOut text listed
first_cut_out text listed parts more is all = (subst (All (IsCutOut text)) is all) 0 listed (omega arith)

pub others_cut_out : (text : List ℕ) (listed : ℕ × ℕ × Part) (parts more : List (ℕ × ℕ × Part)) → parts ≡ listed ∷ more
    → All (IsCutOut text) parts → All (IsCutOut text) more
others_cut_out text listed parts more is all = All-drop (IsCutOut text) 1 (listed ∷ more) (subst (All (IsCutOut text)) is all)
