-- A text that grew may be cut where it ended before.
use Rattle.std.proofs.Common.{◌≡◌, ℕ, ◌≤◌, List, length, take, sym, ap, ◌∙◌, subst, arith, length-append}
use Rattle.std.proofs.Math.Seq.{take-append_seam}
use Rattle.std.specs.Str.{IsUtf8}
use Rattle.std.proofs.lemmas.Str.{IsCharBoundary-from_take}
use Rattle.std.specs.String.Boundary.{IsSplitPoint}
use Rattle.locale_numbers_lines.specs.Growth.{Grows}

pub IsSplitPoint-grown : (old new : List ℕ) (n : ℕ) → IsUtf8 old → IsUtf8 new → Grows old new → n ≡ length old → IsSplitPoint new n
IsSplitPoint-grown old new n text_old text_new grows at =
    let inside : n ≤ length new = omega (arith, at, ap length grows.grew, length-append old grows.more) in
    let front : take n new ≡ old = ap (λ k. take k new) at ∙ ap (take (length old)) grows.grew ∙ take-append_seam old grows.more in
    let boundary = IsCharBoundary-from_take new n text_new inside (subst IsUtf8 (sym front) text_old) in
    (inside, λ above below high. boundary.1 below high)
