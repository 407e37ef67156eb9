-- A call that refuses before it has written leaves what was there; what was found last is one thing; what makes a call succeed is not so where it fails.
use Rattle.std.proofs.Common.{◌≡◌, List, [], ◌++◌, ℕ, sym, ap, ◌∙◌, Option, Some, Result, Ok, Err, OnErr, OnOk}
use Rattle.std.proofs.lemmas.Bool.{false≢true}
use Rattle.std.proofs.lemmas.List.{append-nil}
use Rattle.std.specs.Prelude.{IsOk}
pub use Rattle.std.proofs.lemmas.Result.{on_ok_weaker as on_ok_by}
use Rattle.locale_numbers_lines.specs.Growth.{Grows}

pub grows_by_none : {T E : Type 0} (r : Result T E) (held : List ℕ) → OnErr r (Grows held held)
grows_by_none (Ok t) held = tt
grows_by_none (Err e) held = record { more = []; grew = sym (append-nil held) }

pub grows_same : {T E : Type 0} (r : Result T E) (held new : List ℕ) → OnErr r (new ≡ held) → OnErr r (Grows held new)
grows_same (Ok t) held new same = tt
grows_same (Err e) held new same = record { more = []; grew = same ∙ sym (append-nil held) }

-- of two that the latest is, one is the other
pub one_of : {K : Type 0} (one other : K) (latest : Option K) → latest ≡ Some one → latest ≡ Some other → one ≡ other
one_of one other latest is found = let same : Some one ≡ Some other = sym is ∙ found in cc

-- what is so is so where it fails
pub so_on_err : {T E : Type 0} (r : Result T E) (Q : Type 0) → Q → OnErr r Q
so_on_err (Ok t) Q q = tt
so_on_err (Err e) Q q = q

pub not_on_err : {T E : Type 0} (r : Result T E) (Q : Type 0) → (Q → IsOk r) → OnErr r (Q → ⊥)
not_on_err (Ok t) Q succeeds = tt
not_on_err (Err e) Q succeeds = λ q. false≢true (succeeds q)

-- what is written is another answer, which is the same
pub on_ok_same : {T E : Type 0} (r : Result T E) (text held one two : List ℕ) → one ≡ two → OnOk r (text ≡ held ++ one) → OnOk r (text ≡ held ++ two)
on_ok_same (Ok t) text held one two same is = is ∙ ap (λ answer. held ++ answer) same
on_ok_same (Err e) text held one two same is = is
