-- What several writes leave.
use Rattle.std.proofs.Common.{◌≡◌, ℕ, ◌-◌, List, ◌++◌, length, take, drop, Option, sym, ap, ◌∙◌, subst, append_assoc, take-append-drop}
use Rattle.std.proofs.lemmas.List.{take_rest}
use Rattle.std.proofs.Math.Seq.{take-append_seam}
use Rattle.std.specs.Io.KnownBytes.{Appends, Keeps}
use Rattle.std.proofs.KnownBytes.{Appends-trans, Appends-kept}
use Rattle.locale_numbers_lines.specs.Run.{WritesFront}

-- after a write of n bytes of the rest
pub sent_more : (bytes sent rest : List ℕ) (n : ℕ) → bytes ≡ sent ++ rest → bytes ≡ (sent ++ take n rest) ++ take (length rest - n) (drop n rest)
sent_more bytes sent rest n whole =
    whole ∙ ap (λ l. sent ++ l) (sym (take-append-drop n rest)) ∙ sym (append_assoc sent (take n rest) (drop n rest)) ∙ ap (λ l. (sent ++ take n rest) ++ l) (sym (take_rest rest n))

-- bytes that begin with what was written
pub front_written : (bytes front rest : List ℕ) (held holds : Option (List ℕ)) → bytes ≡ front ++ rest → Appends held holds front → WritesFront bytes held holds
front_written bytes front rest held holds whole wrote =
    record { count = length front; wrote = subst (Appends held holds) (sym (ap (take (length front)) whole ∙ take-append_seam front rest)) wrote }

-- a last write that failed and kept what was there
pub front_kept : (bytes sent rest : List ℕ) (held holding holds : Option (List ℕ)) → bytes ≡ sent ++ rest → Appends held holding sent → Keeps holding holds → WritesFront bytes held holds
front_kept bytes sent rest held holding holds whole wrote same = front_written bytes sent rest held holds whole (Appends-kept held holding holds sent wrote same)

-- a last write of n bytes
pub front_sent : (bytes sent rest : List ℕ) (n : ℕ) (held holding holds : Option (List ℕ)) → bytes ≡ sent ++ rest → Appends held holding sent → Appends holding holds (take n rest)
    → WritesFront bytes held holds
front_sent bytes sent rest n held holding holds whole wrote more =
    front_written bytes (sent ++ take n rest) (take (length rest - n) (drop n rest)) held holds (sent_more bytes sent rest n whole) (Appends-trans held holding holds sent (take n rest) wrote more)
