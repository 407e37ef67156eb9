-- Where `split_once` cuts a text: `specs/Cuts.antt`.
use Rattle.std.proofs.Common.{Bor, ◌≡◌, ◌≢◌, ◌<◌, ◌≤◌, ◌+◌, ℕ, zero, suc, Bool, true, false, List, [], ◌∷◌, ◌++◌, length, take, drop, Option, None, Some, option_map, refl, sym, ap, ◌∙◌, arith}
use Rattle.std.specs.Cmp.Lexicographic.{bytes_decides}
use Rattle.std.specs.Option.{MatchOption}
use Rattle.std.specs.Str.Pattern.{FindsText, LacksTextAt, SplitsAroundMatch}
use Rattle.std.proofs.Math.Seq.{take-append_seam}
use Rattle.std.proofs.lemmas.List.{take-append-drop}
use Rattle.locale_numbers_words.specs.Cuts.{begins, cut_at}

begins_true : (n t : List ℕ) → begins n t ≡ true → t ≡ n ++ drop (length n) t
begins_true n t h =
    let front : n ≡ take (length n) t = (bytes_decides n (take (length n) t)).0 h in
    sym (take-append-drop (length n) t) ∙ ap (λ xs. xs ++ drop (length n) t) (sym front)

begins_not : (n t : List ℕ) → ((rest : List ℕ) → t ≢ n ++ rest) → (b : Bool) → begins n t ≡ b → b ≡ false
begins_not n t none true h = absurd (none (drop (length n) t) (begins_true n t h))
begins_not n t none false h = refl

begins_here : (n t rest : List ℕ) → t ≡ n ++ rest → begins n t ≡ true
begins_here n t rest is =
    let front : n ≡ take (length n) t = sym (ap (take (length n)) is ∙ take-append_seam n rest) in
    (bytes_decides n (take (length n) t)).1 front

cut_none : (n s : List ℕ) → ((i : ℕ) → i ≤ length s → LacksTextAt n s i) → cut_at n s ≡ None
cut_none n [] none = refl
cut_none n (b ∷ bs) none =
    let here : begins n (b ∷ bs) ≡ false = begins_not n (b ∷ bs) (none 0 (omega arith)) (begins n (b ∷ bs)) refl in
    let later : cut_at n bs ≡ None = cut_none n bs (λ i low. none (suc i) (omega (arith, low))) in
    rw (here, later) refl

no_room : (n rest : List ℕ) → 0 < length n → [] ≡ n ++ rest → ⊥
no_room [] rest some is = absurd (omega (arith, some))
no_room (b ∷ bs) rest some is = cc

cut_some : (n s : List ℕ) (i : ℕ) → 0 < length n → ((k : ℕ) → k < i → LacksTextAt n s k) → drop i s ≡ n ++ drop (i + length n) s
    → cut_at n s ≡ Some (take i s, drop (i + length n) s)
cut_some n [] zero some none is = absurd (no_room n _ some is)
cut_some n [] (suc i) some none is = absurd (no_room n _ some is)
cut_some n (b ∷ bs) zero some none is =
    let here : begins n (b ∷ bs) ≡ true = begins_here n (b ∷ bs) (drop (0 + length n) (b ∷ bs)) is in
    let same : length n ≡ 0 + length n = omega arith in
    rw here (ap (λ k. Some ([], drop k (b ∷ bs))) same)
cut_some n (b ∷ bs) (suc i) some none is =
    let here : begins n (b ∷ bs) ≡ false = begins_not n (b ∷ bs) (none 0 (omega arith)) (begins n (b ∷ bs)) refl in
    let place : suc i + length n ≡ suc (i + length n) = omega arith in
    let back : drop (suc i + length n) (b ∷ bs) ≡ drop (i + length n) bs = ap (λ k. drop k (b ∷ bs)) place in
    let later : cut_at n bs ≡ Some (take i bs, drop (i + length n) bs) = cut_some n bs i some (λ k low. none (suc k) (omega (arith, low))) (is ∙ ap (λ xs. n ++ xs) back) in
    rw (here, later) (ap (λ xs. Some (b ∷ take i bs, xs)) (sym back))

pub cut_found : (n s : List ℕ) (r : Option (Bor (List ℕ) × Bor (List ℕ))) → 0 < length n
    → MatchOption r (FindsText n s None) (λ x. SplitsAroundMatch (FindsText n) s x.0.now x.1.now)
    → option_map (λ parts. (parts.0.now, parts.1.now)) r ≡ cut_at n s
cut_found n s None some none = sym (cut_none n s none)
cut_found n s (Some x) some m =
    let place : m.1 ≡ m.0 + length n = m.2.1.ends in
    let split : drop m.0 s ≡ n ++ drop (m.0 + length n) s = m.2.1.split ∙ ap (λ k. n ++ drop k s) place in
    let found : cut_at n s ≡ Some (take m.0 s, drop (m.0 + length n) s) = cut_some n s m.0 some m.2.0 split in
    let front : x.0.now ≡ take m.0 s = m.3 in
    let back : x.1.now ≡ drop (m.0 + length n) s = m.4 ∙ ap (λ k. drop k s) place in
    (λ k. Some (front k, back k)) ∙ sym found
