-- A short text, laid and put.
use Rattle.std.proofs.Common.{◌≡◌, ℕ, ◌+◌, ◌≤◌, List, ◌++◌, drop, length, length-append, length-drop, take, sym, ap, ◌∙◌, arith}
use Rattle.std.proofs.lemmas.List.{length-take-le, take-append-le}
use Rattle.std.proofs.Math.Seq.{take-append-add, take-append_seam}

-- a text that was laid at the front
pub front_laid : (text laid rest bytes : List ℕ) (n : ℕ) → laid ≡ text → bytes ≡ laid ++ rest → n ≡ length text → take n bytes ≡ text
front_laid text laid rest bytes n same is count =
    ap (λ k. take k bytes) count ∙ ap (take (length text)) (is ∙ ap (λ t. t ++ rest) same) ∙ take-append_seam text rest

-- and the bytes then
pub laid_long : (text laid before bytes : List ℕ) (n : ℕ) → laid ≡ text → length text ≤ n → length before ≡ n → bytes ≡ laid ++ drop (0 + length laid) before → length bytes ≡ n
laid_long text laid before bytes n same few long is =
    let size = ap length is ∙ length-append laid (drop (0 + length laid) before) in
    let count = ap length same in
    omega (arith, size, count, few, long, length-drop (0 + length laid) before)

-- the first ones of bytes that were laid after others
pub laid_put : (out bytes rest new : List ℕ) (len count size : ℕ) → len ≤ length out → length bytes ≡ size → count ≤ size → new ≡ take len out ++ (bytes ++ rest) → take (len + count) new ≡ take len out ++ take count bytes
laid_put out bytes rest new len count size room all few is =
    let long : length (take len out) ≡ len = length-take-le len out room in
    ap (take (len + count)) is
    ∙ ap (λ n. take (n + count) (take len out ++ (bytes ++ rest))) (sym long)
    ∙ take-append-add (take len out) (bytes ++ rest) count
    ∙ ap (λ text. take len out ++ text) (take-append-le count bytes rest (omega (arith, all, few)))
