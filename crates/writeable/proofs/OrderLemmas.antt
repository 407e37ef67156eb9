-- The order that a comparison ends with.
use Rattle.std.proofs.Common.{◌≡◌, ℕ, List, [], ◌∷◌, ◌++◌, refl, ap, ◌∙◌, arith}
use Rattle.std.specs.Ordering.{nat_cmp, ordering_then}
use Rattle.std.proofs.lemmas.Bool.Decides.{nat_tests}
use Rattle.std.specs.declared.cmp.Ordering.{Ordering}
use Rattle.std.proofs.lemmas.List.{append-nil}
use Rattle.std.specs.declared.cmp.Ordering.TheVariants.{Equal}
use Rattle.writeable.specs.Order.{byte_order, order_given, Comparison}

-- a comparison that begins with all of the bytes gives the order of the text against them
pub order_of_whole : (start : Comparison) (other text : List ℕ) → start ≡ record { rest = other; so_far = Equal }
    → order_given start.so_far start.rest (text ++ []) ≡ byte_order text other
order_of_whole start other text begins =
    ap (λ (s : Comparison). order_given s.so_far s.rest (text ++ [])) begins
    ∙ ap (λ whole. byte_order whole other) (append-nil text)

-- what is alike at the front of both decides nothing
same_first : (x : ℕ) → nat_cmp x x ≡ Equal
same_first x = grind (arith, nat_tests)

pub alike_front : (piece more rest : List ℕ) → byte_order (piece ++ more) (piece ++ rest) ≡ byte_order more rest
alike_front [] more rest = refl
alike_front (x ∷ piece) more rest = ap (λ o. ordering_then o (byte_order (piece ++ more) (piece ++ rest))) (same_first x) ∙ alike_front piece more rest

-- so a comparison goes on after it
pub alike_goes_on : (so_far : Ordering) (piece whole rest more : List ℕ) → whole ≡ piece ++ rest → order_given so_far rest more ≡ order_given so_far whole (piece ++ more)
alike_goes_on so_far piece whole rest more is = rw is (rw (alike_front piece more rest) refl)
