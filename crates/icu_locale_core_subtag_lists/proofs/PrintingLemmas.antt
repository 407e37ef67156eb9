-- The events and the length of pieces that are written with a hyphen before each.
use Rattle.std.proofs.Common.{◌≡◌, true, false, eqb, ℕ, ◌+◌, ◌<◌, ◌≤◌, List, [], ◌∷◌, ◌++◌, length, drop, get_or, sym, ap, ◌∙◌, arith}
use Rattle.std.specs.Prelude.{flat_map}
use Rattle.std.proofs.lemmas.Bool.{eqb-true}
use Rattle.std.proofs.lemmas.List.{drop_more, drop_all}
use Rattle.writeable.specs.AnnotatedText.{bytes}
use Rattle.icu_locale_core_grammar.specs.Subtags.{Text, private_text}
use Rattle.icu_locale_core_grammar.specs.Pieces.{hyphen, hyphened, joined_text}
use Rattle.icu_locale_core_grammar.specs.NormalText.{private_pieces}
pub use Rattle.writeable.proofs.AnnotatedTextLemmas.{bytes_joined, no_bytes}

hyphened_bytes : (p rest : Text) → bytes (hyphened p ++ rest) ≡ (bytes (hyphen ∷ []) ++ bytes p) ++ bytes rest
hyphened_bytes p rest = bytes_joined (hyphened p) rest ∙ ap (λ es. es ++ bytes rest) (bytes_joined (hyphen ∷ []) p)

-- the piece at i, and those after it
pub next_piece : (ps : List Text) (i : ℕ) (p : Text) → i < length ps → p ≡ get_or ps i p
    → flat_map hyphened (drop i ps) ≡ hyphened p ++ flat_map hyphened (drop (i + 1) ps)
next_piece ps i p within is =
    ap (flat_map hyphened) (drop_more ps i p within) ∙ ap (λ q. hyphened q ++ flat_map hyphened (drop (i + 1) ps)) (sym is)

pub next_piece_events : (ps : List Text) (i : ℕ) (p : Text) → i < length ps → p ≡ get_or ps i p
    → bytes (flat_map hyphened (drop i ps)) ≡ (bytes (hyphen ∷ []) ++ bytes p) ++ bytes (flat_map hyphened (drop (i + 1) ps))
next_piece_events ps i p within is = ap bytes (next_piece ps i p within is) ∙ hyphened_bytes p (flat_map hyphened (drop (i + 1) ps))

-- past the last piece
pub no_piece : (ps : List Text) (i : ℕ) → length ps ≤ i → flat_map hyphened (drop i ps) ≡ []
no_piece ps i past = ap (flat_map hyphened) (drop_all i ps past)

pub no_piece_events : (ps : List Text) (i : ℕ) → length ps ≤ i → bytes (flat_map hyphened (drop i ps)) ≡ []
no_piece_events ps i past = ap bytes (no_piece ps i past) ∙ no_bytes

-- ---- private pieces

pub no_private_events : (own : List Text) → eqb (length own) 0 ≡ true → bytes (joined_text (private_pieces own)) ≡ []
no_private_events [] none = no_bytes
no_private_events (w ∷ ws) none = let wrong : length (w ∷ ws) ≡ 0 = eqb-true (length (w ∷ ws)) 0 none in absurd (omega (arith, wrong))

pub private_events : (own : List Text) → eqb (length own) 0 ≡ false → bytes (joined_text (private_pieces own)) ≡ bytes private_text ++ bytes (flat_map hyphened own)
private_events [] some = cc
private_events (w ∷ ws) some = bytes_joined private_text (flat_map hyphened (w ∷ ws))

-- ---- sets

pub set_events : (set slice : List Text) (first : Text) (others : List Text) → slice ≡ set → slice ≡ first ∷ others
    → bytes (joined_text set) ≡ bytes first ++ bytes (flat_map hyphened others)
set_events set slice first others same cut = ap (λ l. bytes (joined_text l)) (sym same ∙ cut) ∙ bytes_joined first (flat_map hyphened others)

pub no_set_events : (set slice : List Text) → slice ≡ set → length slice ≡ 0 → bytes (joined_text set) ≡ []
no_set_events set (t ∷ slice) same none = absurd (omega (arith, none))
no_set_events set [] same none = ap (λ l. bytes (joined_text l)) (sym same) ∙ no_bytes
