-- The text of the extensions of a tag, part by part.
use Rattle.std.proofs.Common.{◌≡◌, ℕ, ◌+◌, ◌<◌, ◌≤◌, Bool, true, false, ◌&&◌, List, [], ◌∷◌, ◌++◌, length, take, drop, get_or, refl, sym, ap, subst, ◌∙◌, append_assoc}
use Rattle.std.specs.Prelude.{flat_map}
use Rattle.std.proofs.Math.Bool.{and-true}
use Rattle.std.proofs.lemmas.List.{drop_more, drop_all}
use Rattle.std.proofs.lemmas.List.Concat.{flat_map-append}
use Rattle.writeable.specs.AnnotatedText.{Event, bytes}
use Rattle.writeable.specs.Taking.{IsWriting}
use Rattle.writeable.proofs.WritingLemmas.{writing_goes_on}
use Rattle.icu_locale_core_subtag_lists.proofs.PrintingLemmas.{bytes_joined}
use Rattle.icu_locale_core_grammar.specs.Subtags.{Text, private_text}
use Rattle.icu_locale_core_grammar.specs.Collections.{Entry}
use Rattle.icu_locale_core_grammar.specs.Extensions.{Block, spelled_block}
use Rattle.icu_locale_core_grammar.specs.Meaning.{Part, other}
use Rattle.icu_locale_core_grammar.specs.NormalText.{unicode_block, transform_block, other_block, other_blocks, block_pieces, before_transform, private_pieces}
use Rattle.icu_locale_core_grammar.specs.Pieces.{hyphened}
use Rattle.icu_locale_core_grammar.specs.TagStages.{has_none}
use Rattle.icu_locale_core_extensions.specs.ExtensionText.{own_pieces, placed, placed_then, ordered_events}
use Rattle.icu_locale_core_extensions.specs.ExtensionsText.{extensions_pieces}
use Rattle.icu_locale_core_extensions.specs.ExtensionsValue.{ExtensionsValue}
use Rattle.icu_locale_core_extensions.proofs.BlockLemmas.{nothing_placed, private_block}

-- ---- pieces after pieces

placed_joined : (b : Bool) (ps qs : List Text) → placed b (ps ++ qs) ≡ placed b ps ++ placed (b && has_none ps) qs
placed_joined true [] qs = refl
placed_joined true (p ∷ ps) qs = ap (λ l. p ++ l) (flat_map-append hyphened ps qs) ∙ sym (append_assoc p (flat_map hyphened ps) (flat_map hyphened qs))
placed_joined false ps qs = flat_map-append hyphened ps qs

placed_bytes : (b : Bool) (ps qs : List Text) → bytes (placed b (ps ++ qs)) ≡ bytes (placed b ps) ++ bytes (placed (b && has_none ps) qs)
placed_bytes b ps qs = ap bytes (placed_joined b ps qs) ∙ bytes_joined (placed b ps) (placed (b && has_none ps) qs)

none_joined : (ps qs : List Text) → has_none (ps ++ qs) ≡ has_none ps && has_none qs
none_joined [] qs = refl
none_joined (p ∷ ps) qs = refl

blocks_joined : (bs cs : List (Block Part)) → block_pieces (bs ++ cs) ≡ block_pieces bs ++ block_pieces cs
blocks_joined bs cs = flat_map-append spelled_block bs cs

-- ---- one write after another

module _ {S : Type 0} (takes : S → List Event → S → Type 0) (refused : S → Bool)
    (joins : (s t u : S) (first second : List Event) → takes s first t → refused t ≡ false → takes t second u → takes s (first ++ second) u) where
  pub placed_goes_on : (s : S) (es : List Event) (t u : S) (b : Bool) (ps : List Text) (next : Bool → List Event) (c : Bool) → IsWriting takes refused s es t (placed_then b ps next)
      → takes t (bytes (placed b ps)) u → refused u ≡ false → c ≡ (b && has_none ps) → IsWriting takes refused s es u (next c)
  placed_goes_on s es t u b ps next c writing taken going still =
      subst (λ d. IsWriting takes refused s es u (next d)) (sym still) (writing_goes_on takes refused joins s es t u (bytes (placed b ps)) (next (b && has_none ps)) writing taken going)

-- ---- others one by one

module _ (os : List Entry) (i : ℕ) (b : Bool) where
  -- the extensions from the i-th on
  abbrev left : ℕ → List Text
  left n = block_pieces (other_blocks (drop n os))

  module _ (o : Entry) (within : i < length os) (is : o ≡ get_or os i o) where
    next_pieces : left i ≡ block_pieces (other_block o) ++ left (i + 1)
    next_pieces =
        ap (λ l. block_pieces (other_blocks l)) (drop_more os i o within ∙ ap (λ f. f ∷ drop (i + 1) os) (sym is))
        ∙ blocks_joined (other_block o) (other_blocks (drop (i + 1) os))

    pub next_other_placed : bytes (placed b (left i)) ≡ bytes (placed b (block_pieces (other_block o))) ++ bytes (placed (b && has_none (block_pieces (other_block o))) (left (i + 1)))
    next_other_placed = ap (λ l. bytes (placed b l)) next_pieces ∙ placed_bytes b (block_pieces (other_block o)) (left (i + 1))

    pub next_other_none : (b && has_none (left i)) ≡ ((b && has_none (block_pieces (other_block o))) && has_none (left (i + 1)))
    next_other_none = ap (λ l. b && has_none l) next_pieces ∙ ap (λ c. b && c) (none_joined (block_pieces (other_block o)) (left (i + 1))) ∙ moved b
      where
        moved : (c : Bool) → (c && (has_none (block_pieces (other_block o)) && has_none (left (i + 1)))) ≡ ((c && has_none (block_pieces (other_block o))) && has_none (left (i + 1)))
        moved true = refl
        moved false = refl

  module _ (past : length os ≤ i) where
    pub no_other_placed : bytes (placed b (left i)) ≡ []
    no_other_placed = ap (λ l. bytes (placed b (block_pieces (other_blocks l)))) (drop_all i os past) ∙ nothing_placed b

    pub no_other_none : (b && has_none (left i)) ≡ b
    no_other_none = ap (λ l. b && has_none (block_pieces (other_blocks l))) (drop_all i os past) ∙ and-true b

-- ---- all of them

module _ (b : Bool) (e : ExtensionsValue) (first last : List Entry) where
  abbrev start : List Text
  start = block_pieces (other_blocks first)

  abbrev middle : List Text
  middle = block_pieces (transform_block e.blocks.transform)

  abbrev later : List Text
  later = block_pieces (unicode_block e.blocks.unicode)

  abbrev end : List Text
  end = block_pieces (other_blocks last)

  abbrev private : List Text
  private = own_pieces private_text e.own (other e.own)

  -- in parts
  in_parts : block_pieces (other_blocks first ++ (transform_block e.blocks.transform ++ (unicode_block e.blocks.unicode ++ other_blocks last))) ++ private_pieces e.own
      ≡ start ++ (middle ++ (later ++ (end ++ private)))
  in_parts =
      (λ i. block_pieces (other_blocks first ++ (transform_block e.blocks.transform ++ (unicode_block e.blocks.unicode ++ other_blocks last))) ++ sym (private_block e.own) i)
      ∙ ap (λ l. l ++ private)
      (blocks_joined (other_blocks first) (transform_block e.blocks.transform ++ (unicode_block e.blocks.unicode ++ other_blocks last))
      ∙ ap (λ l. start ++ l)
      (blocks_joined (transform_block e.blocks.transform) (unicode_block e.blocks.unicode ++ other_blocks last)
      ∙ ap (λ l. middle ++ l) (blocks_joined (unicode_block e.blocks.unicode) (other_blocks last))))
      ∙ append_assoc start (middle ++ (later ++ end)) private
      ∙ ap (λ l. start ++ l) (append_assoc middle (later ++ end) private ∙ ap (λ l. middle ++ l) (append_assoc later end private))

  placed_parts : bytes (placed b (start ++ (middle ++ (later ++ (end ++ private))))) ≡ ordered_events b first e last
  placed_parts =
      let begins_transform = b && has_none start in
      let begins_unicode = begins_transform && has_none middle in
      let begins_last = begins_unicode && has_none later in
      placed_bytes b start (middle ++ (later ++ (end ++ private)))
      ∙ ap (λ l. bytes (placed b start) ++ l)
      (placed_bytes begins_transform middle (later ++ (end ++ private))
      ∙ ap (λ l. bytes (placed begins_transform middle) ++ l)
      (placed_bytes begins_unicode later (end ++ private)
      ∙ ap (λ l. bytes (placed begins_unicode later) ++ l) (placed_bytes begins_last end private)))

  -- cut where `t` and `u` go
  pub placed_in_order : (n : ℕ) → n ≡ before_transform e.blocks.others → first ≡ take n e.blocks.others → last ≡ drop n e.blocks.others
      → bytes (placed b (extensions_pieces e)) ≡ ordered_events b first e last
  placed_in_order n place front back =
      let os = e.blocks.others in
      let before : take (before_transform os) os ≡ first = sym (front ∙ ap (λ m. take m os) place) in
      let behind : drop (before_transform os) os ≡ last = sym (back ∙ ap (λ m. drop m os) place) in
      (λ i. bytes (placed b (block_pieces (other_blocks (before i) ++ (transform_block e.blocks.transform ++ (unicode_block e.blocks.unicode ++ other_blocks (behind i)))) ++ private_pieces e.own)))
      ∙ ap (λ l. bytes (placed b l)) in_parts ∙ placed_parts
