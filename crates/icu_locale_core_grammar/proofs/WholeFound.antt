-- What the stages of a whole find is meant: pieces that are a front, blocks and a private part.
use Rattle.std.proofs.Common.{◌≡◌, Bool, true, false, List, [], ◌∷◌, ◌++◌, Option, None, Some, map, flat_map, sym, refl, ap, ◌∙◌, subst, append_assoc, append-nil}
use Rattle.std.specs.Prelude.{if◌then◌else◌}
use Rattle.std.specs.List.{AllByRecursion, IsDistinct}
use Rattle.std.proofs.lemmas.List.{map-append}
use Rattle.std.proofs.lemmas.List.Concat.{flat_map-append}
use Rattle.icu_locale_core_grammar.specs.Subtags.{Text, lower}
use Rattle.icu_locale_core_grammar.specs.Collections.{Each, AreApart, contains_text}
use Rattle.icu_locale_core_grammar.specs.Extensions.{Block, spelled_block, block_key, Whole}
use Rattle.icu_locale_core_grammar.specs.Stepping.{run, WholeStage, InFront, AtBlock, InBlock, InPrivate, opened, after_front, at_block, after_block, whole_after, whole_ends}
use Rattle.icu_locale_core_grammar.proofs.ListLemmas.{fold-append, each-append, mapped_some}
use Rattle.icu_locale_core_grammar.proofs.CollectionLemmas.{AreApart-push}
use Rattle.icu_locale_core_grammar.proofs.Runs.{run_joined, run_keeps}
use Rattle.icu_locale_core_grammar.proofs.WholeMeaning.{IsBlock, blocks_meaning, MeansWhole}
use Rattle.icu_locale_core_grammar.proofs.WholeParts.{AreParts}

pub spelled_block_push : {V : Type 0} (bs : List (Block V)) (b : Block V) (tail : List Text) → flat_map spelled_block (bs ++ b ∷ []) ++ tail ≡ flat_map spelled_block bs ++ (spelled_block b ++ tail)
spelled_block_push bs b tail =
    ap (λ l. l ++ tail) (flat_map-append spelled_block bs (b ∷ []) ∙ ap (λ l. flat_map spelled_block bs ++ l) (append-nil (spelled_block b)))
    ∙ append_assoc (flat_map spelled_block bs) (spelled_block b) tail

apart_none : AreApart []
unfolding IsDistinct
apart_none = tt

module _ {L I E B V : Type 0} (step_front : L → Text → Option L) (start : L) (front_ends : L → Option I) (MeansFront : List Text → I → Type 0)
    (step_body : B → Text → Option B) (body_ends : B → Option V) (opens : Text → Option B) (MeansBody : Text → List Text → V → Type 0)
    (put : Text → V → E → E) (none : E) (is_x is_own : Text → Bool)
    (sound : AreParts step_front start front_ends MeansFront step_body body_ends opens MeansBody is_x is_own) where
  abbrev Stage : Type 0
  Stage = WholeStage L I E B

  abbrev after : Stage → Text → Option Stage
  after = whole_after step_front front_ends step_body body_ends opens put none is_x is_own

  abbrev Meant : List Text → Whole I E → Type 0
  Meant = MeansWhole (record { means_front = MeansFront; means_body = MeansBody; put = put; none = none; begins_private = is_x; is_private_piece = is_own })

  -- ---- what was taken

  -- a front, blocks whose keys are `seen`, and a tail
  pub record InBlocks (taken : List Text) (i : I) (seen : List Text) (e : E) (tail : List Text) : Type 0 where
    pub front : List Text
    pub blocks : List (Block V)
    pub parts : front ++ (flat_map spelled_block blocks ++ tail) ≡ taken
    pub meant : MeansFront front i
    pub each : AllByRecursion (IsBlock MeansBody) blocks
    pub keys : map block_key blocks ≡ seen
    pub apart : AreApart seen
    pub together : blocks_meaning put none blocks ≡ e

  pub record AtSingleton (taken : List Text) (i : I) (seen : List Text) (e : E) (k : Text) (b : B) : Type 0 where
    pub singleton : Text
    pub blocks : InBlocks taken i seen e (singleton ∷ [])
    pub key : lower singleton ≡ k
    pub new : contains_text k seen ≡ false
    pub opening : opens singleton ≡ Some b

  pub record InBody (taken : List Text) (i : I) (seen : List Text) (e : E) (k : Text) (b : B) : Type 0 where
    pub singleton : Text
    pub first : Text
    pub rest : List Text
    pub begun : B
    pub blocks : InBlocks taken i seen e (singleton ∷ first ∷ rest)
    pub key : lower singleton ≡ k
    pub new : contains_text k seen ≡ false
    pub opening : opens singleton ≡ Some begun
    pub reached : run step_body (Some begun) (first ∷ rest) ≡ Some b

  pub record InOwn (taken : List Text) (i : I) (e : E) (own : List Text) : Type 0 where
    pub seen : List Text
    pub x : Text
    pub pieces : List Text
    pub blocks : InBlocks taken i seen e (x ∷ pieces)
    pub is : is_x x ≡ true
    pub each : Each is_own pieces
    pub meant : map lower pieces ≡ own

  abbrev pub Stands : List Text → Stage → Type 0
  Stands taken (InFront l) = run step_front (Some start) taken ≡ Some l
  Stands taken (AtBlock i seen e k b) = AtSingleton taken i seen e k b
  Stands taken (InBlock i seen e k b) = InBody taken i seen e k b
  Stands taken (InPrivate i e own) = InOwn taken i e own

  -- ---- one piece more

  extend : (taken : List Text) (i : I) (seen : List Text) (e : E) (tail : List Text) (p : Text) → InBlocks taken i seen e tail → InBlocks (taken ++ p ∷ []) i seen e (tail ++ p ∷ [])
  extend taken i seen e tail p s = record {
    front = s.front;
    blocks = s.blocks;
    parts = ap (λ l. s.front ++ l) (sym (append_assoc (flat_map spelled_block s.blocks) tail (p ∷ []))) ∙ sym (append_assoc s.front (flat_map spelled_block s.blocks ++ tail) (p ∷ [])) ∙ ap (λ l. l ++ p ∷ []) s.parts;
    meant = s.meant;
    each = s.each;
    keys = s.keys;
    apart = s.apart;
    together = s.together;
  }

  close_front : (taken : List Text) (l : L) (i : I) (p : Text) → run step_front (Some start) taken ≡ Some l → front_ends l ≡ Some i → InBlocks (taken ++ p ∷ []) i [] none (p ∷ [])
  close_front taken l i p e f = record { front = taken; blocks = []; parts = refl; meant = sound.front.found taken l i e f; each = tt; keys = refl; apart = apart_none; together = refl }

  -- the block that is read, closed, with a tail after it
  close_block : (taken : List Text) (i : I) (seen : List Text) (e : E) (k : Text) (b : B) (v : V) → InBody taken i seen e k b → body_ends b ≡ Some v
      → InBlocks taken i (seen ++ k ∷ []) (put k v e) []
  close_block taken i seen e k b v s f =
      let block : Block V = record { singleton = s.singleton; body = s.first ∷ s.rest; value = v } in
      let means : IsBlock MeansBody block = record { meant = (sound.body s.singleton s.begun s.opening).found (s.first ∷ s.rest) b v s.reached f; filled = λ e. cc } in
      let before = s.blocks in
      record {
        front = before.front;
        blocks = before.blocks ++ block ∷ [];
        parts = ap (λ l. before.front ++ l) (spelled_block_push before.blocks block [] ∙ ap (λ l. flat_map spelled_block before.blocks ++ l) (append-nil (spelled_block block))) ∙ before.parts;
        meant = before.meant;
        each = each-append (IsBlock MeansBody) before.blocks (block ∷ []) before.each (means, tt);
        keys = map-append block_key before.blocks (block ∷ []) ∙ ap (λ l. l ++ lower s.singleton ∷ []) before.keys ∙ ap (λ q. seen ++ q ∷ []) s.key;
        apart = AreApart-push seen k before.apart s.new;
        together = fold-append (λ x y. put (block_key y) y.value x) none before.blocks (block ∷ []) ∙ ap (λ q. put q v (blocks_meaning put none before.blocks)) s.key ∙ ap (put k v) before.together;
      }

  opened_adds : (taken : List Text) (i : I) (seen : List Text) (e : E) (p : Text) (t : Stage) (o : Option B) → InBlocks taken i seen e (p ∷ []) → contains_text (lower p) seen ≡ false → opens p ≡ o
      → opened step_front front_ends step_body body_ends opens put none is_x is_own i seen e (lower p) o ≡ Some t → Stands taken t
  opened_adds taken i seen e p t None s new f q = cc
  opened_adds taken i seen e p t (Some b) s new f q =
      let same : AtBlock i seen e (lower p) b ≡ t = cc in
      subst (Stands taken) same (record { singleton = p; blocks = s; key = refl; new = new; opening = f })

  repeated_adds : (taken : List Text) (i : I) (seen : List Text) (e : E) (p : Text) (t : Stage) (b : Bool) → InBlocks taken i seen e (p ∷ []) → contains_text (lower p) seen ≡ b
      → (if b then None else opened step_front front_ends step_body body_ends opens put none is_x is_own i seen e (lower p) (opens p)) ≡ Some t → Stands taken t
  repeated_adds taken i seen e p t true s f q = cc
  repeated_adds taken i seen e p t false s f q = opened_adds taken i seen e p t (opens p) s f refl q

  part_adds : (taken : List Text) (i : I) (seen : List Text) (e : E) (p : Text) (t : Stage) (b : Bool) → InBlocks taken i seen e (p ∷ []) → is_x p ≡ b
      → (if b then Some (InPrivate i e []) else (if contains_text (lower p) seen then None else opened step_front front_ends step_body body_ends opens put none is_x is_own i seen e (lower p) (opens p))) ≡ Some t
      → Stands taken t
  part_adds taken i seen e p t true s f q =
      let same : InPrivate i e [] ≡ t = cc in
      subst (Stands taken) same (record { seen = seen; x = p; pieces = []; blocks = s; is = f; each = tt; meant = refl })
  part_adds taken i seen e p t false s f q = repeated_adds taken i seen e p t (contains_text (lower p) seen) s refl q

  front_adds : (taken : List Text) (l : L) (p : Text) (t : Stage) (o : Option L) (i : Option I) → run step_front (Some start) taken ≡ Some l → step_front l p ≡ o → front_ends l ≡ i
      → after_front step_front front_ends step_body body_ends opens put none is_x is_own o i p ≡ Some t → Stands (taken ++ p ∷ []) t
  front_adds taken l p t (Some u) i e f g q =
      let same : InFront u ≡ t = cc in
      subst (Stands (taken ++ p ∷ [])) same (run_joined step_front start l (Some u) taken (p ∷ []) e (ap (λ o. run step_front o []) f))
  front_adds taken l p t None (Some i) e f g q = part_adds (taken ++ p ∷ []) i [] none p t (is_x p) (close_front taken l i p e g) refl q
  front_adds taken l p t None None e f g q = cc

  first_adds : (taken : List Text) (i : I) (seen : List Text) (e : E) (k : Text) (b : B) (p : Text) (t : Stage) (o : Option B) → AtSingleton taken i seen e k b → step_body b p ≡ o
      → at_block step_front front_ends step_body body_ends opens put none is_x is_own i seen e k o ≡ Some t → Stands (taken ++ p ∷ []) t
  first_adds taken i seen e k b p t None s f q = cc
  first_adds taken i seen e k b p t (Some c) s f q =
      let same : InBlock i seen e k c ≡ t = cc in
      subst (Stands (taken ++ p ∷ [])) same (record {
        singleton = s.singleton;
        first = p;
        rest = [];
        begun = b;
        blocks = extend taken i seen e (s.singleton ∷ []) p s.blocks;
        key = s.key;
        new = s.new;
        opening = s.opening;
        reached = ap (λ o. run step_body o []) f;
      })

  body_adds : (taken : List Text) (i : I) (seen : List Text) (e : E) (k : Text) (b : B) (p : Text) (t : Stage) (o : Option B) (v : Option V) → InBody taken i seen e k b → step_body b p ≡ o → body_ends b ≡ v
      → after_block step_front front_ends step_body body_ends opens put none is_x is_own i seen e k o v p ≡ Some t → Stands (taken ++ p ∷ []) t
  body_adds taken i seen e k b p t (Some c) v s f g q =
      let same : InBlock i seen e k c ≡ t = cc in
      subst (Stands (taken ++ p ∷ [])) same (record {
        singleton = s.singleton;
        first = s.first;
        rest = s.rest ++ p ∷ [];
        begun = s.begun;
        blocks = extend taken i seen e (s.singleton ∷ s.first ∷ s.rest) p s.blocks;
        key = s.key;
        new = s.new;
        opening = s.opening;
        reached = run_joined step_body s.begun b (Some c) (s.first ∷ s.rest) (p ∷ []) s.reached (ap (λ o. run step_body o []) f);
      })
  body_adds taken i seen e k b p t None (Some v) s f g q =
      part_adds (taken ++ p ∷ []) i (seen ++ k ∷ []) (put k v e) p t (is_x p) (extend taken i (seen ++ k ∷ []) (put k v e) [] p (close_block taken i seen e k b v s g)) refl q
  body_adds taken i seen e k b p t None None s f g q = cc

  own_adds : (taken : List Text) (i : I) (e : E) (own : List Text) (p : Text) (t : Stage) (b : Bool) → InOwn taken i e own → is_own p ≡ b
      → (if b then Some (InPrivate i e (own ++ lower p ∷ [])) else None) ≡ Some t → Stands (taken ++ p ∷ []) t
  own_adds taken i e own p t true s f q =
      let same : InPrivate i e (own ++ lower p ∷ []) ≡ t = cc in
      subst (Stands (taken ++ p ∷ [])) same (record {
        seen = s.seen;
        x = s.x;
        pieces = s.pieces ++ p ∷ [];
        blocks = extend taken i s.seen e (s.x ∷ s.pieces) p s.blocks;
        is = s.is;
        each = each-append (λ w. is_own w ≡ true) s.pieces (p ∷ []) s.each (f, tt);
        meant = map-append lower s.pieces (p ∷ []) ∙ ap (λ l. l ++ lower p ∷ []) s.meant;
      })
  own_adds taken i e own p t false s f q = cc

  pub adds : (taken : List Text) (s : Stage) (p : Text) (t : Stage) → Stands taken s → after s p ≡ Some t → Stands (taken ++ p ∷ []) t
  unfolding whole_after
  adds taken (InFront l) p t stands q = front_adds taken l p t (step_front l p) (front_ends l) stands refl refl q
  adds taken (AtBlock i seen e k b) p t stands q = first_adds taken i seen e k b p t (step_body b p) stands refl q
  adds taken (InBlock i seen e k b) p t stands q = body_adds taken i seen e k b p t (step_body b p) (body_ends b) stands refl refl q
  adds taken (InPrivate i e own) p t stands q = own_adds taken i e own p t (is_own p) stands refl q

  -- ---- the end

  -- a front and blocks, closed
  closed : (taken : List Text) (i : I) (seen : List Text) (e : E) → InBlocks taken i seen e [] → Meant taken (record { language = i; extensions = e; private_use = [] })
  closed taken i seen e s = record {
    front = s.front;
    blocks = s.blocks;
    last = [];
    parts = s.parts;
    meant = s.meant;
    each = s.each;
    apart = subst AreApart (sym s.keys) s.apart;
    together = s.together;
    private = refl;
  }

  private_meant : (taken : List Text) (i : I) (e : E) (w : Text) (ws : List Text) → InOwn taken i e (w ∷ ws) → Meant taken (record { language = i; extensions = e; private_use = w ∷ ws })
  private_meant taken i e w ws s = record {
    front = s.blocks.front;
    blocks = s.blocks.blocks;
    last = s.x ∷ s.pieces;
    parts = s.blocks.parts;
    meant = s.blocks.meant;
    each = s.blocks.each;
    apart = subst AreApart (sym s.blocks.keys) s.blocks.apart;
    together = s.blocks.together;
    private = (s.is, (λ e. let f : [] ≡ w ∷ ws = sym (ap (map lower) e) ∙ s.meant in cc), s.each, s.meant);
  }

  pub ends_well : (taken : List Text) (s : Stage) (m : Whole I E) → Stands taken s → whole_ends front_ends body_ends put none s ≡ Some m → Meant taken m
  ends_well taken (InFront l) m s q =
      let f = mapped_some (λ i. record { language = i; extensions = none; private_use = [] }) (front_ends l) m q in
      subst (Meant taken) f.2 (record { front = taken; blocks = []; last = []; parts = append-nil taken; meant = sound.front.found taken l f.0 s f.1; each = tt; apart = apart_none; together = refl; private = refl })
  ends_well taken (AtBlock i seen e k b) m s q = cc
  ends_well taken (InBlock i seen e k b) m s q =
      let f = mapped_some (λ v. record { language = i; extensions = put k v e; private_use = [] }) (body_ends b) m q in
      subst (Meant taken) f.2 (closed taken i (seen ++ k ∷ []) (put k f.0 e) (close_block taken i seen e k b f.0 s f.1))
  ends_well taken (InPrivate i e []) m s q = cc
  ends_well taken (InPrivate i e (w ∷ ws)) m s q =
      let same : record { language = i; extensions = e; private_use = w ∷ ws } ≡ m = cc in
      subst (Meant taken) same (private_meant taken i e w ws s)

  pub stands : (ps : List Text) (s : Stage) → run after (Some (InFront start)) ps ≡ Some s → Stands ps s
  stands ps s e = run_keeps after Stands adds ps [] (InFront start) s refl e

  pub whole_found : (ps : List Text) (s : Stage) (m : Whole I E) → run after (Some (InFront start)) ps ≡ Some s → whole_ends front_ends body_ends put none s ≡ Some m → Meant ps m
  whole_found ps s m e q = ends_well ps s m (stands ps s e) q
