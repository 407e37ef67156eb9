-- What the stages of a head and entries find is meant: pieces that are a head and entries.
use Rattle.std.proofs.Common.{◌≡◌, Bool, true, false, not, ◌&&◌, List, [], ◌∷◌, ◌++◌, Option, None, Some, map, filter, flat_map, cond, sym, refl, ap, ◌∙◌, subst, append_assoc, append-nil}
use Rattle.std.specs.Prelude.{if◌then◌else◌}
use Rattle.std.specs.List.{AllByRecursion}
use Rattle.std.proofs.lemmas.List.{map-append}
use Rattle.std.proofs.lemmas.List.Concat.{flat_map-append}
use Rattle.std.proofs.lemmas.List.Elements.{filter-append}
use Rattle.icu_locale_core_grammar.specs.Subtags.{Text, is_value, is_true, lower}
use Rattle.icu_locale_core_grammar.specs.Collections.{Entry, Each, put_first, map_of}
use Rattle.icu_locale_core_grammar.specs.Extensions.{spelled_entry, value_meaning, entry_meaning, has_enough, IsEntry, Headed, MeansHeaded}
use Rattle.icu_locale_core_grammar.specs.Stepping.{run, IsReader, HeadedStage, InHead, InEntry, with_value, after_head, headed_after, headed_ends}
use Rattle.icu_locale_core_grammar.proofs.ListLemmas.{fold-append, each-append, mapped_some}
use Rattle.icu_locale_core_grammar.proofs.Runs.{run_joined, run_keeps}

-- ---- values

value_meaning_push : (vs : List Text) (v : Text) → value_meaning (vs ++ v ∷ []) ≡ (if is_true v then value_meaning vs else value_meaning vs ++ lower v ∷ [])
value_meaning_push vs v =
    ap (map lower) (filter-append (λ w. not (is_true w)) vs (v ∷ [])) ∙ map-append lower (filter (λ w. not (is_true w)) vs) (filter (λ w. not (is_true w)) (v ∷ [])) ∙ by_test (is_true v)
  where
    by_test : (b : Bool) → value_meaning vs ++ map lower (cond (not b) (v ∷ []) []) ≡ (if b then value_meaning vs else value_meaning vs ++ lower v ∷ [])
    by_test true = append-nil (value_meaning vs)
    by_test false = refl

-- an entry that takes one more piece
pub with_value_meant : (key p : Text) (values : List Text) → with_value (entry_meaning (key, values)) p ≡ entry_meaning (key, values ++ p ∷ [])
with_value_meant key p values = ap (λ ws. (lower key, ws)) (sym (value_meaning_push values p))

pub has_enough_push : (needs : Bool) (vs : List Text) (v : Text) → has_enough needs (vs ++ v ∷ []) ≡ true
has_enough_push needs [] v = refl
has_enough_push needs (w ∷ vs) v = refl

pub map_of_push : (entries : List Entry) (e : Entry) → map_of (map entry_meaning (entries ++ e ∷ [])) ≡ put_first (entry_meaning e) (map_of (map entry_meaning entries))
map_of_push entries e = ap map_of (map-append entry_meaning entries (e ∷ [])) ∙ fold-append (λ m f. put_first f m) [] (map entry_meaning entries) (entry_meaning e ∷ [])

pub spelled_push : (entries : List Entry) (key : Text) (values : List Text) → flat_map spelled_entry (entries ++ (key, values) ∷ []) ≡ flat_map spelled_entry entries ++ (key ∷ values)
spelled_push entries key values = flat_map-append spelled_entry entries ((key, values) ∷ []) ∙ ap (λ l. flat_map spelled_entry entries ++ l) (append-nil (key ∷ values))

module _ {S H : Type 0} (step : S → Text → Option S) (start : S) (ends : S → Option H) (MeansHead : List Text → H → Type 0) (is_key : Text → Bool) (needs : Bool)
    (right : IsReader step start ends MeansHead) where
  abbrev after : HeadedStage S H → Text → Option (HeadedStage S H)
  after = headed_after step ends is_key needs

  abbrev IsSound : Entry → Type 0
  IsSound e = IsEntry is_key needs e

  -- ---- what is found is meant

  -- a head, entries, and a key with the pieces after it
  record InEntries (taken : List Text) (h : H) (es : List Entry) (e : Entry) (full : Bool) : Type 0 where
    head : List Text
    entries : List Entry
    key : Text
    values : List Text
    parts : head ++ (flat_map spelled_entry entries ++ (key ∷ values)) ≡ taken
    meant : MeansHead head h
    each : AllByRecursion IsSound entries
    keyed : map_of (map entry_meaning entries) ≡ es
    begun : is_key key ≡ true
    filled : Each is_value values
    last : entry_meaning (key, values) ≡ e
    enough : has_enough needs values ≡ full

  abbrev Stands : List Text → HeadedStage S H → Type 0
  Stands taken (InHead s) = run step (Some start) taken ≡ Some s
  Stands taken (InEntry h es e full) = InEntries taken h es e full

  opens_entry : (taken : List Text) (s : S) (h : H) (p : Text) (t : HeadedStage S H) (b : Bool) → run step (Some start) taken ≡ Some s → ends s ≡ Some h → is_key p ≡ b
      → (if b then Some (InEntry h [] (lower p, []) (not needs)) else None) ≡ Some t → Stands (taken ++ p ∷ []) t
  opens_entry taken s h p t true e f g q =
      let same : InEntry h [] (lower p, []) (not needs) ≡ t = cc in
      subst (Stands (taken ++ p ∷ [])) same (record { head = taken; entries = []; key = p; values = []; parts = refl; meant = right.found taken s h e f; each = tt; keyed = refl; begun = g; filled = tt; last = refl; enough = refl })
  opens_entry taken s h p t false e f g q = cc

  head_adds : (taken : List Text) (s : S) (p : Text) (t : HeadedStage S H) (o : Option S) (h : Option H) → run step (Some start) taken ≡ Some s → step s p ≡ o → ends s ≡ h
      → after_head step ends is_key needs o h p ≡ Some t → Stands (taken ++ p ∷ []) t
  head_adds taken s p t (Some u) h e f g q =
      let same : InHead u ≡ t = cc in
      subst (Stands (taken ++ p ∷ [])) same (run_joined step start s (Some u) taken (p ∷ []) e (ap (λ o. run step o []) f))
  head_adds taken s p t None (Some h) e f g q = opens_entry taken s h p t (is_key p) e g refl q
  head_adds taken s p t None None e f g q = cc

  value_adds : (taken : List Text) (h : H) (es : List Entry) (e : Entry) (full : Bool) (p : Text) → InEntries taken h es e full → is_value p ≡ true → InEntries (taken ++ p ∷ []) h es (with_value e p) true
  value_adds taken h es e full p s g = record {
    head = s.head;
    entries = s.entries;
    key = s.key;
    values = s.values ++ p ∷ [];
    parts = ap (λ l. s.head ++ l) (sym (append_assoc (flat_map spelled_entry s.entries) (s.key ∷ s.values) (p ∷ []))) ∙ sym (append_assoc s.head (flat_map spelled_entry s.entries ++ (s.key ∷ s.values)) (p ∷ [])) ∙ ap (λ l. l ++ p ∷ []) s.parts;
    meant = s.meant;
    each = s.each;
    keyed = s.keyed;
    begun = s.begun;
    filled = each-append (λ v. is_value v ≡ true) s.values (p ∷ []) s.filled (g, tt);
    last = sym (with_value_meant s.key p s.values) ∙ ap (λ f. with_value f p) s.last;
    enough = has_enough_push needs s.values p;
  }

  -- the entry that is read, closed
  closed_parts : (taken : List Text) (h : H) (es : List Entry) (e : Entry) (s : InEntries taken h es e true) → s.head ++ flat_map spelled_entry (s.entries ++ (s.key, s.values) ∷ []) ≡ taken
  closed_parts taken h es e s = ap (λ l. s.head ++ l) (spelled_push s.entries s.key s.values) ∙ s.parts

  closed_each : (taken : List Text) (h : H) (es : List Entry) (e : Entry) (s : InEntries taken h es e true) → AllByRecursion IsSound (s.entries ++ (s.key, s.values) ∷ [])
  closed_each taken h es e s = each-append IsSound s.entries ((s.key, s.values) ∷ []) s.each (record { key = s.begun; values = s.filled; enough = s.enough }, tt)

  closed_keyed : (taken : List Text) (h : H) (es : List Entry) (e : Entry) (s : InEntries taken h es e true) → map_of (map entry_meaning (s.entries ++ (s.key, s.values) ∷ [])) ≡ put_first e es
  closed_keyed taken h es e s = map_of_push s.entries (s.key, s.values) ∙ ap (λ f. put_first f (map_of (map entry_meaning s.entries))) s.last ∙ ap (put_first e) s.keyed

  key_adds : (taken : List Text) (h : H) (es : List Entry) (e : Entry) (p : Text) → InEntries taken h es e true → is_key p ≡ true → InEntries (taken ++ p ∷ []) h (put_first e es) (lower p, []) (not needs)
  key_adds taken h es e p s g = record {
    head = s.head;
    entries = s.entries ++ (s.key, s.values) ∷ [];
    key = p;
    values = [];
    parts = sym (append_assoc s.head (flat_map spelled_entry (s.entries ++ (s.key, s.values) ∷ [])) (p ∷ [])) ∙ ap (λ l. l ++ p ∷ []) (closed_parts taken h es e s);
    meant = s.meant;
    each = closed_each taken h es e s;
    keyed = closed_keyed taken h es e s;
    begun = g;
    filled = tt;
    last = refl;
    enough = refl;
  }

  next_adds : (taken : List Text) (h : H) (es : List Entry) (e : Entry) (full : Bool) (p : Text) (t : HeadedStage S H) (b : Bool) → InEntries taken h es e full → is_key p ≡ b
      → (if full && b then Some (InEntry h (put_first e es) (lower p, []) (not needs)) else None) ≡ Some t → Stands (taken ++ p ∷ []) t
  next_adds taken h es e true p t true s g q =
      let same : InEntry h (put_first e es) (lower p, []) (not needs) ≡ t = cc in
      subst (Stands (taken ++ p ∷ [])) same (key_adds taken h es e p s g)
  next_adds taken h es e true p t false s g q = cc
  next_adds taken h es e false p t b s g q = cc

  entry_adds : (taken : List Text) (h : H) (es : List Entry) (e : Entry) (full : Bool) (p : Text) (t : HeadedStage S H) (b : Bool) → InEntries taken h es e full → is_value p ≡ b
      → (if b then Some (InEntry h es (with_value e p) true) else (if full && is_key p then Some (InEntry h (put_first e es) (lower p, []) (not needs)) else None)) ≡ Some t → Stands (taken ++ p ∷ []) t
  entry_adds taken h es e full p t true s g q =
      let same : InEntry h es (with_value e p) true ≡ t = cc in
      subst (Stands (taken ++ p ∷ [])) same (value_adds taken h es e full p s g)
  entry_adds taken h es e full p t false s g q = next_adds taken h es e full p t (is_key p) s refl q

  adds : (taken : List Text) (s : HeadedStage S H) (p : Text) (t : HeadedStage S H) → Stands taken s → after s p ≡ Some t → Stands (taken ++ p ∷ []) t
  unfolding headed_after
  adds taken (InHead s) p t stands e = head_adds taken s p t (step s p) (ends s) stands refl refl e
  adds taken (InEntry h es e full) p t stands q = entry_adds taken h es e full p t (is_value p) stands refl q

  ends_entry : (taken : List Text) (h : H) (es : List Entry) (e : Entry) (full : Bool) (m : Headed H) → InEntries taken h es e full
      → (if full then Some (record { head = h; entries = put_first e es }) else None) ≡ Some m → MeansHeaded MeansHead is_key needs taken m
  ends_entry taken h es e true m s q =
      let same : record { head = h; entries = put_first e es } ≡ m = cc in
      subst (MeansHeaded MeansHead is_key needs taken) same (record { head = s.head; entries = s.entries ++ (s.key, s.values) ∷ []; parts = closed_parts taken h es e s; meant = s.meant; each = closed_each taken h es e s; keyed = closed_keyed taken h es e s })
  ends_entry taken h es e false m s q = cc

  ends_well : (taken : List Text) (s : HeadedStage S H) (m : Headed H) → Stands taken s → headed_ends ends s ≡ Some m → MeansHeaded MeansHead is_key needs taken m
  ends_well taken (InHead s) m stands q =
      let f = mapped_some (λ h. record { head = h; entries = [] }) (ends s) m q in
      subst (MeansHeaded MeansHead is_key needs taken) f.2 (record { head = taken; entries = []; parts = append-nil taken; meant = right.found taken s f.0 stands f.1; each = tt; keyed = refl })
  ends_well taken (InEntry h es e full) m stands q = ends_entry taken h es e full m stands q

  pub headed_found : (ps : List Text) (s : HeadedStage S H) (m : Headed H) → run after (Some (InHead start)) ps ≡ Some s → headed_ends ends s ≡ Some m → MeansHeaded MeansHead is_key needs ps m
  headed_found ps s m e q = ends_well ps s m (run_keeps after Stands adds ps [] (InHead start) s refl e) q
