-- A reader of a head, and a class of keys that the head does not take: the stages of a head and entries are a right reader.
use Rattle.std.proofs.Common.{◌≡◌, Bool, true, false, not, ◌&&◌, List, [], ◌∷◌, ◌++◌, Option, None, Some, map, fold, flat_map, option_map, codes, sym, refl, ap, ◌∙◌, subst, append_assoc, append-nil}
use Rattle.std.specs.Prelude.{if◌then◌else◌}
use Rattle.std.specs.List.{AllByRecursion}
use Rattle.std.proofs.Math.Bool.{and-false}
use Rattle.icu_locale_core_grammar.specs.Subtags.{Text, is_single, is_value, lower}
use Rattle.icu_locale_core_grammar.specs.Collections.{Entry, Each, put_first, map_of}
use Rattle.icu_locale_core_grammar.specs.Extensions.{spelled_entry, entry_meaning, has_enough, IsEntry, Headed, MeansHeaded}
use Rattle.icu_locale_core_grammar.specs.Stepping.{run, CanEnd, IsReader, HeadedStage, InHead, InEntry, with_value, after_head, headed_after, headed_ends}
use Rattle.icu_locale_core_grammar.proofs.Runs.{run_joined, run_begun, first_step}
use Rattle.icu_locale_core_grammar.proofs.SubtagLemmas.{single_no_value}
use Rattle.icu_locale_core_grammar.proofs.HeadedFound.{with_value_meant, headed_found}

-- whether an entry may end after these pieces
abbrev full_after : Bool → List Text → Bool
full_after full [] = full
full_after full (v ∷ vs) = true

full_enough : (needs : Bool) (vs : List Text) → full_after (not needs) vs ≡ has_enough needs vs
full_enough needs [] = refl
full_enough needs (v ∷ vs) = refl

still_full : (vs : List Text) → full_after true vs ≡ true
still_full [] = refl
still_full (v ∷ vs) = refl

module _ {S H : Type 0} (step : S → Text → Option S) (start : S) (ends : S → Option H) (MeansHead : List Text → H → Type 0) (is_key : Text → Bool) (needs : Bool)
    (right : IsReader step start ends MeansHead) (key_no_value : (p : Text) → is_key p ≡ true → is_value p ≡ false)
    (key_closed : (s : S) (p : Text) → is_key p ≡ true → step s p ≡ None) where
  abbrev after : HeadedStage S H → Text → Option (HeadedStage S H)
  after = headed_after step ends is_key needs

  abbrev IsSound : Entry → Type 0
  IsSound e = IsEntry is_key needs e

  -- ---- one step

  head_steps : (s u : S) (p : Text) → step s p ≡ Some u → after (InHead s) p ≡ Some (InHead u)
  unfolding headed_after
  head_steps s u p e = ap (λ o. after_head step ends is_key needs o (ends s) p) e

  pub key_opens : (s : S) (h : H) (p : Text) → ends s ≡ Some h → is_key p ≡ true → after (InHead s) p ≡ Some (InEntry h [] (lower p, []) (not needs))
  unfolding headed_after
  key_opens s h p e g =
      ap (λ o. after_head step ends is_key needs o (ends s) p) (key_closed s p g)
      ∙ ap (λ o. after_head step ends is_key needs None o p) e
      ∙ ap (λ b. if b then Some (InEntry h [] (lower p, []) (not needs)) else None) g

  value_steps : (h : H) (es : List Entry) (e : Entry) (full : Bool) (p : Text) → is_value p ≡ true → after (InEntry h es e full) p ≡ Some (InEntry h es (with_value e p) true)
  unfolding headed_after
  value_steps h es e full p g =
      ap (λ b. if b then Some (InEntry h es (with_value e p) true) else (if full && is_key p then Some (InEntry h (put_first e es) (lower p, []) (not needs)) else None)) g

  key_steps : (h : H) (es : List Entry) (e : Entry) (p : Text) → is_key p ≡ true → after (InEntry h es e true) p ≡ Some (InEntry h (put_first e es) (lower p, []) (not needs))
  unfolding headed_after
  key_steps h es e p g =
      ap (λ b. if b then Some (InEntry h es (with_value e p) true) else (if is_key p then Some (InEntry h (put_first e es) (lower p, []) (not needs)) else None)) (key_no_value p g)
      ∙ ap (λ b. if b then Some (InEntry h (put_first e es) (lower p, []) (not needs)) else None) g

  -- ---- what is meant is found

  head_runs : (s t : S) (ps : List Text) → run step (Some s) ps ≡ Some t → run after (Some (InHead s)) ps ≡ Some (InHead t)
  head_runs s t [] e = let same : s ≡ t = cc in ap (λ u. Some (InHead u)) same
  head_runs s t (p ∷ ps) e =
      let f = first_step step s t p ps e in
      run_begun after (InHead s) (InHead f.0) (Some (InHead t)) p ps (head_steps s f.0 p f.1) (head_runs f.0 t ps f.2)

  values_run : (h : H) (es : List Entry) (key : Text) (before vs : List Text) (full : Bool) → Each is_value vs
      → run after (Some (InEntry h es (entry_meaning (key, before)) full)) vs ≡ Some (InEntry h es (entry_meaning (key, before ++ vs)) (full_after full vs))
  values_run h es key before [] full each = ap (λ l. Some (InEntry h es (entry_meaning (key, l)) full)) (sym (append-nil before))
  values_run h es key before (v ∷ vs) full each =
      let one : after (InEntry h es (entry_meaning (key, before)) full) v ≡ Some (InEntry h es (entry_meaning (key, before ++ v ∷ [])) true) =
      value_steps h es (entry_meaning (key, before)) full v each.0 ∙ ap (λ e. Some (InEntry h es e true)) (with_value_meant key v before) in
      let others : run after (Some (InEntry h es (entry_meaning (key, before ++ v ∷ [])) true)) vs ≡ Some (InEntry h es (entry_meaning (key, before ++ (v ∷ vs))) true) =
      values_run h es key (before ++ v ∷ []) vs true each.1
      ∙ ap (λ l. Some (InEntry h es (entry_meaning (key, l)) (full_after true vs))) (append_assoc before (v ∷ []) vs)
      ∙ ap (λ b. Some (InEntry h es (entry_meaning (key, before ++ (v ∷ vs))) b)) (still_full vs) in
      run_begun after (InEntry h es (entry_meaning (key, before)) full) (InEntry h es (entry_meaning (key, before ++ v ∷ [])) true) _ v vs one others

  entry_runs : (h : H) (es : List Entry) (e : Entry) → IsSound e → run after (Some (InEntry h es (lower e.0, []) (not needs))) e.1 ≡ Some (InEntry h es (entry_meaning e) true)
  entry_runs h es e sound =
      values_run h es e.0 [] e.1 (not needs) sound.values ∙ ap (λ b. Some (InEntry h es (entry_meaning e) b)) (full_enough needs e.1 ∙ sound.enough)

  -- after an entry that may end, more entries, and what they leave
  record LeftBy (h : H) (first : List Entry) (ps : List Text) (es : List Entry) (e : Entry) : Type 0 where
    before : List Entry
    last : Entry
    runs : run after (Some (InEntry h es e true)) ps ≡ Some (InEntry h before last true)
    left : put_first last before ≡ first

  entries_run : (h : H) (entries es : List Entry) (e : Entry) → AllByRecursion IsSound entries
      → LeftBy h (fold (λ m f. put_first f m) (put_first e es) (map entry_meaning entries)) (flat_map spelled_entry entries) es e
  entries_run h [] es e each = record { before = es; last = e; runs = refl; left = refl }
  entries_run h (f ∷ fs) es e each =
      let more = entries_run h fs (put_first e es) (entry_meaning f) each.1 in
      let whole : run after (Some (InEntry h (put_first e es) (lower f.0, []) (not needs))) (f.1 ++ flat_map spelled_entry fs) ≡ Some (InEntry h more.before more.last true) =
      run_joined after (InEntry h (put_first e es) (lower f.0, []) (not needs)) (InEntry h (put_first e es) (entry_meaning f) true) _ f.1 (flat_map spelled_entry fs) (entry_runs h (put_first e es) f each.0) more.runs in
      record {
        before = more.before;
        last = more.last;
        runs = run_begun after (InEntry h es e true) (InEntry h (put_first e es) (lower f.0, []) (not needs)) _ f.0 (f.1 ++ flat_map spelled_entry fs) (key_steps h es e f.0 each.0.key) whole;
        left = more.left;
      }

  -- the end of a run, with its meaning
  abbrev EndsWith : List Text → Headed H → Type 0
  EndsWith ps m = (s : HeadedStage S H) × (run after (Some (InHead start)) ps ≡ Some s) × (headed_ends ends s ≡ Some m)

  ended : (h : H) (head : List Text) (s : S) (entries : List Entry) → run step (Some start) head ≡ Some s → ends s ≡ Some h → AllByRecursion IsSound entries
      → EndsWith (head ++ flat_map spelled_entry entries) (record { head = h; entries = map_of (map entry_meaning entries) })
  ended h head s [] e f each =
      (InHead s, head_runs start s (head ++ []) (ap (λ l. run step (Some start) l) (append-nil head) ∙ e), ap (option_map (λ x. record { head = x; entries = [] })) f)
  ended h head s (g ∷ gs) e f each =
      let more = entries_run h gs [] (entry_meaning g) each.1 in
      let own : run after (Some (InEntry h [] (lower g.0, []) (not needs))) (g.1 ++ flat_map spelled_entry gs) ≡ Some (InEntry h more.before more.last true) =
      run_joined after (InEntry h [] (lower g.0, []) (not needs)) (InEntry h [] (entry_meaning g) true) _ g.1 (flat_map spelled_entry gs) (entry_runs h [] g each.0) more.runs in
      let keyed : run after (Some (InHead s)) (g.0 ∷ (g.1 ++ flat_map spelled_entry gs)) ≡ Some (InEntry h more.before more.last true) =
      run_begun after (InHead s) (InEntry h [] (lower g.0, []) (not needs)) _ g.0 (g.1 ++ flat_map spelled_entry gs) (key_opens s h g.0 f each.0.key) own in (
        InEntry h more.before more.last true,
        run_joined after (InHead start) (InHead s) _ head (g.0 ∷ (g.1 ++ flat_map spelled_entry gs)) (head_runs start s head e) keyed,
        ap (λ l. Some (record { head = h; entries = l })) more.left,
      )

  only : (ps : List Text) (m : Headed H) → MeansHeaded MeansHead is_key needs ps m → EndsWith ps m
  only ps m a =
      let r = right.only a.head m.head a.meant in
      let w = ended m.head a.head r.0 a.entries r.1 r.2 a.each in
      let same : record { head = m.head; entries = map_of (map entry_meaning a.entries) } ≡ m = ap (λ l. record { head = m.head; entries = l }) a.keyed in
      subst (EndsWith ps) same (subst (λ l. EndsWith l (record { head = m.head; entries = map_of (map entry_meaning a.entries) })) a.parts w)

  goes_on : CanEnd after (headed_ends ends)
  goes_on (InHead s) =
      let w = right.goes_on s in
      (w.0, InHead w.1, record { head = w.2; entries = [] }, head_runs s w.1 w.0 w.3, ap (option_map (λ x. record { head = x; entries = [] })) w.4)
  goes_on (InEntry h es e true) = ([], InEntry h es e true, record { head = h; entries = put_first e es }, refl, refl)
  goes_on (InEntry h es e false) =
      let v : Text = codes "abc" in (
        v ∷ [],
        InEntry h es (with_value e v) true,
        record { head = h; entries = put_first (with_value e v) es },
        run_begun after (InEntry h es e false) (InEntry h es (with_value e v) true) _ v [] (value_steps h es e false v refl) refl,
        refl,
      )

  pub headed_reader : IsReader after (InHead start) (headed_ends ends) (MeansHeaded MeansHead is_key needs)
  headed_reader = record { found = headed_found step start ends MeansHead is_key needs right; only = only; goes_on = goes_on }

-- where the head takes no piece of one character and no key is one, the whole takes none
module _ {S H : Type 0} (step : S → Text → Option S) (ends : S → Option H) (is_key : Text → Bool) (needs : Bool)
    (closed : (s : S) (p : Text) → is_single p ≡ true → step s p ≡ None) (no_key : (p : Text) → is_single p ≡ true → is_key p ≡ false) where
  no_entry : (h : Option H) (p : Text) → is_key p ≡ false → after_head step ends is_key needs None h p ≡ None
  no_entry None p f = refl
  no_entry (Some h) p f = ap (λ b. if b then Some (InEntry h [] (lower p, []) (not needs)) else None) f

  pub headed_closed : (s : HeadedStage S H) (p : Text) → is_single p ≡ true → headed_after step ends is_key needs s p ≡ None
  unfolding headed_after
  headed_closed (InHead s) p g = ap (λ o. after_head step ends is_key needs o (ends s) p) (closed s p g) ∙ no_entry (ends s) p (no_key p g)
  headed_closed (InEntry h es e full) p g =
      ap (λ b. if b then Some (InEntry h es (with_value e p) true) else (if full && is_key p then Some (InEntry h (put_first e es) (lower p, []) (not needs)) else None)) (single_no_value p g)
      ∙ ap (λ b. if b then Some (InEntry h (put_first e es) (lower p, []) (not needs)) else None) (ap (λ b. full && b) (no_key p g) ∙ and-false full)
