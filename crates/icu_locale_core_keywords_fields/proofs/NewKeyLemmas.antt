-- How many entries have a new key, and how many entries a map has once they are set in turn.
use Rattle.std.proofs.Common.{ℕ, suc, ◌≡◌, ◌≤◌, ◌<◌, ◌+◌, Bool, true, false, not, List, [], ◌∷◌, Option, None, Some, cond, length, fold, sym, refl, ap, ◌∙◌, subst, arith}
use Rattle.std.proofs.lemmas.List.Sums.{sum_by-cons, sum_by-le-sum_by}
use Rattle.std.specs.Prelude.{if◌then◌else◌, is_some, Result, Ok, Err, IsOk, OnOk}
use Rattle.std.specs.List.{count_by}
use Rattle.std.specs.List.Sorted.{IsStrictlySortedBy}
use Rattle.std.specs.Ordering.{match_ordering, is_eq}
use Rattle.std.specs.declared.cmp.Ordering.{Ordering}
use Rattle.std.specs.declared.cmp.Ordering.TheVariants.{Less, Equal, Greater}
use Rattle.std.specs.Cmp.Lexicographic.{texts_ties}
use Rattle.icu_locale_core_grammar.specs.Subtags.{Text, same_text}
use Rattle.icu_locale_core_grammar.specs.Collections.{text_cmp, Entry, keys_of, Rises, value_at}
use Rattle.icu_locale_core_keywords_fields.specs.EntryChanges.{set_entry, set_in_turn, is_new, HasKeysOf}
use Rattle.icu_locale_core_keywords_fields.proofs.RisingLemmas.{value_at-set, Rises-set}
use Rattle.icu_locale_core_keywords_fields.proofs.JoinLemmas.{none_below}

-- ---- how many keys are new

one_more : (map : List Entry) (e : Entry) (es : List Entry) → count_by (is_new map) (e ∷ es) ≡ cond (is_new map e) 1 0 + count_by (is_new map) es
one_more map e es = sum_by-cons (λ f. cond (is_new map f) 1 0) e es

pub has_all : (map es : List Entry) → count_by (is_new map) es ≡ 0 → HasKeysOf map es
has_all map [] none = tt
has_all map (e ∷ es) none = by_value (value_at e.0 map) refl (one_more map e es) (has_all map es)
  where
    by_value : (o : Option (List Text)) → value_at e.0 map ≡ o → count_by (is_new map) (e ∷ es) ≡ cond (is_new map e) 1 0 + count_by (is_new map) es
        → (count_by (is_new map) es ≡ 0 → HasKeysOf map es) → HasKeysOf map (e ∷ es)
    by_value None is step more =
        let bad : 1 + count_by (is_new map) es ≡ 0 = sym (ap (λ o. cond (not (is_some o)) 1 0 + count_by (is_new map) es) is) ∙ sym step ∙ none in absurd (omega (arith, bad))
    by_value (Some v) is step more =
        let rest : 0 + count_by (is_new map) es ≡ 0 = sym (ap (λ o. cond (not (is_some o)) 1 0 + count_by (is_new map) es) is) ∙ sym step ∙ none in
        (ap is_some is, more (omega (arith, rest)))

pub none_new : (map es : List Entry) → HasKeysOf map es → count_by (is_new map) es ≡ 0
none_new map [] there = refl
none_new map (e ∷ es) there =
    let known : ◌≡◌ {A = ℕ} (cond (is_new map e) 1 0) 0 = ap (λ b. cond {A = ℕ} (not b) 1 0) there.0 in
    omega (arith, known, one_more map e es, none_new map es there.1)

-- ---- how many entries there are then

set_longer : (e : Entry) (fs : List Entry) → length fs ≤ length (set_entry e fs)
set_longer e [] = omega arith
set_longer e (f ∷ fs) = by_order (text_cmp e.0 f.0) (set_longer e fs)
  where
    by_order : (o : Ordering) → length fs ≤ length (set_entry e fs) → length (f ∷ fs) ≤ length (match_ordering o (e ∷ f ∷ fs) (e ∷ fs) (f ∷ set_entry e fs))
    by_order Less more = omega arith
    by_order Equal more = omega arith
    by_order Greater more = omega (arith, more)

-- a new key is one more
pub set_new : (e : Entry) (fs : List Entry) → is_new fs e ≡ true → length (set_entry e fs) ≡ suc (length fs)
set_new e [] new = refl
set_new e (f ∷ fs) new = by_order (text_cmp e.0 f.0) refl (set_new e fs)
  where
    by_order : (o : Ordering) → text_cmp e.0 f.0 ≡ o → (is_new fs e ≡ true → length (set_entry e fs) ≡ suc (length fs))
        → length (match_ordering o (e ∷ f ∷ fs) (e ∷ fs) (f ∷ set_entry e fs)) ≡ suc (length (f ∷ fs))
    by_order Less g more = refl
    by_order Equal g more =
        let one : same_text e.0 f.0 ≡ true = texts_ties e.0 f.0 ∙ ap is_eq g in
        let bad : false ≡ true = sym (ap (λ b. not (is_some (if b then Some f.1 else value_at e.0 fs))) one) ∙ new in cc
    by_order Greater g more =
        let apart : same_text e.0 f.0 ≡ false = texts_ties e.0 f.0 ∙ ap is_eq g in
        ap suc (more (sym (ap (λ b. not (is_some (if b then Some f.1 else value_at e.0 fs))) apart) ∙ new))

-- at most one more, and none where the key is there
set_at_most : (e : Entry) (fs : List Entry) → Rises (keys_of fs) → length (set_entry e fs) ≤ length fs + cond (is_new fs e) 1 0
unfolding IsStrictlySortedBy
set_at_most e [] rises = omega arith
set_at_most e (f ∷ fs) rises = by_order (text_cmp e.0 f.0) refl (set_at_most e fs rises.1)
  where
    by_order : (o : Ordering) → text_cmp e.0 f.0 ≡ o → length (set_entry e fs) ≤ length fs + cond (is_new fs e) 1 0
        → length (match_ordering o (e ∷ f ∷ fs) (e ∷ fs) (f ∷ set_entry e fs)) ≤ length (f ∷ fs) + cond (is_new (f ∷ fs) e) 1 0
    by_order Less g more =
        let new : ◌≡◌ {A = ℕ} (cond (is_new (f ∷ fs) e) 1 0) 1 = ap (λ o. cond {A = ℕ} (not (is_some o)) 1 0) (none_below e f fs g rises) in omega (arith, new)
    by_order Equal g more = omega arith
    by_order Greater g more =
        let apart : same_text e.0 f.0 ≡ false = texts_ties e.0 f.0 ∙ ap is_eq g in
        let alike : ◌≡◌ {A = ℕ} (cond (is_new (f ∷ fs) e) 1 0) (cond (is_new fs e) 1 0) = ap (λ b. cond {A = ℕ} (not (is_some (if b then Some f.1 else value_at e.0 fs))) 1 0) apart in
        omega (arith, alike, more)

pub in_turn_longer : (es winners : List Entry) → length es ≤ length (fold set_in_turn es winners)
in_turn_longer es [] = omega arith
in_turn_longer es (e ∷ winners) = omega (arith, set_longer e es, in_turn_longer (set_entry e es) winners)

fewer : (b : Bool) (o : Option (List Text)) (v : List Text) → cond (not (is_some (if b then Some v else o))) 1 0 ≤ cond (not (is_some o)) 1 0
fewer true o v = omega arith
fewer false o v = omega arith

fewer_new : (e : Entry) (es winners : List Entry) → count_by (is_new (set_entry e es)) winners ≤ count_by (is_new es) winners
fewer_new e es winners =
    sum_by-le-sum_by (λ f. cond (is_new (set_entry e es) f) 1 0) (λ f. cond (is_new es f) 1 0) winners
    (λ f. subst (λ o. cond {A = ℕ} (not (is_some o)) 1 0 ≤ cond (is_new es f) 1 0) (sym (value_at-set f.0 e es)) (fewer (same_text f.0 e.0) (value_at f.0 es) e.1))

-- the room that the new keys want
pub in_turn_at_most : (es winners : List Entry) → Rises (keys_of es) → length (fold set_in_turn es winners) ≤ length es + count_by (is_new es) winners
in_turn_at_most es [] rises = omega arith
in_turn_at_most es (e ∷ winners) rises =
    omega (arith, one_more es e winners, in_turn_at_most (set_entry e es) winners (Rises-set e es rises), set_at_most e es rises, fewer_new e es winners)

-- a new key in a vector with room for all entries
pub set_fits : (es rest left : List Entry) (e : Entry) (cap : ℕ) → left ≡ e ∷ rest → length (fold set_in_turn es left) ≤ cap → is_new es e ≡ true → length es < cap
set_fits es rest left e cap cut room new =
    let same : length (fold set_in_turn (set_entry e es) rest) ≤ cap = subst (λ l. length (fold set_in_turn es l) ≤ cap) cut room in
    omega (arith, same, in_turn_longer (set_entry e es) rest, set_new e es new)

-- ---- the loop over the entries

pub record IsSetting (old others es behind : List Entry) (cap : ℕ) : Type 0 where
  pub rises : Rises (keys_of es)
  pub left : fold set_in_turn es behind ≡ fold set_in_turn old others
  pub room : length (fold set_in_turn es behind) ≤ cap

-- one entry more, where the call that sets it fails only for a new key without room
pub setting_goes_on : {T E : Type 0} (old others es new left rest : List Entry) (e : Entry) (len cap cap' : ℕ) (r : Result T E) → IsSetting old others es left cap → left ≡ e ∷ rest → len ≡ length es
    → (is_some (value_at e.0 es) ≡ true → IsOk r) → (len < cap → IsOk r) → OnOk r (new ≡ set_entry e es) → cap ≤ cap' → IsSetting old others new rest cap'
setting_goes_on old others es new left rest e len cap cap' r so_far cut len_is there room set wider =
    let added : new ≡ set_entry e es = on_ok r (succeeds (is_some (value_at e.0 es)) refl) set in
    let next : fold set_in_turn new rest ≡ fold set_in_turn es left = ap (λ l. fold set_in_turn l rest) added ∙ sym (ap (fold set_in_turn es) cut) in
    let fits : length (fold set_in_turn new rest) ≤ cap = subst (λ l. length l ≤ cap) (sym next) so_far.room in
    record { rises = subst (λ l. Rises (keys_of l)) (sym added) (Rises-set e es so_far.rises); left = next ∙ so_far.left; room = omega (arith, fits, wider) }
  where
    on_ok : {T E P : Type 0} (r : Result T E) → IsOk r → OnOk r P → P
    on_ok (Ok x) ok p = p
    on_ok (Err x) ok p = cc

    succeeds : (b : Bool) → is_some (value_at e.0 es) ≡ b → IsOk r
    succeeds true is = there is
    succeeds false is = room (omega (arith, len_is, set_fits es rest left e cap cut so_far.room (ap not is)))
