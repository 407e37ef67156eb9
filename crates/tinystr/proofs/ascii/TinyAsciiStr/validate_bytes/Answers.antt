use Rattle.std.proofs.Common.{◌≡◌, ℕ, ◌-◌, ◌<◌, ◌≤◌, Bool, false, true, List, length, take, drop, arith}
use Rattle.std.proofs.lemmas.List.{length-drop}
use Rattle.tinystr.specs.SmallText.{IsForm}
use Rattle.tinystr.specs.Forms.{AreForms}
use Rattle.tinystr.proofs.FormsLemmas.{forms_whole, forms_uncons, forms_after, forms_before, room_for_one, whole_behind}
use Rattle.tinystr.proofs.ascii.TinyAsciiStr.validate_bytes.Invariants.{Left}
use Rattle.tinystr.proofs.ascii.TinyAsciiStr.validate_bytes.Goals as goal

pub returns-then-bytes-ne0-clause-succeeds : goal.returns-then-bytes-ne0-clause-succeeds
returns-then-bytes-ne0-clause-succeeds g c =
    (λ wrong. let e : false ≡ true = wrong in cc, λ forms. absurd (c.if-bytes-ne0.true (forms_whole g.row.N c.args.bytes.now forms)))

pub split_at-requires : goal.split_at-requires
split_at-requires g c =
    let more : 0 < length c.loop-rest.rest.now = grind arith in
    room_for_one g.row.N (length c.loop-rest.rest.now) c.requires more c.loop-rest.invariant.whole

-- the first n bytes that are looked at
first_of_rest : (n : ℕ) (rest front : List ℕ) → front ≡ take n rest → length front ≡ n → IsForm (length front) front → IsForm n (take n rest)
first_of_rest n rest front is long form = rw (long, is) at form

refused : (n : ℕ) (rest front all : List ℕ) (answer : Bool) → 0 < n → n ≤ length rest → front ≡ take n rest → length front ≡ n
    → (IsForm (length front) front → answer ≡ true) → answer ≡ false → (AreForms n all → AreForms n rest) → AreForms n all → ⊥
refused n rest front all answer some room is long right absent on forms =
    let first = (forms_uncons n rest some room (on forms)).first in
    let here : IsForm (length front) front = rw long (rw is first) in
    let present : answer ≡ true = right here in
    cc

pub returns-then-not-is_form-clause-succeeds : goal.returns-then-not-is_form-clause-succeeds
returns-then-not-is_form-clause-succeeds g c =
    let more : 0 < length c.loop-rest.rest.now = grind arith in
    let room = room_for_one g.row.N (length c.loop-rest.rest.now) c.requires more c.loop-rest.invariant.whole in (
      λ wrong. let e : false ≡ true = wrong in cc,
      λ forms. absurd (refused g.row.N c.loop-rest.rest.now c.split_at.result.0.now c.args.bytes.now c.is_form.result c.requires room
          c.split_at.ensures.front c.split_at.ensures.front_len c.is_form.ensures.1 c.if-not-is_form.true c.loop-rest.invariant.on forms),
    )

pub returns-then-not-is_form-clause-fault : goal.returns-then-not-is_form-clause-fault
returns-then-not-is_form-clause-fault g c =
    let more : 0 < length c.loop-rest.rest.now = grind arith in
    let room = room_for_one g.row.N (length c.loop-rest.rest.now) c.requires more c.loop-rest.invariant.whole in (
      c.if-bytes-ne0.false,
      λ forms. refused g.row.N c.loop-rest.rest.now c.split_at.result.0.now c.args.bytes.now c.is_form.result c.requires room
          c.split_at.ensures.front c.split_at.ensures.front_len c.is_form.ensures.1 c.if-not-is_form.true c.loop-rest.invariant.on forms,
    )

stepped : (n : ℕ) (all rest front more : List ℕ) → 0 < n → n ≤ length rest → front ≡ take n rest → more ≡ drop n rest → length front ≡ n
    → IsForm (length front) front → Left n all rest → Left n all more
stepped n all rest front more some room is behind long form left =
    let first = first_of_rest n rest front is long form in
    let count : length (drop n rest) ≡ length rest - n = length-drop n rest in
    record {
      whole = rw (behind, count) (whole_behind n (length rest) room left.whole);
      back = λ forms. left.back (forms_before n rest first (rw behind at forms));
      on = λ forms. rw behind (forms_after n rest some room (left.on forms));
    }

pub loop-rest-preserved : goal.loop-rest-preserved
loop-rest-preserved g c =
    let more : 0 < length c.loop-rest.rest.now = grind arith in
    let room = room_for_one g.row.N (length c.loop-rest.rest.now) c.requires more c.loop-rest.invariant.whole in
    stepped g.row.N c.args.bytes.now c.loop-rest.rest.now c.split_at.result.0.now c.split_at.result.1.now c.requires room
    c.split_at.ensures.front c.split_at.ensures.back c.split_at.ensures.front_len (c.is_form.ensures.0 c.if-not-is_form.false) c.loop-rest.invariant
