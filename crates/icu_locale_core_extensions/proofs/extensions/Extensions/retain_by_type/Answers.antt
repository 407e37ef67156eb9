use Rattle.std.proofs.Common.{◌≡◌, [], length, sym, ap, ◌∙◌}
use Rattle.std.specs.Prelude.{if◌then◌else◌}
use Rattle.std.specs.List.{items_where_true}
use Rattle.icu_locale_core_grammar.specs.Collections.{keys_of}
use Rattle.icu_locale_core_grammar.specs.Meaning.{no_unicode, no_transform}
use Rattle.icu_locale_core_extensions.specs.RetainedByType.{other_type}
use Rattle.icu_locale_core_extensions.proofs.RetainingLemmas.{asked_at}
use Rattle.icu_locale_core_extensions.proofs.extensions.Extensions.retain_by_type.Goals as goal
use Rattle.icu_locale_core_extensions.proofs.extensions.Extensions.retain_by_type.Goals.{then-not-predicate, else-not-predicate, then-not-predicate-2, else-not-predicate-2, then-not-predicate-3, else-not-predicate-3}

pub returns : goal.returns
returns g c =
    let u = c.predicate.result in
    let t = c.predicate-2.result in
    let x = c.predicate-3.result in
    let held = c.self.inside in
    let first = c.if-not-predicate.self-inside in
    let second = c.if-not-predicate-2.self-inside in
    let third = c.if-not-predicate-3.self-inside in
    let at_u : first ≡ record { unicode = if u then held.unicode else no_unicode; transform = held.transform; private = held.private; other = held.other } =
    elim c.if-not-predicate.branch [
      | then-not-predicate w ↦ w.self-inside-is ∙ (λ i. record { unicode = (w.clear.ensures ∙ ap (λ b. if b then held.unicode else no_unicode) (sym w.if-not-predicate.true)) i; transform = held.transform; private = held.private; other = held.other })
      | else-not-predicate w ↦ w.self-inside-is ∙ (λ i. record { unicode = ap (λ b. if b then held.unicode else no_unicode) (sym w.if-not-predicate.false) i; transform = held.transform; private = held.private; other = held.other })
    ] in
    let at_t : second ≡ record { unicode = first.unicode; transform = if t then first.transform else no_transform; private = first.private; other = first.other } =
    elim c.if-not-predicate-2.branch [
      | then-not-predicate-2 w ↦ w.self-inside-is ∙ (λ i. record { unicode = first.unicode; transform = (w.clear-then-not-predicate-2.ensures ∙ ap (λ b. if b then first.transform else no_transform) (sym w.if-not-predicate-2.true)) i; private = first.private; other = first.other })
      | else-not-predicate-2 w ↦ w.self-inside-is ∙ (λ i. record { unicode = first.unicode; transform = ap (λ b. if b then first.transform else no_transform) (sym w.if-not-predicate-2.false) i; private = first.private; other = first.other })
    ] in
    let at_x : third ≡ record { unicode = second.unicode; transform = second.transform; private = if x then second.private else []; other = second.other } =
    elim c.if-not-predicate-3.branch [
      | then-not-predicate-3 w ↦ w.self-inside-is ∙ (λ i. record { unicode = second.unicode; transform = second.transform; private = (w.clear-then-not-predicate-3.ensures ∙ ap (λ b. if b then second.private else []) (sym w.if-not-predicate-3.true)) i; other = second.other })
      | else-not-predicate-3 w ↦ w.self-inside-is ∙ (λ i. record { unicode = second.unicode; transform = second.transform; private = ap (λ b. if b then second.private else []) (sym w.if-not-predicate-3.false) i; other = second.other })
    ] in
    let view = c.self.view_is in
    let others : third.other.items ≡ c.args.self.now.blocks.others = (λ i. (at_x i).other.items) ∙ (λ i. (at_t i).other.items) ∙ (λ i. (at_u i).other.items) ∙ (λ i. (view i).blocks.others) in
    let unicode : third.unicode ≡ (if u then c.args.self.now.blocks.unicode else no_unicode) = (λ i. (at_x i).unicode) ∙ (λ i. (at_t i).unicode) ∙ (λ i. (at_u i).unicode) ∙ (λ i. if u then (view i).blocks.unicode else no_unicode) in
    let transform : third.transform ≡ (if t then c.args.self.now.blocks.transform else no_transform) =
    (λ i. (at_x i).transform) ∙ (λ i. (at_t i).transform) ∙ (λ i. if t then (at_u i).transform else no_transform) ∙ (λ i. if t then (view i).blocks.transform else no_transform) in
    let own : third.private ≡ (if x then c.args.self.now.own else []) = (λ i. (at_x i).private) ∙ (λ i. if x then (at_t i).private else []) ∙ (λ i. if x then (at_u i).private else []) ∙ (λ i. if x then (view i).own else []) in
    let left = c.retain_others.ensures in
    let asked = asked_at (λ p type b q. goal.F-step g p type b q) other_type c.predicate-3.new.self left.answers (keys_of third.other.items) (keys_of c.args.self.now.blocks.others) left.last (ap keys_of others) left.asked in
    record {
      at_unicode = u;
      at_transform = t;
      at_private = x;
      at_others = left.answers;
      last = left.last;
      whole = left.whole ∙ ap length others;
      asked = (c.predicate.new.self, c.predicate.ensures, (c.predicate-2.new.self, c.predicate-2.ensures, (c.predicate-3.new.self, c.predicate-3.ensures, asked)));
      kept = λ i. record {
        blocks = record { unicode = unicode i; transform = transform i; others = (left.kept ∙ ap (items_where_true left.answers) others) i };
        own = own i;
      };
    }
