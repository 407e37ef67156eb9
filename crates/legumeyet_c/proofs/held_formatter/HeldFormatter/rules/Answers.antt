use Rattle.std.proofs.Common.{rules, ◌≡◌, true, refl, sym, subst, ◌∙◌}
use Rattle.legumeyet_c.specs.HeldFormats.{HeldFormat}
use Rattle.legumeyet_c.specs.Writing.{asked_for, is_as_given}
use Rattle.legumeyet_c.proofs.held_formatter.HeldFormatter.rules.Goals as goal

pub returns-in-Some : goal.returns-in-Some
returns-in-Some c =
    let known : c.self.inside.as_given ≡ true = search rules in
    record {
      asked = asked_for c.args.self.now.wording c.args.self.now.options;
      is = refl;
      ranges = c.in-Some.plurals.ranges.now;
      plurals = c.in-Some.ensures;
      as_given = subst (λ (h : HeldFormat). is_as_given (asked_for h.wording h.options) ≡ true) c.self.view_is (sym c.self.invariant.0 ∙ known);
    }
