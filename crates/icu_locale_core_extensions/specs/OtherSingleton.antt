-- The singletons that have no rule of their own are a class of subtags: a letter or digit but `t`, `u` and `x`.
-- RFC 5646 (BCP 47), section 2.2.6; docs/tags.md, "Extensions".
-- Cited by the impl of `SubtagRule` for these singletons, whose laws they are.
use Rattle.std.proofs.Common.{◌≡◌, true, not, ◌||◌, length, ◌∙◌, arith}
use Rattle.std.specs.Int.{is_in_range}
use Rattle.std.proofs.lemmas.Bool.{and_parts, leb-true}
use Rattle.std.proofs.Common.{leb}
use Rattle.icu_locale_core_grammar.specs.Subtags.{Text, is_plain, is_singleton, is_other, is_unicode, is_transform, is_private, lower}
use Rattle.icu_locale_core_grammar.proofs.CaseLemmas.{other_lower, lower-lower}
use Rattle.icu_locale_core_subtags.specs.SubtagRule.{IsSubtagRule}

one_long : (t : Text) → is_other t ≡ true → is_singleton t ≡ true
one_long t e = (and_parts (is_singleton t) (not (is_unicode t || (is_transform t || is_private t))) e).0

pub other_rule : IsSubtagRule 1 is_other lower
other_rule = record {
  some = λ t e.
      let ends = and_parts (leb 1 (length t)) (leb (length t) 1) (and_parts (is_in_range 1 1 (length t)) (is_plain t) (one_long t e)).0 in
      let low = leb-true 1 (length t) ends.0 in
      omega (arith, low);
  short = λ t e.
      let ends = and_parts (leb 1 (length t)) (leb (length t) 1) (and_parts (is_in_range 1 1 (length t)) (is_plain t) (one_long t e)).0 in
      leb-true (length t) 1 ends.1;
  plain = λ t e. (and_parts (is_in_range 1 1 (length t)) (is_plain t) (one_long t e)).1;
  stays = λ t e. other_lower t ∙ e;
  settles = lower-lower;
  recased = lower-lower;
}
