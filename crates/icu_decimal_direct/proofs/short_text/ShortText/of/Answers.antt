use Rattle.std.proofs.Common.{IsUtf8, refl, subst, sym}
use Rattle.icu_decimal_direct.proofs.ShortLemmas.{front_laid, laid_long}
use Rattle.icu_decimal_direct.proofs.short_text.ShortText.of.Goals as goal

pub invariant_of-result : goal.invariant_of-result
invariant_of-result c = record {
  held = record {
    long = laid_long c.args.text.now c.as_bytes.result.now _ c.lay.new.bytes 32 c.as_bytes.ensures.value c.if-len-gt-SHORT.false refl c.lay.ensures;
    few = c.if-len-gt-SHORT.false;
    utf8 = ∣ subst IsUtf8 (sym (front_laid c.args.text.now c.as_bytes.result.now _ c.lay.new.bytes _ c.as_bytes.ensures.value c.lay.ensures refl)) c.utf8.text ∣₁;
  };
}

pub returns-clause-value : goal.returns-clause-value
returns-clause-value c = front_laid c.args.text.now c.as_bytes.result.now _ c.lay.new.bytes _ c.as_bytes.ensures.value c.lay.ensures refl
