-- What a call of the sink leaves, and what a whole write does.
use Rattle.std.proofs.Common.{◌≡◌, false, ℕ, ◌+◌, ◌≤◌, ◌^◌, List, [], ◌++◌, length, arith, refl, sym, ap, ◌∙◌}
use Rattle.std.proofs.lemmas.List.{length-append}
use Rattle.std.specs.Borrow.{MutBor}
use borrow.Rule.Slice.Mut.{set_vals}
use Rattle.writeable.specs.AnnotatedText.{Event, bytes, text_of, without_parts}
use Rattle.writeable.specs.SinkLaws.{text_of_joined}
use Rattle.writeable.specs.Taking.{HasBegun}
use Rattle.writeable.proofs.AnnotatedTextLemmas.{text_of_bytes}
use Rattle.writeable_bytes.specs.Laid.{laid_from}
use Rattle.writeable_bytes.specs.LaidText.{LaysText, PassesLength, laid_nothing}
use Rattle.writeable_bytes.specs.declared.bytes_sink.BytesSink.{BytesSink}

-- events without text change nothing
pub no_text_lays : (s : MutBor (List ℕ)) (n : ℕ) (es : List Event) → text_of es ≡ [] → LaysText s n es s n
no_text_lays s n es none = record {
  same = refl;
  length = rw none (omega arith);
  bytes = sym (laid_nothing n s.now) ∙ ap (λ text. laid_from n text s.now) (sym none);
}

-- a text was laid over the bytes
pub text_lays : (s : MutBor (List ℕ)) (n m : ℕ) (text new : List ℕ) → m ≡ n + length text → new ≡ laid_from n text s.now
    → LaysText s n (bytes text) (set_vals new s) m
text_lays s n m text new ends is = record {
  same = refl;
  length = rw (text_of_bytes text) ends;
  bytes = rw (text_of_bytes text) is;
}

-- all of a value was laid over the bytes of a new sink
pub all_laid : (s t : BytesSink) (out : MutBor (List ℕ)) (es : List Event) (end : List ℕ) → s ≡ record { out = out; length = 0; refused = false }
    → LaysText s.out s.length (without_parts es) t.out t.length → (t.out.ghost_name ≡ out.ghost_name → end ≡ t.out.now)
    → (t.length ≡ length (text_of es)) × (end ≡ laid_from 0 (text_of es) out.now)
all_laid s t out es end new lays is =
    let same : s.out ≡ out = ap (λ (k : BytesSink). k.out) new in
    let none : s.length ≡ 0 = ap (λ (k : BytesSink). k.length) new in
    let alone = text_of_bytes (text_of es) in
    let whole : length (text_of (without_parts es)) ≡ length (text_of es) = ap length alone in
    let name = lays.same ∙ ap (λ (b : MutBor (List ℕ)). b.ghost_name) same in (
      omega (arith, lays.length, whole, none),
      is name ∙ lays.bytes
          ∙ ap (λ n. laid_from n (text_of (without_parts es)) s.out.now) none
          ∙ ap (λ text. laid_from 0 text s.out.now) alone
          ∙ ap (λ (b : MutBor (List ℕ)). laid_from 0 (text_of es) b.now) same,
    )

-- a new sink that refused was given more than a `usize` counts
pub all_passes : (s t : BytesSink) (es : List Event)
    → HasBegun (λ (s : BytesSink) es (t : BytesSink). LaysText s.out s.length es t.out t.length) (λ (s : BytesSink) es. PassesLength s.length es) s (without_parts es) t
    → s.length ≡ 0 → 2 ^ 64 ≤ length (text_of es)
all_passes s t es begun new =
    let whole : length (text_of (without_parts es)) ≡ length (text_of es) = ap length (text_of_bytes (text_of es)) in
    let both : length (text_of (without_parts es)) ≡ length (text_of begun.front) + length (text_of begun.rest) =
    ap (λ all. length (text_of all)) begun.whole ∙ ap length (text_of_joined begun.front begun.rest)
    ∙ length-append (text_of begun.front) (text_of begun.rest) in
    let passes = begun.short in
    let ends = begun.taken.length in
    omega (arith, whole, both, passes, ends, new)
