-- That the buffer of answers is a sink: nothing changes nothing, two texts are one, and what does not fit does not fit with more.
-- Defined in docs/annotated-text.md, "Sinks".
-- Cited by the impl of `Sink` of `AnswerSink`, whose laws it proves, and by the proofs of its calls.
use Rattle.std.proofs.Common.{◌≡◌, ◌+◌, List, ◌++◌, [], length, refl, sym, ap, ◌∙◌, arith}
use Rattle.std.specs.Prelude.{string_bytes}
use Rattle.std.proofs.lemmas.List.{append_assoc, append-nil, length-append}
use Rattle.std.specs.Borrow.{MutBor}
use Rattle.std.specs.declared.string.String.{String}
use Rattle.writeable.specs.AnnotatedText.{Event, text_of, opening, closing}
use Rattle.writeable.specs.PartName.{PartName}
use Rattle.writeable.specs.SinkLaws.{text_of_joined}
use Rattle.locale_numbers_answers.specs.AnswerSink.{NeedsMemory, Puts}

module _ {A : Type 0} where
  pub needs_more : (text : String A) (first second : List Event) → NeedsMemory text first → NeedsMemory text (first ++ second)
  needs_more text first second needs =
      rw (text_of_joined first second, length-append (text_of first) (text_of second)) (omega (arith, needs))

  pub puts_nothing : (out : MutBor (String A)) → Puts out [] out
  puts_nothing out = record { same = refl; text = sym (append-nil (string_bytes out.now)); capacity = omega arith }

  pub puts_joined : (s t u : MutBor (String A)) (first second : List Event) → Puts s first t → Puts t second u → Puts s (first ++ second) u
  puts_joined s t u first second begun ended = record {
    same = ended.same ∙ begun.same;
    text = ended.text ∙ ap (λ text. text ++ text_of second) begun.text ∙ append_assoc (string_bytes s.now) (text_of first) (text_of second)
        ∙ ap (λ text. string_bytes s.now ++ text) (sym (text_of_joined first second));
    capacity = omega (arith, begun.capacity, ended.capacity);
  }

  -- a part has no text
  pub puts_opening : (out : MutBor (String A)) (part : PartName) → Puts out (opening part) out
  unfolding opening
  puts_opening out part = record { same = refl; text = sym (append-nil (string_bytes out.now)); capacity = omega arith }

  pub puts_closing : (out : MutBor (String A)) → Puts out closing out
  unfolding closing
  puts_closing out = record { same = refl; text = sym (append-nil (string_bytes out.now)); capacity = omega arith }

  -- where the rest needed memory, the whole did
  pub rest_needs : (before after : MutBor (String A)) (es front rest : List Event) → es ≡ front ++ rest → Puts before front after → NeedsMemory after.now rest → NeedsMemory before.now es
  rest_needs before after es front rest whole taken needs =
      let longer : length (string_bytes after.now) ≡ length (string_bytes before.now) + length (text_of front) =
      ap length taken.text ∙ length-append (string_bytes before.now) (text_of front) in
      rw (whole, text_of_joined front rest, length-append (text_of front) (text_of rest)) (omega (arith, longer, taken.capacity, needs))
