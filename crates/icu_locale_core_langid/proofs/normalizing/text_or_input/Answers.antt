use Rattle.std.proofs.Common.{sym, ◌∙◌, subst}
use Rattle.std.proofs.lemmas.Str.{IsUtf8-string_bytes}
use Rattle.std.specs.Str.{IsUtf8}
use Rattle.writeable.specs.AnnotatedText.{text_of}
use Rattle.icu_locale_core_langid.proofs.NormalizingLemmas.{tied_are_same, not_same}
use Rattle.icu_locale_core_langid.proofs.normalizing.text_or_input.Goals as goal
use Rattle.icu_locale_core_langid.proofs.normalizing.text_or_input.Goals.{then-is_eq+in_default, else-is_eq}

pub returns-in-Ok-clause-text : goal.returns-in-Ok-clause-text
returns-in-Ok-clause-text g c =
    (c.in-Ok.ensures.cases.0, (tied_are_same c.is_eq.result c.strict_cmp.result (text_of (g.T.Writeable.events c.args.value.now)) c.args.input.now c.strict_cmp.ensures c.is_eq.ensures).0 c.if-is_eq.true)

pub returns-in-Ok-write_to_string-clause-text : goal.returns-in-Ok-write_to_string-clause-text
returns-in-Ok-write_to_string-clause-text g c =
    let tied = tied_are_same c.is_eq.result c.strict_cmp.result (text_of (g.T.Writeable.events c.args.value.now)) c.args.input.now c.strict_cmp.ensures c.is_eq.ensures in
    let built = c.in-Ok-write_to_string.ensures.ok in (
      built,
      λ e. elim c.if-is_eq.branch [
        | then-is_eq+in_default w ↦ w.in_default.ensures.cases.0 (subst IsUtf8 (built ∙ sym e) (IsUtf8-string_bytes c.in-Ok-write_to_string.text))
        | else-is_eq w ↦ not_same c.is_eq.result (text_of (g.T.Writeable.events c.args.value.now)) c.args.input.now tied w.if-is_eq.false e
      ],
    )

pub returns-in-Err-clause-room : goal.returns-in-Err-clause-room
returns-in-Err-clause-room g c = λ utf8 e.
    let tied = tied_are_same c.is_eq.result c.strict_cmp.result (text_of (g.T.Writeable.events c.args.value.now)) c.args.input.now c.strict_cmp.ensures c.is_eq.ensures in
    elim c.if-is_eq.branch [
      | then-is_eq+in_default w ↦ absurd (w.in_default.ensures.cases.0 utf8)
      | else-is_eq w ↦ absurd (not_same c.is_eq.result (text_of (g.T.Writeable.events c.args.value.now)) c.args.input.now tied w.if-is_eq.false e)
    ]
