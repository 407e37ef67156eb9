use Rattle.std.proofs.Common.{rules, ap, ◌∙◌}
use Rattle.writeable.proofs.AnnotatedTextLemmas.{text_of_bytes}
use Rattle.locale_numbers_formatter.specs.FormatText.{shown_text}
use Rattle.legumeyet_c_values.proofs.PuttingLemmas.{put_by, put_refused}
use Rattle.legumeyet_c.proofs.formatting.put_shown_value.Goals as goal

pub returns-then-not-can_format : goal.returns-then-not-can_format
returns-then-not-can_format c = put_refused _ _ _ _ _ (λ same. absurd (cc same)) (search rules)

pub returns-in-Ok : goal.returns-in-Ok
returns-in-Ok c =
    put_by _ _ _ _ _
    (λ text is. record { can = search rules; is = is ∙ text_of_bytes _ ∙ ap shown_text c.in-Ok.ensures.value })
    (λ error none. absurd none)
    c.put.ensures

pub returns-in-Err : goal.returns-in-Err
returns-in-Err c = put_refused _ _ _ _ _ (λ same. absurd (cc same)) c.in-Err.ensures.room
