use Rattle.icu_locale_core_keywords_fields.proofs.StepLemmas.{refused_within}
use Rattle.icu_locale_core_keywords_fields.proofs.headed.headed_after.Goals as goal

pub returns-in-Refused-clause-step : goal.returns-in-Refused-clause-step
returns-in-Refused-clause-step g c =
    let told = c.in_ok-head-in-InHead.ensures.step in
    rw c.in-InHead.is (refused_within g.R.HeadReader.step g.K.SubtagRule.accepts g.K.EntryKind.needs _ _ _ _ _ c.in-Refused.is told c.after_ended_head.ensures)

pub returns-in-InEntry-clause-step : goal.returns-in-InEntry-clause-step
returns-in-InEntry-clause-step g c = rw c.in-InEntry.is (c.after_entry.ensures.step g.R.HeadReader.step)

pub returns-in-InEntry-clause-room : goal.returns-in-InEntry-clause-room
returns-in-InEntry-clause-room g c = rw c.in-InEntry.is (c.after_entry.ensures.room g.R.HeadReader.grows)
