-- What the definitions see of a stage of a head and entries.
-- Defined in docs/tags.md, "Stages".
-- Cited by the functions that step along a head and entries.
use Rattle.std.specs.Prelude.{List, Option, None, Some}
use Rattle.icu_locale_core_grammar.specs.Extensions.{Headed}
use Rattle.icu_locale_core_grammar.specs.Collections.{Entry}
use Rattle.icu_locale_core_grammar.specs.Stepping as stepping
use Rattle.icu_locale_core_keywords_fields.specs.declared.headed.HeadedStage.{HeadedStage}
use Rattle.icu_locale_core_keywords_fields.specs.declared.headed.HeadedStage.TheVariants.{InHead, InEntry}

abbrev pub headed_view : {H K : Type 0} → HeadedStage H K → stepping.HeadedStage H H
headed_view (InHead h) = stepping.InHead h
headed_view (InEntry h es key value full) = stepping.InEntry h es (key, value) full

-- a head that may end anywhere
abbrev pub ends_anywhere : {H : Type 0} → H → Option H
ends_anywhere h = Some h

-- the head and the entries that were read, or none where the last entry needs a value
abbrev pub finished : {H : Type 0} → Option (H × List Entry) → Option (Headed H)
finished None = None
finished (Some m) = Some (record { head = m.0; entries = m.1 })
