use Rattle.icu_locale_core_preference_keywords.proofs.laws.words_state_cases.Goals as goal

pub returns : goal.returns
returns g c = let own = g.met.W.WordKeyword.owns.each c.args.case.now in record { taken = own.taken; lowered = own.lowered; stated = own.stated }
