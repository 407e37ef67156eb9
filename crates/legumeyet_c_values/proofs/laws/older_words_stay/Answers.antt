use Rattle.legumeyet_c_values.proofs.WordLemmas.{increments_stay, newer_were_none, options_stay, seven_stay, shapes_stay, six_stay}
use Rattle.legumeyet_c_values.proofs.laws.older_words_stay.Goals as goal

pub returns-clause-options : goal.returns-clause-options
returns-clause-options c = options_stay

pub returns-clause-seven : goal.returns-clause-seven
returns-clause-seven c = seven_stay

pub returns-clause-shapes : goal.returns-clause-shapes
returns-clause-shapes c = shapes_stay

pub returns-clause-six : goal.returns-clause-six
returns-clause-six c = six_stay

pub returns-clause-increments : goal.returns-clause-increments
returns-clause-increments c = increments_stay

pub returns-clause-newer : goal.returns-clause-newer
returns-clause-newer c = newer_were_none
