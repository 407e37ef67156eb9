mod LinesLemmas
