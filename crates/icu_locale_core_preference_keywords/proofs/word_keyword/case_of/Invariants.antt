use Rattle.std.proofs.Common.{◌≡◌, drop}
use Rattle.icu_locale_core_preference_keywords.specs.TypedKeywords.{case_of}
use Rattle.icu_locale_core_preference_keywords.proofs.word_keyword.case_of.Given as goal

-- the words passed over are others
abbrev pub invariant-loop-case : goal.invariant-loop-case
invariant-loop-case g l = case_of g.W.WordKeyword.words.word l.case-items l.fn.text ≡ case_of g.W.WordKeyword.words.word (drop l.case-index l.case-items) l.fn.text
