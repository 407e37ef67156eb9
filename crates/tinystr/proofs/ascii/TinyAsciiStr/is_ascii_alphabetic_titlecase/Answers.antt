use Rattle.std.proofs.Common.{refl, ap, ◌∙◌}
use Rattle.std.specs.Char.{is_ascii_lowercase, is_ascii_uppercase}
use Rattle.tinystr_words.specs.Words.{or_nul}
use Rattle.tinystr.specs.Classes.{is_in_class}
use Rattle.tinystr.proofs.ClassesLemmas.{title_letters}
use Rattle.tinystr.proofs.FormWords.{class_padded, class_or_nul}
use Rattle.tinystr.proofs.ascii.TinyAsciiStr.is_ascii_alphabetic_titlecase.Goals as goal

pub returns-clause-value : goal.returns-clause-value
returns-clause-value g c =
    c.is_title_of_letters.ensures
    ∙ ap (is_in_class (or_nul is_ascii_uppercase) (or_nul is_ascii_lowercase)) c.all_bytes.ensures.value
    ∙ class_padded (or_nul is_ascii_uppercase) (or_nul is_ascii_lowercase) refl refl g.row.N c.args.self.now
    ∙ class_or_nul is_ascii_uppercase is_ascii_lowercase c.args.self.now c.all_bytes.ensures.small.ascii

pub returns-clause-both : goal.returns-clause-both
returns-clause-both g c =
    c.is_title_of_letters.ensures
    ∙ ap (is_in_class (or_nul is_ascii_uppercase) (or_nul is_ascii_lowercase)) c.all_bytes.ensures.value
    ∙ class_padded (or_nul is_ascii_uppercase) (or_nul is_ascii_lowercase) refl refl g.row.N c.args.self.now
    ∙ class_or_nul is_ascii_uppercase is_ascii_lowercase c.args.self.now c.all_bytes.ensures.small.ascii
    ∙ title_letters c.args.self.now
