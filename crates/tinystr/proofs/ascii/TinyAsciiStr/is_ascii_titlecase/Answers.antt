use Rattle.std.proofs.Common.{◌≡◌, refl, ap, ◌∙◌}
use Rattle.tinystr.specs.Classes.{is_in_class, is_not_uppercase, is_not_lowercase}
use Rattle.tinystr.proofs.ClassesLemmas.{titlecase_fixed}
use Rattle.tinystr.proofs.FormWords.{class_padded}
use Rattle.tinystr.proofs.ascii.TinyAsciiStr.is_ascii_titlecase.Goals as goal

pub returns-clause-value : goal.returns-clause-value
returns-clause-value g c =
    c.is_title.ensures
    ∙ ap (is_in_class is_not_lowercase is_not_uppercase) c.all_bytes.ensures.value
    ∙ class_padded is_not_lowercase is_not_uppercase refl refl g.row.N c.args.self.now

pub returns-clause-fixed : goal.returns-clause-fixed
returns-clause-fixed g c =
    let value : c.is_title.result ≡ is_in_class is_not_lowercase is_not_uppercase c.args.self.now =
    c.is_title.ensures
    ∙ ap (is_in_class is_not_lowercase is_not_uppercase) c.all_bytes.ensures.value
    ∙ class_padded is_not_lowercase is_not_uppercase refl refl g.row.N c.args.self.now in
    rw value (titlecase_fixed c.args.self.now)
