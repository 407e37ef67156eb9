use Rattle.std.proofs.Common.{rules, w32, ◌∙◌}
use Rattle.std.proofs.lemmas.Int.{to_z-of_z}
use mir.Val.{SFits}
use Rattle.locale_numbers_formats.specs.Skeletons.{skeleton_of}
use Rattle.legumeyet_c.specs.AskedFormats.{format_by_skeleton}
use Rattle.legumeyet_c.specs.Views.{book_open, format_content}
use Rattle.legumeyet_c.proofs.OpeningLemmas.{opening_asked}
use Rattle.legumeyet_c.proofs.SkeletonLemmas.{place_of_opening}
use Rattle.legumeyet_c.proofs.formatter.legumeyet_formatter_open_skeleton.Goals as goal

pub returns-clause-place : goal.returns-clause-place
returns-clause-place c =
    c.tell_place.ensures
    ∙ place_of_opening (book_open c.args.book.now) (skeleton_of c.args.skeleton.now) c.args.tag.now (format_content c.args.formatter.now) _ c.open-outcome.result c.args.place.now
    (opening_asked (book_open c.args.book.now) c.format_by_skeleton-asked.result (format_by_skeleton c.args.skeleton.now) c.args.tag.now
    (format_content c.args.formatter.now) _ c.open-outcome.result c.format_by_skeleton-asked.ensures c.open-outcome.ensures.told)

pub returns-clause-told : goal.returns-clause-told
returns-clause-told c =
    let fits : SFits w32 c.status_of.result = search rules in
    record {
      outcome = c.open-outcome.result;
      number = to_z-of_z w32 c.status_of.result fits ∙ c.status_of.ensures;
      held = opening_asked (book_open c.args.book.now) c.format_by_skeleton-asked.result (format_by_skeleton c.args.skeleton.now) c.args.tag.now
          (format_content c.args.formatter.now) _ c.open-outcome.result c.format_by_skeleton-asked.ensures c.open-outcome.ensures.told;
    }
