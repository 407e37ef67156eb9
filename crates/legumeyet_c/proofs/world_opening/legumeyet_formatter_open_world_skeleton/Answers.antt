use Rattle.std.proofs.Common.{rules, w32, ◌∙◌}
use Rattle.std.proofs.lemmas.Int.{to_z-of_z}
use mir.Val.{SFits}
use Rattle.locale_numbers_formats.specs.Skeletons.{skeleton_of}
use Rattle.legumeyet_c.specs.AskedFormats.{format_by_skeleton}
use Rattle.legumeyet_c.specs.Views.{format_content}
use Rattle.legumeyet_c.proofs.SmallBookLemmas.{place_of_small, small_asked}
use Rattle.legumeyet_c.proofs.world_opening.legumeyet_formatter_open_world_skeleton.Goals as goal

pub returns-clause-place : goal.returns-clause-place
returns-clause-place c =
    let texts = c.world_texts-texts.result in
    c.tell_place.ensures
    ∙ place_of_small texts (skeleton_of c.args.skeleton.now) c.args.tag.now (format_content c.args.formatter.now) _ c.open_small-outcome.result c.args.place.now
    (small_asked texts c.format_by_skeleton-asked.result (format_by_skeleton c.args.skeleton.now) c.args.tag.now
    (format_content c.args.formatter.now) _ c.open_small-outcome.result c.format_by_skeleton-asked.ensures c.open_small-outcome.ensures)

pub returns-clause-told : goal.returns-clause-told
returns-clause-told c =
    let fits : SFits w32 c.status_of.result = search rules in
    let texts = c.world_texts-texts.result in (
      texts,
      record {
        outcome = c.open_small-outcome.result;
        number = to_z-of_z w32 c.status_of.result fits ∙ c.status_of.ensures;
        held = small_asked texts c.format_by_skeleton-asked.result (format_by_skeleton c.args.skeleton.now) c.args.tag.now
            (format_content c.args.formatter.now) _ c.open_small-outcome.result c.format_by_skeleton-asked.ensures c.open_small-outcome.ensures;
      },
    )
