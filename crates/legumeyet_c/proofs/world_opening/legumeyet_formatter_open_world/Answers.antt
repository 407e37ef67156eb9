use Rattle.std.proofs.Common.{rules, w32, ◌∙◌}
use Rattle.std.proofs.lemmas.Int.{to_z-of_z}
use mir.Val.{SFits}
use Rattle.legumeyet_c.specs.AskedFormats.{format_by_words}
use Rattle.legumeyet_c.specs.Views.{format_content}
use Rattle.legumeyet_c.proofs.SmallBookLemmas.{small_asked}
use Rattle.legumeyet_c.proofs.world_opening.legumeyet_formatter_open_world.Goals as goal

pub returns : goal.returns
returns c =
    let fits : SFits w32 c.status_of.result = search rules in
    let texts = c.world_texts-texts.result in
    record {
      told = (
        texts,
        record {
          outcome = c.open_small.result;
          number = to_z-of_z w32 c.status_of.result fits ∙ c.status_of.ensures;
          held = small_asked texts c.format_by_words-asked.result (format_by_words c.args.format.now c.args.unit.now) c.args.tag.now
              (format_content c.args.formatter.now) _ c.open_small.result c.format_by_words-asked.ensures c.open_small.ensures;
        },
      );
    }
