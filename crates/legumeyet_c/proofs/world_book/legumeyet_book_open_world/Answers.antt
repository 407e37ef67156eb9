use Rattle.std.proofs.Common.{rules, w32, Err, refl, [], ◌∙◌}
use Rattle.std.proofs.lemmas.Int.{to_z-of_z}
use mir.Val.{SFits}
use Rattle.locale_numbers.specs.declared.BookError.TheVariants.{Memory}
use Rattle.legumeyet_c_values.specs.declared.CallError.TheVariants.{Book}
use Rattle.legumeyet_c.specs.Kinds.{book_in}
use Rattle.legumeyet_c.specs.Views.{book_content}
use Rattle.legumeyet_c.proofs.OpeningLemmas.{opening_refused}
use Rattle.legumeyet_c.proofs.world_book.legumeyet_book_open_world.Goals as goal

pub returns-in-Ok : goal.returns-in-Ok
returns-in-Ok c =
    let fits : SFits w32 c.open_text.result = search rules in
    let told = c.open_text.ensures in (
      c.into_bytes.result.items,
      record { outcome = told.outcome; number = to_z-of_z w32 c.open_text.result fits ∙ told.number; held = told.held },
    )

pub returns-in-Err : goal.returns-in-Err
returns-in-Err c =
    let fits : SFits w32 c.number.result = search rules in (
      [],
      record {
        outcome = Err (Book Memory);
        number = to_z-of_z w32 c.number.result fits ∙ c.number.ensures;
        held = opening_refused book_in _ _ (book_content c.args.book.now) _ (record { fault = Memory; refused = tt; told = refl });
      },
    )
