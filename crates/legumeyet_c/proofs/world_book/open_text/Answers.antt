use Rattle.std.proofs.Common.{rules, w32, Err, refl, sym, subst, ◌∙◌}
use Rattle.std.proofs.lemmas.Int.{to_z-of_z}
use mir.Val.{SFits}
use Rattle.legumeyet_c_values.specs.declared.CallError.TheVariants.{Book}
use Rattle.legumeyet_c.specs.Kinds.{book_in}
use Rattle.legumeyet_c.specs.Opening.{SaysBook}
use Rattle.legumeyet_c.specs.Views.{book_content}
use Rattle.legumeyet_c.proofs.OpeningLemmas.{opening_by, opening_refused}
use Rattle.locale_numbers.specs.declared.BookError.TheVariants.{Memory}
use Rattle.legumeyet_c.proofs.world_book.open_text.Goals as goal

pub returns-in-Ok : goal.returns-in-Ok
returns-in-Ok c =
    let fits : SFits w32 c.status_of.result = search rules in
    record {
      outcome = c.put_after.result;
      number = to_z-of_z w32 c.status_of.result fits ∙ c.status_of.ensures;
      held = opening_by book_in _ _ _
          (λ x is. subst (SaysBook c.args.json.items) (sym is)
          (record { value = c.in-Ok.ensures.value.0; reads = c.in-Ok.ensures.value.1; is_book = c.in-Ok.ensures.value.2 }))
          (λ error is. record { fault = Memory; refused = tt; told = is })
          c.put_after.ensures;
    }

pub returns-in-Err : goal.returns-in-Err
returns-in-Err c =
    let fits : SFits w32 c.number.result = search rules in
    record {
      outcome = Err (Book c.in-Err.error);
      number = to_z-of_z w32 c.number.result fits ∙ c.number.ensures;
      held = opening_refused book_in _ _ (book_content c.args.book.now) _ (record { fault = c.in-Err.error; refused = c.in-Err.ensures.refused; told = refl });
    }
