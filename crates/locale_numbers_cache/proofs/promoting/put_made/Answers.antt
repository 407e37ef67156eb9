use Rattle.locale_numbers_cache.proofs.promoting.put_made.Goals as goal

pub returns-clause-put : goal.returns-clause-put
returns-clause-put g c = λ _. record { kept = c.in-Some.made; right = c.in-Some.ensures.value.1; put = c.in_ok-put.ensures.entries }
