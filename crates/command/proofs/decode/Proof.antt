-- `decode` meets `decode_by`, the whole table: an arm of a range by `somes` or `fielded`, what no arm takes by `nones`. Assumes nothing.
use borrow.Author.Rules.{rules}
use Rattle.command.proofs.Laws.{words_fit, somes, fielded, nones}
use Rattle.command.proofs.decode.Statement.{statement}
use Rattle.command.proofs.decode.Tie as tie

pub decode_spec : {M : Type 1} → statement M
decode_spec =
    tie.close
    (tie.spec (λ c κs. search rules)
    (λ c. search rules)
    (λ c κs. search rules)
    (λ c. search rules)
    (λ c κs. search rules)
    (λ c κs. search rules)
    (λ c κs. search rules)
    (λ c. search (rules, words_fit))
    (λ c κs. search rules)
    (λ c. search (rules, words_fit))
    (λ c κs. search rules)
    (λ c. search rules)
    (λ c κs. search rules)
    (λ c. search rules)
    (λ c κs. search rules)
    (λ c κs. search rules)
    (λ c κs. search rules)
    (λ c κs. search rules)
    (λ c κs. search rules)
    (λ c κs. search rules)
    (λ c. search (rules, somes, fielded, nones))
    (λ c. search (rules, somes, fielded, nones))
    (λ c. search (rules, somes, fielded, nones))
    (λ c. search (rules, somes, fielded, nones))
    (λ c. search (rules, somes, fielded, nones))
    (λ c. search (rules, somes, fielded, nones))
    (λ c. search (rules, somes, fielded, nones))
    (λ c. search (rules, somes, fielded, nones))
    (λ c. search (rules, somes, fielded, nones))
    (λ c. search (rules, somes, fielded, nones))
    (λ c. search (rules, somes, fielded, nones))
    (λ c. search (rules, somes, fielded, nones))
    (λ c. search (rules, somes, fielded, nones))
    (λ c. search (rules, somes, fielded, nones))
    (λ c. search (rules, somes, fielded, nones))
    (λ c. search (rules, somes, fielded, nones))
    (λ c. search (rules, somes, fielded, nones))
    (λ c. search (rules, somes, fielded, nones))
    (λ c. search (rules, somes, fielded, nones)))
