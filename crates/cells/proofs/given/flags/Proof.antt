-- `given::flags` meets its contract.
use borrow.Author.Rules.{rules}
use Rattle.cells.specs.Cells.{flags_of}
use Rattle.cells.proofs.given.flags.Statement.{statement}
use Rattle.cells.proofs.given.flags.Tie as tie

pub flags_spec : {M : Type 1} → statement M
unfolding flags_of
flags_spec =
    tie.close
    (tie.spec (λ c κs. search rules) (λ c κs. search rules) (λ c κs. search rules) (λ c κs. search rules) (λ c κs. search rules)
    (λ c κs. search rules) (λ c κs. search rules) (λ c κs. search rules) (λ c κs. search rules) (λ c κs. search rules) (λ c κs. search rules)
    (λ c κs. search rules) (λ c κs. search rules) (λ c κs. search rules) (λ c κs. search rules) (λ c κs. search rules) (λ c κs. search rules)
    (λ c κs. search rules) (λ c. cc))
