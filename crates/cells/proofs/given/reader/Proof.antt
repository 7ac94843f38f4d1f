-- `given::reader` meets its contract.
use borrow.Author.Rules.{rules}
use Rattle.cells.specs.Cells.{reader_of}
use Rattle.cells.proofs.given.reader.Statement.{statement}
use Rattle.cells.proofs.given.reader.Tie as tie

pub reader_spec : {M : Type 1} → statement M
unfolding reader_of
reader_spec =
    tie.close
    (tie.spec (λ c κs. search rules) (λ c κs. search rules) (λ c κs. search rules) (λ c κs. search rules) (λ c κs. search rules)
    (λ c κs. search rules) (λ c κs. search rules) (λ c κs. search rules) (λ c κs. search rules) (λ c κs. search rules) (λ c. cc))
