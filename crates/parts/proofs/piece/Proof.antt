-- `piece` meets its contract.
use borrow.Author.Rules.{rules}
use Rattle.base.specs.Pick.{picks}
use Rattle.parts.specs.Variants.{piece_of}
use Rattle.parts.proofs.piece.Statement.{statement}
use Rattle.parts.proofs.piece.Tie as tie

pub piece_spec : {M : Type 1} → statement M
unfolding piece_of
piece_spec = tie.close (tie.spec (λ c. search (rules, picks)) (λ c. search (rules, picks)) (λ c. search (rules, picks)) (λ c. search (rules, picks)))
