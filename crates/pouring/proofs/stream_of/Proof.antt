-- `pouring::stream_of` meets its contract.
use borrow.Author.Rules.{rules}
use Rattle.pouring.specs.Pour.{stream_of}
use Rattle.pouring.proofs.Cases.{to_stream}
use Rattle.pouring.proofs.stream_of.Statement.{statement}
use Rattle.pouring.proofs.stream_of.Tie as tie

pub stream_of_spec : {M : Type 1} → statement M
unfolding stream_of
stream_of_spec =
    tie.close
    (tie.spec (λ c. search rules) (λ c. search rules) (λ c. search rules) (λ c. search rules)
    (λ c. search (rules, to_stream)) (λ c. search (rules, to_stream)) (λ c. search (rules, to_stream)) (λ c. search (rules, to_stream)))
