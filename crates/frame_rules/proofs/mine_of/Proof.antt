use borrow.Author.Rules.{rules}
use Rattle.frame_rules.proofs.Laws.{to_mine}
use Rattle.state.specs.Frame.{mine_of}
use Rattle.frame_rules.proofs.mine_of.Statement.{statement}
use Rattle.frame_rules.proofs.mine_of.Tie as tie

pub mine_of_spec : {M : Type 1} → statement M
unfolding mine_of
mine_of_spec =
    tie.close
    (tie.spec (λ c. search rules) (λ c. search rules) (λ c. search rules) (λ c. search rules) (λ c. search (rules, to_mine))
    (λ c. search (rules, to_mine)) (λ c. search (rules, to_mine)) (λ c. search (rules, to_mine)))
