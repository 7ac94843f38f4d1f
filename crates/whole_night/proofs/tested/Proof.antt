-- `whole_night::tested` meets its contract.
use borrow.Author.Rules.{rules}
use mathlib.Core.Path.{◌≡◌}
use lib.ListN.{length}
use Rattle.whole_night.proofs.Link.{to_short, to_stores_tx, to_stores_rx, to_broken, to_done}
use Rattle.whole_night.proofs.Fits.{is_fit, is_listable}
use Rattle.whole_night.proofs.tested.Statement.{statement}
use Rattle.whole_night.proofs.tested.Tie as tie

pub tested_spec : {M : Type 1} → statement M
tested_spec =
    tie.close
    (tie.spec (λ c κs. search rules) (λ c. search (rules, to_short)) (λ c κs. search rules) (λ c. search (rules, to_stores_tx))
    (λ c κs. search rules) (λ c. search (rules, to_stores_rx)) (λ c κs. search rules)
    (λ c κs. let l : length c.args.bridge.sending.queue.places ≡ 8 = c.well_formed.0.1.1.1.0.1.1.1.0.1.1.0.1.0.1 in search (rules, is_fit, is_listable))
    (λ c. search rules) (λ c. search rules) (λ c. search rules)
    (λ c. let l : length c.args.bridge.sending.queue.places ≡ 8 = c.well_formed.0.1.1.1.0.1.1.1.0.1.1.0.1.0.1 in search (rules, to_done, is_fit))
    (λ c κs. search rules) (λ c. search (rules, to_broken)))
