-- `whole_night::run` meets its contract: the events done so far.
use borrow.Author.Rules.{rules}
use Prim.Native.Nat.{◌-◌}
use Rattle.listing.specs.Run.{Gone}
use Rattle.listing.proofs.Laws.{lent_now}
use Rattle.night_parts.proofs.Single.{onward_on, onward_less}
use Rattle.whole_night.proofs.Fits.{starts, to_moment, tx_kept, rx_kept}
use Rattle.whole_night.proofs.run.Statement.{statement}
use Rattle.whole_night.proofs.run.Tie as tie

abbrev invariant-loop : tie.invariant-loop-k
invariant-loop tx₀ rx₀ records many results₀ b₀ k₀ tx rx results b k = Gone records many 0 b₀ tx₀ rx₀ results₀ k b tx rx results

abbrev decreases-loop : tie.decreases-loop-k
decreases-loop tx₀ rx₀ records many results₀ b₀ k₀ tx rx results b k = many - k

pub run_spec : {M : Type 1} → statement M
run_spec =
    tie.close
    (tie.spec invariant-loop decreases-loop (λ c. search (rules, starts)) (λ c κs. search (rules, lent_now)) (λ c. search (rules, onward_less))
    (λ c. search (rules, onward_on)) (λ c. search (rules, tx_kept)) (λ c. search (rules, rx_kept)) (λ c. search rules)
    (λ c. search (rules, to_moment)))
