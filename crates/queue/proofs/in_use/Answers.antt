use Rattle.std.proofs.Common.{◌≡◌, length, rules, arith, take, ◌∙◌}
use Rattle.std.specs.List.{sum_by}
use Rattle.std.proofs.lemmas.Iterator.{YieldsList-from_slice, YieldsList-from_take, YieldsList-from_map}
use Rattle.std.proofs.lemmas.Iterator.Consumers.{sum_by_from_yields_List, fits_by_from_yields_list}
use Rattle.state.specs.Queue.{places_of}
use Rattle.queue.proofs.Laws.{as_summed, at_most_all}
use Rattle.queue.proofs.in_use.Goals as goal

pub sum-requires-clause-fits : goal.sum-requires-clause-fits
sum-requires-clause-fits c =
    let q = c.args.queue in
    let l : length q.places ≡ 8 = c.well_formed.0.1.1.0.1.0.1 in
    fits_by_from_yields_list places_of (take q.used q.places) c.map.result _
    (YieldsList-from_map _ places_of (YieldsList-from_take q.used (YieldsList-from_slice q.places (cc)) (cc)) (cc) (λ x r s k. search rules))
    (omega (arith, at_most_all q l))

pub returns : goal.returns
returns c =
    let q = c.args.queue in
    let l : length q.places ≡ 8 = c.well_formed.0.1.1.0.1.0.1 in
    let e : c.sum.result ≡ sum_by places_of (take q.used q.places) =
    sum_by_from_yields_List places_of (take q.used q.places) c.map.result _ c.sum.ensures.ran
    (YieldsList-from_map _ places_of (YieldsList-from_take q.used (YieldsList-from_slice q.places (cc)) (cc)) (cc) (λ x r s k. search rules)) in
    (e ∙ as_summed (take q.used q.places), omega (arith, e, at_most_all q l))
