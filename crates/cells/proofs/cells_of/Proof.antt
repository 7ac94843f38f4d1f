-- `cells_of` meets its contract: each cell gives its numbers back, and they are the record's (`image`). The facts are further back than a search goes.
use borrow.Author.Rules.{rules}
use Rattle.cells.proofs.Back.{image}
use Rattle.cells.proofs.cells_of.Statement.{statement}
use Rattle.cells.proofs.cells_of.Tie as tie

pub cells_of_spec : {M : Type 1} → statement M
cells_of_spec =
    tie.close
    (tie.spec (λ c κs. search rules) (λ c κs. search rules) (λ c κs. search rules) (λ c κs. search rules) (λ c κs. search rules)
    (λ c κs. search rules) (λ c κs. search rules) (λ c κs. search rules) (λ c κs. search rules) (λ c κs. search rules) (λ c κs. search rules)
    (λ c κs. search rules) (λ c κs. search rules) (λ c κs. search rules) (λ c κs. search rules) (λ c κs. search rules) (λ c κs. search rules)
    (λ c κs. search rules) (λ c. search rules) (λ c. search rules) (λ c. search rules) (λ c. search rules) (λ c κs. search rules) (λ c. search rules)
    (λ c. search rules) (λ c. search rules) (λ c. search rules) (λ c κs. search rules) (λ c. search rules) (λ c. search rules) (λ c. search rules)
    (λ c. search rules) (λ c κs. search rules) (λ c κs. search rules) (λ c κs. search rules) (λ c κs. search rules) (λ c κs. search rules)
    (λ c κs. search rules) (λ c κs. search rules) (λ c κs. search rules) (λ c κs. search rules) (λ c κs. search rules) (λ c κs. search rules)
    (λ c.
    let f-marks2 = c.marks-2.ensures in
    let f-marks = c.marks.ensures in
    let f-place8 = c.place-8.ensures in
    let f-place7 = c.place-7.ensures in
    let f-place6 = c.place-6.ensures in
    let f-place5 = c.place-5.ensures in
    let f-place4 = c.place-4.ensures in
    let f-place3 = c.place-3.ensures in
    let f-place2 = c.place-2.ensures in
    let f-place = c.place.ensures in
    let f-four6 = c.four-6.ensures in
    let f-four5 = c.four-5.ensures in
    let f-four4 = c.four-4.ensures in
    let f-open = c.open.ensures in
    let f-phase = c.phase.ensures in
    let f-clock = c.clock.ensures in
    let f-ear = c.ear.ensures in
    let f-piece = c.piece.ensures in
    let f-four3 = c.four-3.ensures in
    let f-four2 = c.four-2.ensures in
    let f-four = c.four.ensures in
    let f-flags = c.flags.ensures in
    let f-state = c.state.ensures in
    let f-place-at8 = c.place_at-p7.ensures in
    let f-place-at7 = c.place_at-p6.ensures in
    let f-place-at6 = c.place_at-p5.ensures in
    let f-place-at5 = c.place_at-p4.ensures in
    let f-place-at4 = c.place_at-p3.ensures in
    let f-place-at3 = c.place_at-p2.ensures in
    let f-place-at2 = c.place_at-p1.ensures in
    let f-place-at = c.place_at-p0.ensures in
    image c.args.b c.well_formed.0.1.1.1.0.1.1.1.0.1.1.0.1.0.1 c.well_formed.0.1.1.1.1.1.0.1.1.1.0.1.0.1 f-place-at f-place-at2 f-place-at3 f-place-at4 f-place-at5 f-place-at6 f-place-at7 f-place-at8 f-state f-flags f-four f-four2 f-four3 f-piece f-ear f-clock f-phase f-open f-four4 f-four5 f-four6 f-place f-place2 f-place3 f-place4 f-place5 f-place6 f-place7 f-place8 f-marks f-marks2))
