-- A night from power-up: POR cleared, FWD_WR_CRC of one word, 36 ticks. That its list says so, meets the premises and sends all is computed; what
-- its results show is told by the theorem.
use mathlib.Core.Path.{◌≡◌, refl, sym, ◌∙◌, subst}
use mathlib.Core.Bool.{true}
use mathlib.Core.List.{List, [], ◌∷◌, ◌++◌}
use Prim.Native.Nat.{ℕ, zero, suc}
use native.Mathlib.Omega.{arith}
use lib.ListN.{replicate, length-replicate}
use Rattle.layout.specs.declared.Layout.TheVariants.{Ours}
use Rattle.command.specs.Layouts.{layouts}
use Rattle.line.specs.Reader.{read_line}
use Rattle.kept.proofs.Fits.{layouts_fit}
use Rattle.kept.proofs.Sound.{facts_sound}
use Rattle.events.specs.declared.Event.{Event}
use Rattle.bridge.specs.Runs.{RightStores, AllSent}
use Rattle.bridge.proofs.Reached.{power_obeys}
use Rattle.order.proofs.Examples.{from, ticks, frame, opening, meets}
use Rattle.order.proofs.Tests.{are_premises, is_all_sent}
use Rattle.script.specs.Script.{power_record, tick_record, release_record, record_of}
use Rattle.listing.specs.Results.{bit_byte}
use Rattle.whole_night.specs.Night.{events, before, events_in, bytes_in, End, tested, judged, night}
use Rattle.whole_night.proofs.Theorems.{all_done_lem}
use Rattle.night_order.specs.Line.{sout_in}
use Rattle.night_order.specs.InOrder.{NightInOrder}
use Rattle.night_order.proofs.InOrder.{in_order_of_a_night}

tick_records : ℕ → List ℕ
tick_records zero = []
tick_records (suc n) = 3 ∷ 0 ∷ 1 ∷ tick_records n

records : List ℕ
unfolding tick_records
records =
    1 ∷ 0xB0 ∷ 0x07 ∷ 1 ∷ 0x80 ∷ 0x00 ∷ 1 ∷ 0xEB ∷ 0x19 ∷ 2 ∷ 0 ∷ 0
    ∷ 1 ∷ 0x20 ∷ 0x00 ∷ 1 ∷ 0xAA ∷ 0xF0 ∷ 1 ∷ 0xAE ∷ 0x24 ∷ 2 ∷ 0 ∷ 0 ∷ tick_records 36

told : List Event
told = opening ++ (frame (0x2000 ∷ 0xAAF0 ∷ []) ++ ticks 36)

says : events_in records ≡ events told
unfolding meets told records events_in before record_of power_record tick_record release_record
says = refl

zeros : RightStores from.tx from.rx
unfolding meets
zeros = record { tx_is = length-replicate {A = ℕ} 512 0; rx_is = length-replicate {A = ℕ} 256 0 }

-- the results are lent all 0s
abbrev answer : End
answer = night layouts from records (replicate 176 0)

in_order : NightInOrder from told answer
unfolding meets told
in_order =
    in_order_of_a_night true Ours (replicate 512 0) (replicate 256 0) zeros records (replicate 176 0) told says (omega arith)
    (are_premises layouts from told refl)

sent : AllSent answer.listed.state.sending
unfolding meets told
sent =
    let o = power_obeys layouts layouts_fit true Ours (replicate 512 0) (replicate 256 0) zeros in
    subst (λ (n : End). AllSent n.listed.state.sending)
    (sym (all_done_lem from records (replicate 176 0) told says (omega arith) zeros (facts_sound _ o.rules))) (is_all_sent _ refl)

shown : (read_line (sout_in told answer.results)).finished ≡ (0xAAF0 ∷ []) ∷ []
unfolding meets told
shown = in_order.all_sent sent ∙ refl

-- and one tick, all of it computed: note 0, SDO FFFF, SOUT 1; the byte behind is as lent
one_tick : (night layouts from (3 ∷ 0 ∷ 1 ∷ []) (7 ∷ 7 ∷ 7 ∷ 7 ∷ 7 ∷ [])).results ≡ 0 ∷ 0xFF ∷ 0xFF ∷ 1 ∷ 7 ∷ []
unfolding meets events_in before record_of power_record tick_record judged tested bytes_in bit_byte
one_tick = refl
