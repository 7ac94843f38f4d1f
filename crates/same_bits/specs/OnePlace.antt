-- 01's rule of places, which 02 item 3 replaced: "A command with its extra ENDs takes one place". No code follows it any more: it stands here alone, so that
-- SameBits.antt can say that no bit of the line is another by it. Assumes nothing.
use Rattle.std.specs.Prelude.{Bool, false, not, ◌&&◌, ℕ, ◌-◌, ltb}
use Rattle.base.specs.Pick.{pick}
use Rattle.state.specs.Queue.{with_place, last_begun, freed, is_done, differs}
use Rattle.state.specs.Sending.{idle}
use Rattle.state.specs.declared.Place.{Place}
use Rattle.state.specs.declared.Queue.{Queue}
use Rattle.state.specs.declared.Returned.{Returned}
use Rattle.state.specs.declared.Sending.{Sending}
use Rattle.next.specs.Next.{choose, bit_sent}
use Rattle.sender.specs.Sender.{advanced, place_sent}

-- "it is freed when sent and read back, or when sent if it has no words": the command's one place
unfoldable pub returned_as_one : Queue → ℕ → Place → Returned
returned_as_one q i p = pick (is_done p) (record { queue = freed q i; differs = differs p }) (record { queue = with_place q i p; differs = false })

-- it was sent with the last bit of its last extra END
unfoldable pub finished_as_one : Sending → Returned
finished_as_one s =
    pick (idle s.sender && (ltb 0 s.queue.begun && not (last_begun s.queue).sent))
    (returned_as_one s.queue (s.queue.begun - 1) (place_sent (last_begun s.queue))) (record { queue = s.queue; differs = false })

-- what such a tick leaves, and the bit that it sends
unfoldable pub left_as_one : Sending → Bool → ℕ → Sending
left_as_one s may w = record {
  tx = (advanced (choose s may) s w).tx;
  queue = (finished_as_one (advanced (choose s may) s w)).queue;
  sender = (advanced (choose s may) s w).sender;
}

unfoldable pub bit_as_one : Sending → Bool → ℕ → Bool
bit_as_one s may w = bit_sent (choose s may) s.sender w
