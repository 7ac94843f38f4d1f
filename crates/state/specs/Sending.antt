-- What a frame does to the sending side: the one place where a host word changes TX, queue and sender (01 Frames; Registers, "Transmit
-- clear"). Assumes nothing.
use Rattle.std.specs.Prelude.{Bool, ◌&&◌, ℕ, leb, eqb, Option}
use Rattle.line.specs.declared.Piece.TheVariants.{Pause}
use Rattle.line.specs.Format.{piece_length}
use Rattle.state.specs.Rings.{taken_back, emptied, ring_after}
use Rattle.state.specs.Queue.{queued, emptied_queue}
use Rattle.state.specs.declared.Sender.{Sender}
use Rattle.state.specs.declared.Sending.{Sending}
use Rattle.state.specs.declared.Deed.{Deed}
use Rattle.state.specs.declared.Deed.TheVariants.{Leave, Enqueue, TakeBack, ClearAll, ResetAll}

-- "sender gives one END from its next tick"
unfoldable pub owing : Sender
owing = record { piece = Pause; gone = 0; left = 0; ends = 1 }

-- nothing under way and nothing owed: "An owed END counts as sending"
abbrev pub idle : Sender → Bool
idle s = leb (piece_length s.piece) s.gone && eqb s.left 0 && eqb s.ends 0

unfoldable pub stored : Sending → Option ℕ → Sending
stored s st = record { tx = ring_after s.tx st; queue = s.queue; sender = s.sender }

unfoldable pub done : Sending → Deed → Sending
done s Leave = s
done s (Enqueue p) = record { tx = s.tx; queue = queued s.queue p; sender = s.sender }
done s (TakeBack n) = record { tx = taken_back n s.tx; queue = s.queue; sender = s.sender }
done s ClearAll = record { tx = emptied s.tx; queue = emptied_queue s.queue; sender = owing }
done s ResetAll = record { tx = emptied s.tx; queue = emptied_queue s.queue; sender = s.sender }
