-- What a tick sends (01 The line). Assumes nothing.
use Rattle.std.specs.Prelude.{Bool, true, false, ◌&&◌, ◌||◌, ℕ, ◌+◌, ◌-◌, ltb, leb, eqb}
use Rattle.base.specs.Pick.{pick}
use Rattle.crc16.specs.Crc.{crc_word}
use Rattle.line.specs.declared.Piece.TheVariants.{Pause, StartBit, WordPiece, EndPiece}
use Rattle.line.specs.Format.{end_length}
use Rattle.state.specs.Rings.{tx_size, popped}
use Rattle.state.specs.Queue.{place_at, with_place, begun_one, last_begun, speaking, under_way, returned}
use Rattle.state.specs.Sending.{idle}
use Rattle.state.specs.declared.Place.{Place}
use Rattle.state.specs.declared.Queue.{Queue}
use Rattle.state.specs.declared.Returned.{Returned}
use Rattle.state.specs.declared.Sender.{Sender}
use Rattle.state.specs.declared.Sending.{Sending}
use Rattle.next.specs.declared.Next.{Next}
use Rattle.next.specs.declared.Next.TheVariants.{GoOn, LoadWord, Starve, LoadEnd, StartWords, StartEnds, Stay}
use Rattle.sender.specs.declared.Sent.{Sent}
use Rattle.next.specs.Next.{choose, bit_sent, is_starve, is_start}

-- "If the first sent word is 0xAA00 to 0xAA0F or 0xAAF0". VSYNC is 0xAAF0; the FC writes are the sixteen from 0xAA00. 001 7.3.4.6.2
abbrev pub is_head : ℕ → Bool
is_head w = (leb 0xAA00 w && leb w 0xAA0F) || eqb w 0xAAF0

-- a word sent, in the place's CRC; the command's first says whether the CRCs are compared
unfoldable pub word_sent : Place → ℕ → ℕ → Place
word_sent p left w = record {
  words = p.words;
  ends = p.ends;
  store = p.store;
  compare = pick (eqb left p.words) (is_head w) p.compare;
  damaged = p.damaged;
  sent = p.sent;
  read = p.read;
  crc_sent = crc_word p.crc_sent w;
  crc_read = p.crc_read;
}

unfoldable pub queue_sent : Queue → ℕ → ℕ → Queue
queue_sent q left w =
    pick (ltb 0 q.begun) (with_place q (q.begun - 1) (word_sent (place_at q (q.begun - 1)) left w)) q

-- "The sender takes a word from TX at that word's first bit." "TXFFUVF; this tick's 1 begins one END, which ends the command"
unfoldable pub sender_after : Next → Sending → ℕ → Sender
sender_after GoOn s w = record { piece = s.sender.piece; gone = s.sender.gone + 1; left = s.sender.left; ends = s.sender.ends }
sender_after LoadWord s w = record { piece = WordPiece w; gone = 1; left = s.sender.left - 1; ends = s.sender.ends }
sender_after Starve s w = record { piece = EndPiece; gone = 1; left = 0; ends = 0 }
sender_after LoadEnd s w = record { piece = EndPiece; gone = 1; left = 0; ends = s.sender.ends - 1 }
sender_after StartWords s w = record {
  piece = StartBit;
  gone = 1;
  left = (place_at s.queue s.queue.begun).words;
  ends = (place_at s.queue s.queue.begun).ends + 1;
}
sender_after StartEnds s w = record {
  piece = EndPiece;
  gone = 1;
  left = 0;
  ends = (place_at s.queue s.queue.begun).ends - 1;
}
sender_after Stay s w = record { piece = Pause; gone = 0; left = 0; ends = 0 }

unfoldable pub advanced : Next → Sending → ℕ → Sending
advanced GoOn s w = record { tx = s.tx; queue = s.queue; sender = sender_after GoOn s w }
advanced LoadWord s w = record {
  tx = popped tx_size s.tx;
  queue = queue_sent s.queue s.sender.left w;
  sender = sender_after LoadWord s w;
}
advanced Starve s w = record { tx = s.tx; queue = s.queue; sender = sender_after Starve s w }
advanced LoadEnd s w = record { tx = s.tx; queue = s.queue; sender = sender_after LoadEnd s w }
advanced StartWords s w = record { tx = s.tx; queue = begun_one s.queue; sender = sender_after StartWords s w }
advanced StartEnds s w = record { tx = s.tx; queue = begun_one s.queue; sender = sender_after StartEnds s w }
advanced Stay s w = record { tx = s.tx; queue = s.queue; sender = sender_after Stay s w }

-- the words' place
unfoldable pub place_sent : Place → Place
place_sent p = record {
  words = p.words;
  ends = p.ends;
  store = p.store;
  compare = p.compare;
  damaged = p.damaged;
  sent = true;
  read = p.read;
  crc_sent = p.crc_sent;
  crc_read = p.crc_read;
}

-- the whole command: its ENDs' place is freed
unfoldable pub command_sent : Place → Place
command_sent p = record {
  words = p.words;
  ends = 0;
  store = p.store;
  compare = p.compare;
  damaged = p.damaged;
  sent = true;
  read = p.read;
  crc_sent = p.crc_sent;
  crc_read = p.crc_read;
}

-- Each place is sent with its own last bit (02 item 3, docs/DECISIONS.md): that of the ENDs with the last of all, when the sender is idle again;
-- that of the words with the last 1 of their own END, of 18 bits
abbrev pub words_over : Sending → Bool
words_over s = leb end_length s.sender.gone && speaking s.queue

unfoldable pub finished : Sending → Returned
finished s =
    pick (idle s.sender && under_way s.queue)
    (returned s.queue (s.queue.begun - 1) (command_sent (last_begun s.queue)))
    (pick (words_over s) (returned s.queue (s.queue.begun - 1) (place_sent (last_begun s.queue))) (record { queue = s.queue; differs = false }))

unfoldable pub sent_by : Next → Sending → ℕ → Sent
sent_by n s w = record {
  sending = record {
    tx = (advanced n s w).tx;
    queue = (finished (advanced n s w)).queue;
    sender = (advanced n s w).sender;
  };
  sout = bit_sent n s.sender w;
  starved = is_starve n;
  started = is_start n;
  differs = (finished (advanced n s w)).differs;
}

unfoldable pub tick_sender : Sending → Bool → ℕ → Sent
tick_sender s may w = sent_by (choose s may) s w
