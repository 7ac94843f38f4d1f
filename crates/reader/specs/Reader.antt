-- What a tick hears (01 The line, "The reader (SIN)"; 02 item 4; the bits are read by `hear` of `line`). Assumes nothing.
use Rattle.std.specs.Prelude.{Bool, true, false, not, ◌&&◌, ℕ, ltb, Option, None, Some}
use Rattle.base.specs.Pick.{pick}
use Rattle.crc16.specs.Crc.{crc_word}
use Rattle.line.specs.Reader.{hear}
use Rattle.line.specs.declared.Ear.{Ear}
use Rattle.line.specs.declared.Found.{Found}
use Rattle.line.specs.declared.Found.TheVariants.{Nothing, Start, Word, End, CheckError, Over}
use Rattle.registers.specs.Registers.{rxff}
use Rattle.registers.specs.Raising.{raised, went_bad}
use Rattle.registers.specs.declared.Flags.{Flags}
use Rattle.registers.specs.declared.Flag.TheVariants.{LineCrc, RxOvf}
use Rattle.state.specs.Rings.{rx_size, pushed}
use Rattle.state.specs.Queue.{place_at, with_place, claimed, returned}
use Rattle.state.specs.declared.Place.{Place}
use Rattle.state.specs.declared.Queue.{Queue}
use Rattle.state.specs.declared.Returned.{Returned}
use Rattle.state.specs.declared.Reader.{Reader}
use Rattle.state.specs.declared.Receiving.{Receiving}
use Rattle.reader.specs.declared.Taken.{Taken}

abbrev pub with_ear : Receiving → Ear → Receiving
with_ear r e = record {
  rx = r.rx;
  reader = record { ear = e; belongs = r.reader.belongs; storing = r.reader.storing; stored = r.reader.stored };
}

abbrev pub is_claim : Queue → Bool
is_claim q = ltb (claimed q) q.begun

-- "Each command read belongs, from its start, to the oldest place .."; its words "go to RX unless an RX flag was up at the command's start"
unfoldable pub began : Receiving → Queue → Flags → Ear → Receiving
began r q f e = record {
  rx = r.rx;
  reader = record {
    ear = e;
    belongs = is_claim q;
    storing = is_claim q && (place_at q (claimed q)).store && not (rxff f);
    stored = false;
  };
}

-- marks of the place that the command belongs to
abbrev pub place_word : Place → ℕ → Place
place_word p w = record {
  words = p.words;
  ends = p.ends;
  store = p.store;
  compare = p.compare;
  damaged = p.damaged;
  sent = p.sent;
  read = p.read;
  crc_sent = p.crc_sent;
  crc_read = crc_word p.crc_read w;
}

abbrev pub place_damaged : Place → Place
place_damaged p = record {
  words = p.words;
  ends = p.ends;
  store = p.store;
  compare = p.compare;
  damaged = true;
  sent = p.sent;
  read = p.read;
  crc_sent = p.crc_sent;
  crc_read = p.crc_read;
}

abbrev pub place_read : Place → Place
place_read p = record {
  words = p.words;
  ends = p.ends;
  store = p.store;
  compare = p.compare;
  damaged = p.damaged;
  sent = p.sent;
  read = true;
  crc_sent = p.crc_sent;
  crc_read = p.crc_read;
}

unfoldable pub word_read : Bool → Queue → ℕ → Queue
word_read belongs q w =
    pick (belongs && is_claim q) (with_place q (claimed q) (place_word (place_at q (claimed q)) w)) q

unfoldable pub error_read : Bool → Queue → Queue
error_read belongs q = pick (belongs && is_claim q) (with_place q (claimed q) (place_damaged (place_at q (claimed q)))) q

unfoldable pub end_read : Bool → Queue → Returned
end_read belongs q =
    pick (belongs && is_claim q) (returned q (claimed q) (place_read (place_at q (claimed q)))) (record { queue = q; differs = false })

-- a word at its right check bit: stored, dropped with note 14, or not for RX
unfoldable pub word_taken : Receiving → Queue → Flags → Ear → ℕ → Taken
word_taken r q f e w =
    pick r.reader.storing
    (pick (ltb r.rx.count rx_size)
    (record {
      receiving = record {
        rx = pushed r.rx;
        reader = record { ear = e; belongs = r.reader.belongs; storing = true; stored = true };
      };
      queue = word_read r.reader.belongs q w;
      flags = f;
      store = Some w;
      full = false;
      ended = false;
    })
    (record {
      receiving = record {
        rx = r.rx;
        reader = record { ear = e; belongs = r.reader.belongs; storing = false; stored = r.reader.stored };
      };
      queue = word_read r.reader.belongs q w;
      flags = raised f RxOvf;
      store = None;
      full = true;
      ended = false;
    }))
    (record {
      receiving = with_ear r e;
      queue = word_read r.reader.belongs q w;
      flags = f;
      store = None;
      full = false;
      ended = false;
    })

-- nothing stored, nothing dropped
abbrev pub taken : Receiving → Queue → Flags → Bool → Taken
taken r q f ended = record { receiving = r; queue = q; flags = f; store = None; full = false; ended = ended }

unfoldable pub at_end : Receiving → Ear → Receiving
at_end r e = record { rx = r.rx; reader = record { ear = e; belongs = false; storing = false; stored = false } }

unfoldable pub ended : Receiving → Queue → Flags → Ear → Taken
ended r q f e =
    taken (at_end r e) (end_read r.reader.belongs q).queue (pick (end_read r.reader.belongs q).differs (raised f LineCrc) f)
    r.reader.stored

-- by what the bit completed
unfoldable pub taken_by : Found → Receiving → Queue → Flags → Ear → Taken
taken_by Nothing r q f e = taken (with_ear r e) q f false
taken_by Start r q f e = taken (began r q f e) q f false
taken_by (Word w) r q f e = word_taken r q f e w
taken_by (CheckError n) r q f e = taken (with_ear r e) (error_read r.reader.belongs q) (went_bad f n) false
taken_by End r q f e = ended r q f e
taken_by Over r q f e = ended r q f e

unfoldable pub tick_reader : Receiving → Queue → Flags → Bool → Taken
tick_reader r q f sin = taken_by (hear r.reader.ear sin).found r q f (hear r.reader.ear sin).ear
