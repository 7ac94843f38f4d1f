-- The queue of eight places (01 The line, "The queue has eight places (ours)"; 02 item 3). Assumes nothing.
use Rattle.std.specs.Prelude.{Bool, false, not, ◌&&◌, ◌||◌, List, [], ◌∷◌, ℕ, ◌+◌, ◌-◌, ltb, eqb, take, drop, get_or, set, Option, None, Some}
use Rattle.base.specs.Pick.{pick}
use Rattle.crc16.specs.Crc.{start}
use Rattle.state.specs.declared.Place.{Place}
use Rattle.state.specs.declared.Queue.{Queue}
use Rattle.state.specs.declared.Returned.{Returned}

-- 01 The line (ours)
abbrev pub places : ℕ
places = 8

unfoldable pub no_place : Place
no_place = record {
  words = 0;
  ends = 0;
  store = false;
  compare = false;
  damaged = false;
  sent = false;
  read = false;
  crc_sent = 0;
  crc_read = 0;
}

-- a command as it is queued, with one place or two: nothing sent, nothing read
unfoldable pub new_place : ℕ → ℕ → Bool → Place
new_place words ends store = record {
  words = words;
  ends = ends;
  store = store;
  compare = false;
  damaged = false;
  sent = false;
  read = false;
  crc_sent = start;
  crc_read = start;
}

abbrev pub place_at : Queue → ℕ → Place
place_at q i = get_or q.places i no_place

abbrev pub with_place : Queue → ℕ → Place → Queue
with_place q i p = record { places = set q.places i p; used = q.used; begun = q.begun }

abbrev pub queued : Queue → Place → Queue
queued q p = record { places = set q.places q.used p; used = q.used + 1; begun = q.begun }

abbrev pub begun_one : Queue → Queue
begun_one q = record { places = q.places; used = q.used; begun = q.begun + 1 }

abbrev pub emptied_queue : Queue → Queue
emptied_queue q = record { places = q.places; used = 0; begun = 0 }

-- the commands not yet begun, oldest first
unfoldable pub waiting : Queue → List Place
waiting q = take (q.used - q.begun) (drop q.begun q.places)

-- the words that these have to send
unfoldable pub words_of : List Place → ℕ
words_of [] = 0
words_of (p ∷ ps) = p.words + words_of ps

-- "a forward with both takes two places", one for its words and one for its extra ENDs; with either alone it takes one. 02 item 3
unfoldable pub places_of : Place → ℕ
places_of p = pick (ltb 0 p.words && ltb 0 p.ends) 2 1

unfoldable pub places_in : List Place → ℕ
places_in [] = 0
places_in (p ∷ ps) = places_of p + places_in ps

-- every place not freed yet
abbrev pub in_use : Queue → ℕ
in_use q = places_in (take q.used q.places)

-- "Note 9 is given when fewer places are free than the command needs": both places of a command with words and ENDs, or none. 02 item 3
unfoldable pub lacks : Queue → Place → Bool
lacks q p = ltb (places - in_use q) (places_of p)

-- the youngest command that has begun
abbrev pub last_begun : Queue → Place
last_begun q = place_at q (q.begun - 1)

-- it has words, and the last 1 of their own END has not gone out (docs/DECISIONS.md, 02 item 3)
abbrev pub speaks : Place → Bool
speaks p = ltb 0 p.words && not p.sent

abbrev pub speaking : Queue → Bool
speaking q = ltb 0 q.begun && speaks (last_begun q)

-- "The two count as one command under way": begun, and its words or its ENDs not yet sent. 02 item 3
abbrev pub under_way : Queue → Bool
under_way q = ltb 0 q.begun && (not (last_begun q).sent || ltb 0 (last_begun q).ends)

-- Freed: the younger commands move up by one.
unfoldable pub moved : List Place → ℕ → ℕ → Place
moved ps i k = pick (ltb k i) (get_or ps k no_place) (get_or ps (k + 1) no_place)

unfoldable pub freed : Queue → ℕ → Queue
freed q i = record {
  places =
      moved q.places i 0
      ∷ moved q.places i 1
      ∷ moved q.places i 2
      ∷ moved q.places i 3
      ∷ moved q.places i 4
      ∷ moved q.places i 5
      ∷ moved q.places i 6
      ∷ moved q.places i 7
      ∷ [];
  used = q.used - 1;
  begun = q.begun - 1;
}

-- "the oldest place with words that has begun sending and is not yet read": its number, or the number of commands begun where there is none
unfoldable pub first_unread : List Place → ℕ
first_unread [] = 0
first_unread (p ∷ ps) = pick (ltb 0 p.words && not p.read) 0 (first_unread ps + 1)

unfoldable pub claimed : Queue → ℕ
claimed q = first_unread (take q.begun q.places)

-- that number, where there is one
unfoldable pub oldest_unread : Queue → Option ℕ
oldest_unread q = pick (ltb (claimed q) q.begun) (Some (claimed q)) None

-- the youngest command that has begun, where there is one
unfoldable pub youngest_begun : Queue → Option Place
youngest_begun q = pick (ltb 0 q.begun) (Some (last_begun q)) None

-- "it is freed when sent and read back, or when sent if it has no words"
abbrev pub is_done : Place → Bool
is_done p = p.sent && (p.read || eqb p.words 0)

-- "the CRCs of words sent and read are compared when the place is freed", with no check error and a first word that asks for it
abbrev pub differs : Place → Bool
differs p = p.compare && not p.damaged && not (eqb p.crc_sent p.crc_read)

-- The words' place freed: ENDs that still go out keep their own, and are from then on as ENDs alone. 02 item 3, docs/DECISIONS.md
abbrev pub freed_of : Queue → ℕ → Place → Queue
freed_of q i p = pick (ltb 0 p.ends) (with_place q i (new_place 0 p.ends false)) (freed q i)

-- a place with new marks: put back, or freed where it is done; and whether its CRCs differ then
unfoldable pub returned : Queue → ℕ → Place → Returned
returned q i p =
    pick (is_done p) (record { queue = freed_of q i p; differs = differs p }) (record { queue = with_place q i p; differs = false })
