-- Where the host's words stand between two events: the open frame's behind its command word, and what was dropped of it behind them; what was
-- accepted of the frames that are over, in order. Assumes nothing.
use mathlib.Core.Path.{◌≡◌, refl, ◌∙◌}
use mathlib.Core.Bool.{Bool, true, false, ◌||◌}
use mathlib.Core.List.{List, [], ◌∷◌, ◌++◌, append_assoc, append-nil}
use Prim.Native.Nat.{ℕ, ◌≤◌}
use native.Mathlib.Omega.{arith}
use lib.ListN.{length, get_or}
use Rattle.layout.specs.declared.Layout.{Layout}
use Rattle.layout.specs.declared.Layout.TheVariants.{Ours}
use Rattle.command.specs.Layouts.{Layouts}
use Rattle.command.specs.declared.Command.{Command}
use Rattle.command.specs.declared.Command.TheVariants.{Filler, Malformed, Forward, DataRead, RegisterWrite, RegisterRead, SoftReset}
use Rattle.state.specs.declared.Deed.{Deed}
use Rattle.state.specs.declared.Deed.TheVariants.{Leave}
use Rattle.state.specs.declared.Phase.{Phase}
use Rattle.state.specs.declared.Phase.TheVariants.{Idle, Collecting, Answering, Discarding}
use Rattle.state.specs.Frame.{is_forward}
use Rattle.ticks.specs.Ticks.{blocked_in}
use Rattle.order.specs.Accepted.{Log, accepts, collects, joined, settle, listed}
use Rattle.order.specs.Framed.{Framed, more, frame}
use Rattle.base.specs.Truth.{never, or_none}

-- Outside a forward.
pub record Shut (l : Layouts) (spoken : List Layout) (g : Log) (hs : List ℕ) : Type 0 where
  pub no_words : g.words ≡ []
  pub not_accepted : g.accepted ≡ false
  pub closed_are : Framed l spoken g.closed hs

-- In a forward of which so many words came.
pub record Open (l : Layouts) (spoken : List Layout) (crc : Bool) (most ends : ℕ) (reads : Bool) (got : ℕ) (blocked : Bool) (g : Log) (hs : List ℕ) : Type 0 where
  pub before : List ℕ
  pub word : ℕ
  pub dropped : List ℕ
  pub closed_are : Framed l spoken g.closed before
  pub forward_is : l.decode (get_or spoken (length before) Ours) word ≡ Forward crc most ends reads
  pub sent_are : hs ≡ before ++ (word ∷ (g.words ++ dropped))
  pub few : length g.words ≤ got
  pub due : got ≤ most
  pub all_stored : blocked ≡ false → dropped ≡ []

unfoldable pub InFrame : Layouts → List Layout → Command → ℕ → Bool → Log → List ℕ → Type 0
InFrame l spoken Filler got blocked g hs = Shut l spoken g hs
InFrame l spoken Malformed got blocked g hs = Shut l spoken g hs
InFrame l spoken (Forward crc most ends reads) got blocked g hs = Open l spoken crc most ends reads got blocked g hs
InFrame l spoken (DataRead crc words) got blocked g hs = Shut l spoken g hs
InFrame l spoken (RegisterWrite crc address count) got blocked g hs = Shut l spoken g hs
InFrame l spoken (RegisterRead crc address count) got blocked g hs = Shut l spoken g hs
InFrame l spoken SoftReset got blocked g hs = Shut l spoken g hs

unfoldable pub Stands : Layouts → List Layout → Phase → Log → List ℕ → Type 0
Stands l spoken Idle g hs = Shut l spoken g hs
Stands l spoken (Collecting command got sum mine released blocked) g hs = InFrame l spoken command got blocked g hs
Stands l spoken (Answering reply sum) g hs = Shut l spoken g hs
Stands l spoken Discarding g hs = Shut l spoken g hs

pub on : (l : Layouts) (spoken : List Layout) (A : List (List ℕ)) (hs xs : List ℕ) → Framed l spoken A hs → Framed l spoken A (hs ++ xs)
on l spoken A hs [] f = rw append-nil f
on l spoken A hs (x ∷ xs) f = rw (← (append_assoc hs (x ∷ []) xs)) (on l spoken A (hs ++ (x ∷ [])) xs (more A hs x f))

pub shut_more : (l : Layouts) (spoken : List Layout) (g : Log) (hs xs : List ℕ) → Shut l spoken g hs → Shut l spoken g (hs ++ xs)
shut_more l spoken g hs xs h = record { no_words = h.no_words; not_accepted = h.not_accepted; closed_are = on l spoken _ hs xs h.closed_are }

module _ (l : Layouts) (spoken : List Layout) (g : Log) (hs : List ℕ) where
  -- accepted or not
  pub framed_open : (crc : Bool) (most ends : ℕ) (reads : Bool) (got : ℕ) (blocked : Bool) → Open l spoken crc most ends reads got blocked g hs
      → (accepted : Bool) → Framed l spoken (joined accepted g.closed g.words) hs
  unfolding joined
  framed_open crc most ends reads got blocked h true =
      rw (h.sent_are, ← (append_assoc h.before (h.word ∷ g.words) h.dropped))
      (on l spoken _ _ h.dropped
      (frame g.closed h.before h.word g.words crc most ends reads h.closed_are h.forward_is (omega (arith, h.few, h.due))))
  framed_open crc most ends reads got blocked h false = rw h.sent_are (on l spoken _ h.before _ h.closed_are)

  pub framed_shut : Shut l spoken g hs → (accepted : Bool) → accepted ≡ false → Framed l spoken (joined accepted g.closed g.words) hs
  unfolding joined
  framed_shut h true e = never true refl e
  framed_shut h false e = h.closed_are

  framed_frame : (command : Command) (got : ℕ) (blocked : Bool) → InFrame l spoken command got blocked g hs → (d : Deed) → accepts d ≡ false
      → Framed l spoken (joined (g.accepted || accepts d) g.closed g.words) hs
  unfolding InFrame
  framed_frame Filler got blocked h d e = framed_shut h _ (or_none _ _ e ∙ h.not_accepted)
  framed_frame Malformed got blocked h d e = framed_shut h _ (or_none _ _ e ∙ h.not_accepted)
  framed_frame (Forward crc most ends reads) got blocked h d e = framed_open crc most ends reads got blocked h _
  framed_frame (DataRead crc words) got blocked h d e = framed_shut h _ (or_none _ _ e ∙ h.not_accepted)
  framed_frame (RegisterWrite crc address count) got blocked h d e = framed_shut h _ (or_none _ _ e ∙ h.not_accepted)
  framed_frame (RegisterRead crc address count) got blocked h d e = framed_shut h _ (or_none _ _ e ∙ h.not_accepted)
  framed_frame SoftReset got blocked h d e = framed_shut h _ (or_none _ _ e ∙ h.not_accepted)

  pub framed_over : (ph : Phase) → Stands l spoken ph g hs → (d : Deed) → accepts d ≡ false
      → Framed l spoken (joined (g.accepted || accepts d) g.closed g.words) hs
  unfolding Stands
  framed_over Idle h d e = framed_shut h _ (or_none _ _ e ∙ h.not_accepted)
  framed_over (Collecting command got sum mine released blocked) h d e = framed_frame command got blocked h d e
  framed_over (Answering reply sum) h d e = framed_shut h _ (or_none _ _ e ∙ h.not_accepted)
  framed_over Discarding h d e = framed_shut h _ (or_none _ _ e ∙ h.not_accepted)

  pub framed_listed : (ph : Phase) → Stands l spoken ph g hs → Framed l spoken (listed g) hs
  unfolding listed accepts
  framed_listed ph h = rw (← (or_none g.accepted false refl)) (framed_over ph h Leave refl)

  -- an event that leaves the frame alone, or blocks it
  same_shut : (t : Bool) → Shut l spoken g hs → Shut l spoken (settle t g.closed g.words (g.accepted || false)) hs
  unfolding settle joined
  same_shut true h =
      record { no_words = h.no_words; not_accepted = or_none _ _ refl ∙ h.not_accepted; closed_are = h.closed_are }
  same_shut false h =
      record { no_words = refl; not_accepted = refl; closed_are = framed_shut h _ (or_none _ _ refl ∙ h.not_accepted) }

  same_frame : (command : Command) (got : ℕ) (blocked : Bool) → InFrame l spoken command got blocked g hs
      → InFrame l spoken command got blocked (settle true g.closed g.words (g.accepted || false)) hs
  same_frame command got blocked h = rw (or_none g.accepted false refl) (unfold settle in h)

  pub same : (ph : Phase) → Stands l spoken ph g hs → Stands l spoken ph (settle (collects ph) g.closed g.words (g.accepted || false)) hs
  unfolding Stands collects
  same Idle h = same_shut false h
  same (Collecting command got sum mine released blocked) h = same_frame command got blocked h
  same (Answering reply sum) h = same_shut false h
  same Discarding h = same_shut false h

  blocks_frame : (command : Command) (got : ℕ) (blocked : Bool) → InFrame l spoken command got blocked g hs
      → InFrame l spoken command got (is_forward command || blocked) g hs
  unfolding InFrame
  blocks_frame Filler got blocked h = h
  blocks_frame Malformed got blocked h = h
  blocks_frame (Forward crc most ends reads) got blocked h =
      record {
        before = h.before;
        word = h.word;
        dropped = h.dropped;
        closed_are = h.closed_are;
        forward_is = h.forward_is;
        sent_are = h.sent_are;
        few = h.few;
        due = h.due;
        all_stored = λ e. never true refl e;
      }
  blocks_frame (DataRead crc words) got blocked h = h
  blocks_frame (RegisterWrite crc address count) got blocked h = h
  blocks_frame (RegisterRead crc address count) got blocked h = h
  blocks_frame SoftReset got blocked h = h

  pub blocks : (ph : Phase) → Stands l spoken ph g hs → Stands l spoken (blocked_in ph) g hs
  unfolding Stands blocked_in
  blocks Idle h = h
  blocks (Collecting command got sum mine released blocked) h = blocks_frame command got blocked h
  blocks (Answering reply sum) h = h
  blocks Discarding h = h
