-- A host word while discarding: "nothing but the watchdog mark changes" (01 Notes, note 4), the whole state compared. Assumes nothing.
use Rattle.std.specs.Prelude.{None}
use mathlib.Core.Path.{◌≡◌, refl, sym, ◌∙◌, ap, ap₂}
use mathlib.Core.Bool.{Bool, true, false, not, ◌&&◌, ◌||◌}
use Prim.Native.Nat.{ℕ}
use lib.Dec.{ltb, eqb}
use borrow.Author.Tests.{not-true}
use Rattle.base.specs.Pick.{pick}
use Rattle.command.specs.Layouts.{Layouts}
use Rattle.host.specs.Frames.{planned_in, planned}
use Rattle.plan.specs.Plan.{no_answer, marked, settled, concluded, cleared_away, received, performed}
use Rattle.registers.specs.declared.Control.{Control}
use Rattle.state.specs.Rings.{ring_after}
use Rattle.state.specs.Sending.{stored, done}
use Rattle.state.specs.declared.Bridge.{Bridge}
use Rattle.state.specs.declared.Note.TheVariants.{Discarded}
use Rattle.state.specs.declared.Phase.{Phase}
use Rattle.state.specs.declared.Phase.TheVariants.{Discarding}
use Rattle.rules.specs.Facts.{ControlRules}
use Rattle.frame_rules.specs.Frames.{drdy_sound}
use Rattle.events.specs.Events.{hosted, reacted}
use Rattle.ticks.specs.declared.Did.{Did}
use Rattle.events.specs.declared.Event.TheVariants.{Word}

-- DRDY that obeys its rule is settled already
pub settled_stays : (c : Control) (count : ℕ) → drdy_sound c.drdy c.regs.rxfflvl count ≡ true → settled c count false ≡ c
unfolding settled pick
settled_stays c count s = ap (λ (d : Bool). record { mode = c.mode; drdy = d; flags = c.flags; regs = c.regs })
    (go (eqb count 0) (ltb c.regs.rxfflvl count) c.drdy s)
  where
    go : (empty over drdy : Bool) → pick empty drdy (not (over && drdy)) ≡ true → pick empty true (pick (over || false) false drdy) ≡ drdy
    go true over drdy h = sym h
    go false true drdy h = sym (not-true drdy h)
    go false false drdy h = refl

-- what is left: the bridge with its watchdog marked, nothing on either line, nothing stored
abbrev pub only_marked : Bridge → Did
only_marked b = record {
  bridge = record {
    control = b.control;
    sending = b.sending;
    receiving = b.receiving;
    frame = b.frame;
    clock = marked b.clock;
  };
  sdo = no_answer;
  sout = true;
  note = Discarded;
  tx = None;
  rx = None;
}

-- the same, with another control and in another phase
abbrev marked_in : Bridge → Control → Phase → Did
marked_in b c p = record {
  bridge = record {
    control = c;
    sending = b.sending;
    receiving = b.receiving;
    frame = record { phase = p; held = b.frame.held; xmodem = b.frame.xmodem };
    clock = marked b.clock;
  };
  sdo = no_answer;
  sout = true;
  note = Discarded;
  tx = None;
  rx = None;
}

dropped : (l : Layouts) (b : Bridge) (w x : ℕ)
    → hosted l b (marked b.clock) (planned_in l b Discarding w x) ≡ marked_in b (settled b.control b.receiving.rx.count false) Discarding
unfolding planned_in performed stored done ring_after cleared_away received concluded pick
dropped l b w x = refl

pub discarded : (l : Layouts) (b : Bridge) (w x y : ℕ) → b.frame.phase ≡ Discarding
    → ControlRules b.control b.receiving.rx.count b.frame.phase → reacted l b (Word w) x y ≡ only_marked b
unfolding reacted planned
discarded l b w x y e r =
    ap (λ (p : Phase). hosted l b (marked b.clock) (planned_in l b p w y)) e
    ∙ dropped l b w y
    ∙ ap₂ (marked_in b) (settled_stays b.control b.receiving.rx.count r.drdy) (sym e)
