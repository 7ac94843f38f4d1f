-- Laws of a list's run, as the functions' proofs ask them. Assumes nothing.
use mathlib.Core.Path.{◌≡◌, refl, sym, ◌∙◌, ap, subst}
use mathlib.Core.Bool.{Bool, true}
use mathlib.Core.List.{List}
use Prim.Native.Nat.{ℕ, suc, ◌+◌, ◌-◌, ◌<◌, ◌≤◌}
use native.Mathlib.Omega.{arith}
use lib.ListN.{length, length-set}
use Rattle.command.specs.Layouts.{layouts}
use Rattle.rules.proofs.Facts.{host_fit}
use Rattle.state.specs.Facts.{HostFit}
use Rattle.state.specs.Notes.{note_number}
use Rattle.state.specs.declared.Bridge.{Bridge}
use Rattle.events.specs.Turn.{Out, out, turn}
use Rattle.events.specs.declared.Answer.{Answer}
use Rattle.events.specs.declared.Event.{Event}
use Rattle.bridge.specs.Fit.{Fit, Kept}
use Rattle.bridge.proofs.Keeping.{turn_keeps}
use Rattle.listing.specs.Records.{is_event, event_at}
use Rattle.listing.specs.Results.{put}
use Rattle.listing.specs.Run.{Moment, moment, put_answer, list_of, Listable, Ahead, Lent, Gone}
use Rattle.listing.proofs.Records.{each_event}

pub put_length : (s : List ℕ) (k note sdo : ℕ) (sout : Bool) → length (put s k note sdo sout) ≡ length s
unfolding put
put_length s k note sdo sout = simp length-set

pub begins : (records : List ℕ) (many from : ℕ) (b : Bridge) (tx rx s : List ℕ) → Lent records many from b tx rx s
    → Gone records many from b tx rx s from b tx rx s
begins records many from b tx rx s l = record {
  whole = refl;
  fit = l.fit;
  least = omega arith;
  within = omega (arith, l.one);
  list = l.list;
  size = refl;
}

module _ (records : List ℕ) (many from : ℕ) (b₀ : Bridge) (tx₀ rx₀ s₀ : List ℕ) (k : ℕ) (b : Bridge) (tx rx s : List ℕ)
    (v : Gone records many from b₀ tx₀ rx₀ s₀ k b tx rx s) where
  pub host_now : HostFit b
  host_now = host_fit b v.fit.ready.rules

  pub ahead : k < many → Ahead records s k many
  ahead h = record { list = v.list; one = h }

  pub lent_now : k < many → Lent records many k b tx rx s
  lent_now h = record { list = v.list; fit = v.fit; one = h }

  pub event_now : k < many → is_event records k ≡ true
  event_now h = each_event records many v.list.events k h

  pub to_end : many ≤ k → list_of records 0 k b tx rx s ≡ list_of records (many - from) from b₀ tx₀ rx₀ s₀
  to_end h = let z : many - k ≡ 0 = omega arith in sym (ap (λ (m : ℕ). list_of records m k b tx rx s) z) ∙ v.whole

  -- a part and then a further part
  pub joined : (to : ℕ) (x : Bridge) (t r u : List ℕ) → Gone records many k b tx rx s to x t r u → Gone records many from b₀ tx₀ rx₀ s₀ to x t r u
  joined to x t r u w = record {
    whole = w.whole ∙ v.whole;
    fit = w.fit;
    least = omega (arith, v.least, w.least);
    within = w.within;
    list = w.list;
    size = w.size ∙ v.size;
  }

  -- one event more
  module _ (h : k < many) (e : Event) (i : e ≡ event_at records k) (a : Answer) (t r u : List ℕ) (o : out a t r ≡ turn layouts b tx rx e)
      (w : u ≡ put s k (note_number a.note) a.sdo a.sout) where
    abbrev on : Out → Moment
    on x = list_of records (many - (k + 1)) (k + 1) x.answer.state x.tx x.rx (put_answer s k x.answer)

    one : on (turn layouts b tx rx (event_at records k)) ≡ list_of records (many - k) k b tx rx s
    unfolding list_of
    one = let z : many - k ≡ suc (many - (k + 1)) = omega arith in sym (ap (λ (m : ℕ). list_of records m k b tx rx s) z)

    pub again : Gone records many from b₀ tx₀ rx₀ s₀ (k + 1) a.state t r u
    again = record {
      whole = rw w (ap on (o ∙ ap (turn layouts b tx rx) i) ∙ one ∙ v.whole);
      fit = subst Kept (sym o) (turn_keeps b tx rx e v.fit);
      least = omega (arith, v.least);
      within = omega arith;
      list = record { events = v.list.events; bytes = v.list.bytes; room = rw (w, put_length) v.list.room };
      size = rw (w, put_length) v.size;
    }
