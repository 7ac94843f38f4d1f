-- What small lists say. Computed.
use mathlib.Core.Path.{◌≡◌, refl}
use mathlib.Core.Bool.{true, false}
use mathlib.Core.List.{[], ◌∷◌}
use Rattle.layout.specs.declared.Layout.TheVariants.{Ours, Makers}
use Rattle.base.specs.Pick.{pick}
use Rattle.events.specs.declared.Event.TheVariants.{Power, Word, Release, Tick, Clock}
use Rattle.script.specs.Script.{power_record, tick_record, release_record, record_of}
use Rattle.whole_night.specs.Night.{events, wrong, before, events_in}

empty_list : events_in [] ≡ events []
unfolding events_in
empty_list = refl

one_tick : events_in (3 ∷ 0 ∷ 1 ∷ []) ≡ events (Tick true ∷ [])
unfolding events_in before record_of tick_record pick
one_tick = refl

-- values high byte first
each_kind : events_in (0 ∷ 0 ∷ 1 ∷ 1 ∷ 0x21 ∷ 0xFF ∷ 2 ∷ 0 ∷ 0 ∷ 3 ∷ 0 ∷ 0 ∷ 4 ∷ 1 ∷ 0 ∷ []) ≡ events (Power true Ours ∷ Word 0x21FF ∷ Release ∷ Tick false ∷ Clock 256 ∷ [])
unfolding events_in before record_of power_record tick_record release_record pick
each_kind = refl

-- the layout is in the power-up's value (02 item 7)
each_power : events_in (0 ∷ 0 ∷ 0 ∷ 0 ∷ 0 ∷ 1 ∷ 0 ∷ 0 ∷ 2 ∷ 0 ∷ 0 ∷ 3 ∷ [])
    ≡ events (Power false Ours ∷ Power true Ours ∷ Power false Makers ∷ Power true Makers ∷ [])
unfolding events_in before record_of power_record
each_power = refl

cut_record : events_in (3 ∷ 0 ∷ []) ≡ wrong
unfolding events_in
cut_record = refl

-- the entire list is judged
cut_at_the_end : events_in (3 ∷ 0 ∷ 1 ∷ 3 ∷ []) ≡ wrong
unfolding events_in before record_of tick_record pick
cut_at_the_end = refl

kind_5 : events_in (5 ∷ 0 ∷ 0 ∷ []) ≡ wrong
unfolding events_in before record_of
kind_5 = refl

power_of_4 : events_in (0 ∷ 0 ∷ 4 ∷ []) ≡ wrong
unfolding events_in before record_of power_record
power_of_4 = refl

-- both bytes of a value count
power_of_256 : events_in (0 ∷ 1 ∷ 0 ∷ []) ≡ wrong
unfolding events_in before record_of power_record
power_of_256 = refl

tick_of_2 : events_in (3 ∷ 0 ∷ 2 ∷ []) ≡ wrong
unfolding events_in before record_of tick_record pick
tick_of_2 = refl

release_of_1 : events_in (2 ∷ 0 ∷ 1 ∷ []) ≡ wrong
unfolding events_in before record_of release_record pick
release_of_1 = refl
