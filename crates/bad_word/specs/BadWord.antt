-- What register 11 shows of the line (02 item 4): "The receive side keeps the first such number since the flags were last cleared and shows it in a
-- new read-only register 11, which reads 0 when the flag is down." The line is the SIN bits of a run; its reader is `hear` of `line`.
use Rattle.std.specs.Prelude.{◌≡◌, Bool, true, false, ◌||◌, List, [], ◌∷◌, ℕ, ◌<◌, min, length, get_or}
use Rattle.base.specs.Bits.{word_end}
use Rattle.base.specs.Pick.{pick}
use Rattle.command.specs.Layouts.{Layouts}
use Rattle.line.specs.Format.{Segment, Words, Sixteen}
use Rattle.line.specs.Reader.{last_number}
use Rattle.line.specs.Damage.{damaged, founds, numbers_in, passes_for_end}
use Rattle.line.specs.declared.Ear.TheVariants.{Quiet}
use Rattle.registers.specs.Registers.{read_of}
use Rattle.plan.specs.declared.Receive.{Receive}
use Rattle.plan.specs.declared.Receive.TheVariants.{LeaveRx, PopRx, StopRx, EmptyRx, ResetRx}
use Rattle.events.specs.declared.Event.{Event}
use Rattle.events.specs.declared.Event.TheVariants.{Power, Word, Release, Tick, Clock as ClockReading}
use Rattle.bridge.specs.Runs.{Config, Whole, next, end_of}
use Rattle.order.specs.Accepted.{plan_of}
use Rattle.order.specs.Premises.{is_power}

-- its address. 02 item 4
abbrev pub bad_word : ℕ
bad_word = 11

-- what a host reads there
abbrev pub register11 : Config → ℕ
register11 c = read_of c.bridge.control c.bridge.sending.tx.count c.bridge.receiving.rx.count bad_word

abbrev pub check_bit_of : Config → Bool
check_bit_of c = c.bridge.control.flags.check_bit

-- the SIN bits of a run
unfoldable pub sin_of : List Event → List Bool
sin_of [] = []
sin_of (Power good layout ∷ es) = sin_of es
sin_of (Word w ∷ es) = sin_of es
sin_of (Release ∷ es) = sin_of es
sin_of (Tick sin ∷ es) = sin ∷ sin_of es
sin_of (ClockReading reading ∷ es) = sin_of es

-- the numbers that the reader answers on them, from what it is in
abbrev pub numbers_on : Config → List Event → List ℕ
numbers_on c es = numbers_in (founds c.bridge.receiving.reader.ear (sin_of es))

-- the first of them, or 0
abbrev pub first_of : List ℕ → ℕ
first_of ns = get_or ns 0 0

abbrev pub is_some : List ℕ → Bool
is_some [] = false
is_some (n ∷ ns) = true

-- "Soft reset (note 0): .. and reader to idle". 01 Registers
unfoldable pub resets_reader : Receive → Bool
resets_reader LeaveRx = false
resets_reader PopRx = false
resets_reader StopRx = false
resets_reader EmptyRx = false
resets_reader ResetRx = true

-- An event that leaves the reader to the line and CHECK_BIT up where it is: no power-up, no soft reset, no clear of the flags with CHECK_BIT up.
pub record Leaves (l : Layouts) (c : Config) (e : Event) : Type 0 where
  pub no_power : is_power e ≡ false
  pub no_reset : resets_reader (plan_of l c e).receive ≡ false
  pub no_clear : check_bit_of c ≡ true → (plan_of l c e).control.flags.check_bit ≡ true

abbrev pub Undisturbed : Layouts → Config → List Event → Type 0
Undisturbed l c [] = Unit {0}
Undisturbed l c (e ∷ es) = Leaves l c e × Undisturbed l (next l c e) es

-- What is promised of register 11, in a layout.
pub record Register11 (l : Layouts) : Type 0 where
  -- "reads 0 when the flag is down"
  pub reads_0 : (c : Config) → Whole c → check_bit_of c ≡ false → register11 c ≡ 0
  -- "keeps the first such number since the flags were last cleared": with CHECK_BIT up before, what it was
  pub first_kept : (c : Config) (es : List Event) → Whole c → Undisturbed l c es
      → register11 (end_of l c es) ≡ pick (check_bit_of c) (register11 c) (first_of (numbers_on c es))
  pub check_bit : (c : Config) (es : List Event) → Whole c → Undisturbed l c es
      → check_bit_of (end_of l c es) ≡ (check_bit_of c || is_some (numbers_on c es))
  -- "on which word a bad check bit came": where SIN shows, from idle, commands with one check bit changed, it is that word's number
  pub is_the_word : (c : Config) (es : List Event) → Whole c → c.bridge.receiving.reader.ear ≡ Quiet → check_bit_of c ≡ false
      → Undisturbed l c es
      → (s : List Segment) (before : List ℕ) (w : ℕ) (after : List ℕ) (t : List Segment) → Sixteen s → Words before → w < word_end
      → passes_for_end before w after ≡ false → sin_of es ≡ damaged s before w after t
      → (check_bit_of (end_of l c es) ≡ true) × (register11 (end_of l c es) ≡ min (length before) last_number)
