-- The code's bytes against the definitions. Assumes nothing.
use mathlib.Core.Path.{◌≡◌, refl, ◌∙◌}
use Prim.Native.Nat.{ℕ, ◌*◌, ◌/◌, ◌%◌, ◌<◌}
use lib.Bits.{bit_xor}
use Rattle.crc16.specs.Crc.{crc_byte}
use Rattle.crc16.specs.Tables.{entry_of}
use Rattle.crc16.proofs.Pieces.{piece_in}
use Rattle.crc16.proofs.Bytes.{one_lookup}

pub byte_in : (c b x : ℕ) → c < 65536 → b < 256 → x ≡ entry_of 8 (bit_xor (c / 256) b) → bit_xor (c % 256 * 256) x ≡ crc_byte c b
byte_in c b x hc hb h = piece_in 8 8 refl c b x h ∙ one_lookup c b hc hb
