-- `crc_nibble` meets its contract: the entry of the top four bits, and the rest moved up.
use borrow.Author.Rules.{rules}
use Rattle.crc16.proofs.Nibbles.{top_lt, in_table, nibble_in}
use Rattle.crc16.proofs.crc_nibble.Statement.{statement}
use Rattle.crc16.proofs.crc_nibble.Tie as tie

pub crc_nibble_spec : {M : Type 1} → statement M
crc_nibble_spec = tie.close (tie.spec (λ c. search rules) (λ c κs. search (rules, top_lt, in_table)) (λ c. search rules) (λ c. search (rules, nibble_in)))
