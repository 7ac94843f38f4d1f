-- What is left of `listing::put`: the four bytes as the definition names them.
use Rattle.std.proofs.Common.{◌≡◌, refl, arith, ◌/◌, ◌%◌}
use Rattle.listing.specs.Results.{put}
use Rattle.listing.proofs.Records.{to_bit}
use Rattle.listing.proofs.put.Goals as goal

pub returns : goal.returns
unfolding put
returns c =
    let high : c.args.sdo / 256 % 256 ≡ c.args.sdo / 256 = omega arith in
    rw (c.number.ensures, c.to_be_bytes.ensures, to_bit) (rw high refl)
