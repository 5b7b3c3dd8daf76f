-- The same function at each of the eight.
-- what stands past the end, where nothing is read
use Rattle.seam_rules.specs.Memory.{remote_of}
use Rattle.seam_rules.specs.declared.memory.Remote.{Remote}
use Rattle.seam_rules.proofs.Eight.{eight}
use borrow.Author.Rules.{rules}
use Rattle.seam.proofs.taken.remotes_of.Goals as goal

abbrev none : Remote
none =
    record { id = (0, 0); maxpacket = 0; maxsegment = 0; checksum = 0; crc = 0; unacknowledged = 0; closure = 0; limit = 0 }

pub returns : goal.returns
returns c =
    rw (
      c.remote_of.ensures,
      c.remote_of-2.ensures,
      c.remote_of-3.ensures,
      c.remote_of-4.ensures,
      c.remote_of-5.ensures,
      c.remote_of-6.ensures,
      c.remote_of-7.ensures,
      c.remote_of-8.ensures,
    )
    (eight remote_of c.args.rs.now none (search rules))
