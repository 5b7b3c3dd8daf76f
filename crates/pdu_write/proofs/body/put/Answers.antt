-- Header, body and CRC one behind the other are the PDU. Assumes nothing.
use native.Mathlib.Omega.{arith}
use Rattle.pdu_write.proofs.Frame.{placed}
use Rattle.pdu_write.proofs.body.put.Goals as goal

pub returns : goal.returns
returns g c =
    let n = rw c.unwrap.ensures at c.length.ensures in
    let p = placed _ _ _ _ _ _ _ _ _ _ c.requires (omega arith) (rw c.is_file_data.ensures at c.put_head-a.ensures) c.put-b.ensures c.put_crc.ensures in
    record { value = p.0; out_after = p.1 }
