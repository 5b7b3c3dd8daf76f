-- The code's places in a run of TLVs, as those of the definition.
-- Assumes nothing.
use Rattle.rules_pdu.specs.Reading.{Tlv as TlvOf, at_type, at_length, in_value, broken}
use Rattle.pdu_read.specs.declared.finished.Tlv.{Tlv}
use Rattle.pdu_read.specs.declared.finished.Tlv.TheVariants.{AtType, AtLength, InValue, Broken}

abbrev pub meant : Tlv → TlvOf
meant AtType = at_type
meant AtLength = at_length
meant (InValue n) = in_value n
meant Broken = broken
