-- The directive that a code stands for.
-- Assumes nothing.
use Rattle.std.specs.Prelude.{ℕ, Result, Ok, Err, eqb}
use Rattle.basis.specs.Pick.{pick}
use Rattle.pdu_read.specs.declared.directive.UnknownCode.{UnknownCode}
use Rattle.pdu_read.specs.declared.directive.Directive.{Directive}
use Rattle.pdu_read.specs.declared.directive.Directive.TheVariants.{Eof, Finished, Ack, Metadata, Nak, Prompt, KeepAlive}

unfoldable pub directive_of : ℕ → Result Directive UnknownCode
directive_of code =
    pick (eqb code 4) (Ok Eof)
    (pick (eqb code 5) (Ok Finished)
    (pick (eqb code 6) (Ok Ack)
    (pick (eqb code 7) (Ok Metadata)
    (pick (eqb code 8) (Ok Nak)
    (pick (eqb code 9) (Ok Prompt)
    (pick (eqb code 12) (Ok KeepAlive)
    (Err (record { code = code }))))))))
