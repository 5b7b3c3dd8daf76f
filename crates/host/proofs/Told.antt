-- The byte of events, event by event.
-- Assumes nothing.
use mathlib.Core.Path.{refl}
use Rattle.host.specs.Told.{BitsTold, event_bits}

pub bits_told : BitsTold
unfolding event_bits
bits_told =
    record {
      none = λ id. refl;
      transaction = λ id. refl;
      eof_sent = λ id. refl;
      fault = λ id f. refl;
      finished = λ id v. refl;
      ack_timer = λ id. refl;
      check_timer = λ id. refl;
      all = λ id f v. refl;
      all_else = λ id f v. refl;
    }
