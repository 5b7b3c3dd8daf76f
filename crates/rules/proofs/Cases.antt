-- The byte cases, computed: every definition on the way is opened.
-- Assumes nothing.
use mathlib.Core.Path.{refl}
use Rattle.basis.specs.Bytes.{be, num_at, num, part, byte}
use Rattle.basis.specs.Laid.{in_front}
use Rattle.rules_pdu.specs.Numbers.{good_width, fits, larger, number_after, is_large, segment_length}
use Rattle.rules_leaves.specs.Utf8.{is_utf8}
use Rattle.rules_leaves.specs.Checksum.{more, at_place, sum_on}
use Rattle.rules_pdu.specs.Layout.{head_bytes, trailer, pdu_bytes, body_bytes, encode, pdu_length}
use Rattle.rules_pdu.specs.Reading.{bit_in, version_in, file_data_in, to_sender_in, unacknowledged_in, crc_in, large_in, length_in, id_width_in, seq_width_in, head_in, crc_good, well_framed, frame_in, framed_in, reserved, are_tlvs, finished_params, finished_in, ack_in, request_count, nak_in, directive_in, body_of, request_at, requests_from, body_in}
use Rattle.rules.specs.Queues.{is_metadata, owes, invalid, any_invalid, owing, free, push, push_owed, push_all, oldest, pop, served}
use Rattle.rules.specs.Deliver.{said_in, requests_in, verdict_of, same_transaction, unexpected, deliver_answer, deliver_state, deliver_length, deliver_outcome}
use Rattle.rules.specs.States.{idle}
use Rattle.rules.specs.Put.{ids_fit, find_in, entries, is_found, entry_of, known_type, known_action, all_known, good_entry, good_config, good_length, good_lengths, too_long, padded, padded_length, started, put_answer, put_state, put_outcome}
use Rattle.rules.specs.Step.{action_for, fault_due, ack_expired, check_expired, eof_owed, due_of, sum_behind, repair_of, closing, closure_bit, after_cancel_eof, after_metadata, after_data, after_eof, finished_if, ack_timer, eof_timer, eof_finished, changed, performed, step_outcome, step_bytes}
use Rattle.rules.specs.Cancel.{may_cancel, cancel_outcome, new_outcome}
use Rattle.rules.specs.Burst.{steps_of, laid_of, allowed, in_places, burst_outcome, burst_bytes}
use Rattle.rules.specs.Runs.{trace, behind}
use Rattle.rules.specs.Cases.{remote, cut_to, config, request, run, state_behind, next_lengths, next_bytes, expired_lengths, pending_count, next_delivery, next_fault, put_no, large, ByteCases}

pub byte-cases : ByteCases
unfolding be num_at num part byte in_front good_width fits larger number_after is_large segment_length is_utf8 more at_place sum_on head_bytes trailer pdu_bytes body_bytes encode pdu_length idle ids_fit find_in entries is_found entry_of known_type known_action all_known good_entry good_config good_length good_lengths too_long padded padded_length started put_answer put_state put_outcome action_for fault_due ack_expired check_expired eof_owed due_of sum_behind repair_of closing closure_bit after_cancel_eof after_metadata after_data after_eof finished_if ack_timer eof_timer eof_finished changed performed step_outcome step_bytes bit_in version_in file_data_in to_sender_in unacknowledged_in crc_in large_in length_in id_width_in seq_width_in head_in crc_good well_framed frame_in framed_in body_in reserved are_tlvs finished_params finished_in ack_in request_count nak_in directive_in body_of request_at requests_from is_metadata owes invalid any_invalid owing free push push_owed push_all oldest pop served said_in requests_in verdict_of same_transaction unexpected deliver_answer deliver_state deliver_length deliver_outcome may_cancel cancel_outcome new_outcome steps_of laid_of allowed in_places burst_outcome burst_bytes trace behind remote cut_to config request run state_behind next_lengths next_bytes expired_lengths pending_count next_delivery next_fault put_no large
byte-cases = (refl, (refl, (refl, (refl, (refl, (refl, (refl, (refl, (refl, (refl, (refl, (refl, (refl, (refl, (refl, (refl, (refl, (refl, (refl, (refl, (refl, (refl, (refl, (refl, (refl, (refl, (refl, (refl, (refl, (refl, (refl, (refl, (refl, (refl, (refl, (refl, (refl, (refl, (refl, tt)))))))))))))))))))))))))))))))))))))))
