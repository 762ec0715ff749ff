-- Opens every definition of the rules at once: `unfolding computes`.
use Rattle.offer_rules.specs.Numbers.{any_beyond, draw, ◌then◌}
use Rattle.offer_rules.specs.Time.{has_begun, past_horizon, period_refused, is_fresh, first_not_begun, next_period}
use Rattle.offer_rules.specs.Kinds.{kind_row}
use Rattle.offer_rules.specs.Offer.{pairs_in, pairs, is_blank, all_blank, sum_of, any_pair, pair_out_of_range, out_of_range, is_priced_blank, blank_before_filled, blank_refused, non_blank_prices, rises, ramp_beyond, ramp_refused, proportion_refused, above_capacity, offer_number}
use Rattle.offer_rules.specs.Gate.{total_tenths, price_of_tenth, same_prices_to, same_prices, covers, admits_service, period_covered, total_moved, reason_holds, is_excepted, gate_refuses}
use Rattle.book_rules.specs.Record.{signed, word_at, words_at, capability_in, offer_in, used_by_offer, used, is_record, outside, any_stray, has_stray, record_number, sizes_ok}
use Rattle.book_rules.specs.Words.{part, put, book_size, cell_place, cell, cell_held, holding, is_book, limits_ok, opening_number, empty_facility, empty_facilities, opening_head, opened, opening_words}
use Rattle.book_rules.specs.Force.{first_of, in_force, variation_made, will_stand, pairs_of, counted, count_in_force, sum_in_force, plain, shown_at, found_words, found, totalled}
use Rattle.book_rules.specs.Refusals.{has_kind, facility_number, clock_number, outage_number, notice_number, withdrawal_number, kind_refused, maxima_refused, any_mark_astray, marks_refused, capability_number, registration_number, admission_number, admitted_standing, admitted_variation, equal_words, over_held, revision_number, grounds, gate_number, period_number, force_number, standing_number, variation_number, look_up_number, judge, look_up_reply, total_reply, reply, number, answer, after}
use Rattle.book_rules.specs.Book.{window_in, held, book_view, write_cell, outage_words, book_accept, book_answer, book_after, book_answers, book_run}
use Rattle.book_rules.specs.ListMachine.{newest, list_clock, list_capability, list_outage, list_notice, list_standing, list_variation, list_view, list_answers}
use Rattle.cases.specs.Records.{bits, four_bytes, all_bytes, record_bytes, pair_words}

unfoldable pub computes : Unit {0}
unfolding draw ◌then◌ has_begun past_horizon period_refused is_fresh first_not_begun next_period kind_row pairs_in pairs is_blank all_blank sum_of any_pair pair_out_of_range out_of_range is_priced_blank blank_before_filled blank_refused non_blank_prices rises ramp_beyond ramp_refused proportion_refused above_capacity offer_number total_tenths price_of_tenth same_prices_to same_prices covers admits_service period_covered total_moved reason_holds is_excepted gate_refuses signed word_at words_at capability_in offer_in used_by_offer used is_record outside any_stray has_stray record_number sizes_ok part put book_size cell_place cell cell_held holding is_book any_beyond limits_ok opening_number empty_facility empty_facilities opening_head opened opening_words first_of in_force variation_made will_stand pairs_of counted count_in_force sum_in_force plain shown_at found_words found totalled has_kind facility_number clock_number outage_number notice_number withdrawal_number kind_refused maxima_refused any_mark_astray marks_refused capability_number registration_number admission_number admitted_standing admitted_variation equal_words over_held revision_number grounds gate_number period_number force_number standing_number variation_number look_up_number judge look_up_reply total_reply reply number answer after window_in held book_view write_cell outage_words book_accept book_answer book_after book_answers book_run newest list_clock list_capability list_outage list_notice list_standing list_variation list_view list_answers bits four_bytes all_bytes record_bytes pair_words
computes = tt
