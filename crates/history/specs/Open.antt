-- For claims that compute: `unfolding history_open` opens every definition that the history's calls are made of. Assumes nothing.
use Rattle.units.specs.Open.{rope_open}
use Rattle.fugue.specs.Tree.{pr_of, is_none, left_kid, right_kid, walk_each, walk_list, walk, id_before, by_id, sort_id}
use Rattle.history.specs.Edit.{size_of}
use Rattle.history.specs.Version.{count_of, below, in_version, held_count, above, rising, is_held, named, within, closed_for, closed, version_code}
use Rattle.history.specs.Checkout.{in_range, in_ranges, range_on, ranges_of, deletes_in, status_at, unit_at, units_at, checkout, unit_between, units_between}
use Rattle.history.specs.Arrive.{start, act_list, act_took, hold, arrive, replay}
use Rattle.history.specs.Tree.{hung, tree_list, tree_arrive, tree_replay, rank, by_rank, sort_rank, tree_of}
use Rattle.history.specs.Deltas.{spans_between, delta}
use Rattle.history.specs.Apply.{item_of, items, item_at, items_of, applied, entry_formed, lamport_fits, entry_ids, entry_known, used, item_formed, item_ids, item_single, apply_code, apply_of}
use Rattle.history.specs.Valid.{has_peer, peer_count, own_count, edit_code, edits_fit, edit_units, same_unit, same_units, same_ranges, total, ranges_in, targets_fit, target_list, valid}
use Rattle.history.specs.Codes.{on_units, stored, open_code, inside, made, arrival_fits, arrive_code, arrive_of, checkout_code, checkout_of, delta_code, delta_of, ask_code}

unfoldable pub history_open : Unit {0}
unfolding rope_open pr_of is_none left_kid right_kid walk_each walk_list walk id_before by_id sort_id size_of count_of below in_version held_count above rising is_held named within closed_for closed version_code in_range in_ranges range_on ranges_of deletes_in status_at unit_at units_at checkout unit_between units_between start act_list act_took hold arrive replay hung tree_list tree_arrive tree_replay rank by_rank sort_rank tree_of spans_between delta item_of items item_at items_of applied entry_formed lamport_fits entry_ids entry_known used item_formed item_ids item_single apply_code apply_of has_peer peer_count own_count edit_code edits_fit edit_units same_unit same_units same_ranges total ranges_in targets_fit target_list valid on_units stored open_code inside made arrival_fits arrive_code arrive_of checkout_code checkout_of delta_code delta_of ask_code
history_open = tt
