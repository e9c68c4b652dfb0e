-- For claims that compute: `unfolding rope_open` opens every definition that the rope's calls are made of. Assumes nothing.
use Rattle.span.specs.Answer.{answer, lower}
use Rattle.span.specs.Chunk.{by_start, len_of, shape_of, part_chunk, formed, joins, merged_chunk, merge_code, slice_code}
use Rattle.span.specs.Status.{activated, same_status, in_i16, times_of}
use Rattle.span.specs.Ids.{inc_id, inc_opt, same_id, same_opt, room, room_opt}
use Rattle.span.specs.Span.{new_span, real_new, shift, left_of, ids_ok, span_code, slice_span_code, merge_span_code, merged_span, runs_on, same_head, same_place, same_state, same_diff, same_origins, active_len, active_in_diff, real_of, diff_of}
use Rattle.span.specs.Units.{tab, units_of, expand, join, join_on}
use Rattle.units.specs.Place.{mem_id, has_ol, parent_right, pos_of, pr_pos, by_pos, sibling, verdict, is_stop, after, run, up_to, front, behind, last_id, first_past, put_at, scan_place, with_origins, origin_left, origin_right, insert_units, shown}
use Rattle.units.specs.Limits.{fits}
use Rattle.units.specs.Lists.{every, some, keep_if, over}
use Rattle.units.specs.Change.{with_state, delete_unit, delete_first, delete_units, first_shown, taken, touched, pieces, change_status, base_of, update_unit, in_range, update_units, clear_units}
use Rattle.units.specs.Delta.{lamport_of, insert_of_span, retain, entries_from, entries, insertable, lamports_run, like, size_of, merged_entry, join_entry, join_entries}
use Rattle.units.specs.Query.{visibles, placeholder, real_span_at}
use Rattle.units.specs.Store.{touching, joined_rows, distinct_ids, named, origins_named, well_formed}
use Rattle.units.specs.Codes.{holds_some, holds_all, placeholder_code, insert_ids, insert_code, insert_of, delete_code, delete_of, counts_fit, update_code, update_of, ask_code, clear_of, diff_code, get_diff_of}

unfoldable pub rope_open : Unit {0}
unfolding answer lower by_start len_of shape_of part_chunk formed joins merged_chunk merge_code slice_code activated same_status in_i16 times_of inc_id inc_opt same_id same_opt room room_opt new_span real_new shift left_of ids_ok span_code slice_span_code merge_span_code merged_span runs_on same_head same_place same_state same_diff same_origins active_len active_in_diff real_of diff_of tab units_of expand join join_on mem_id has_ol parent_right pos_of pr_pos by_pos sibling verdict is_stop after run up_to front behind last_id first_past put_at scan_place with_origins origin_left origin_right insert_units shown fits every some keep_if over with_state delete_unit delete_first delete_units first_shown taken touched pieces change_status base_of update_unit in_range update_units clear_units lamport_of insert_of_span retain entries_from entries insertable lamports_run like size_of merged_entry join_entry join_entries visibles placeholder real_span_at touching joined_rows distinct_ids named origins_named well_formed holds_some holds_all placeholder_code insert_ids insert_code insert_of delete_code delete_of counts_fit update_code update_of ask_code clear_of diff_code get_diff_of
rope_open = tt
