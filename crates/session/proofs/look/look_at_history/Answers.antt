use Rattle.std.proofs.Common.{refl}
use Rattle.session.specs.Lines.{look_lines, look_store}
use Rattle.session.proofs.look.look_at_history.Goals as goal

pub returns-in-At : goal.returns-in-At
unfolding look_lines look_store
returns-in-At c = rw c.in-At.is (rw c.active_real_span_at.ensures at c.at_pos.ensures, refl)

pub returns-in-Len : goal.returns-in-Len
unfolding look_lines look_store
returns-in-Len c = rw c.in-Len.is (rw c.visible_len.ensures at c.len.ensures, refl)

pub returns-in-Dump : goal.returns-in-Dump
unfolding look_lines look_store
returns-in-Dump c = rw c.in-Dump.is (c.history_list.ensures, refl)

pub returns-in-Spans : goal.returns-in-Spans
unfolding look_lines look_store
returns-in-Spans c = rw c.in-Spans.is (c.history_list-in-Spans.ensures, refl)

pub returns-in-Visible : goal.returns-in-Visible
unfolding look_lines look_store
returns-in-Visible c = rw c.in-Visible.is (c.history_list-in-Visible.ensures, refl)

pub returns-in-Row : goal.returns-in-Row
unfolding look_lines look_store
returns-in-Row c = rw c.in-Row.is c.put_row.ensures

pub returns-in-Rows : goal.returns-in-Rows
unfolding look_lines look_store
returns-in-Rows c = rw c.in-Rows.is c.set_rows.ensures

pub returns-in-Sum : goal.returns-in-Sum
unfolding look_lines look_store
returns-in-Sum c = rw c.in-Sum.is (rw c.history_sum.ensures at c.put_sum.ensures, refl)
