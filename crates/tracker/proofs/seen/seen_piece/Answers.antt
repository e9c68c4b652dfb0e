use Rattle.tracker.proofs.Pieces.{from_room, run_room, first_room, piece_one, piece_two}
use Rattle.tracker.specs.Rows.{pairs, held}
use Rattle.span.specs.Span.{len_span}
use mathlib.Core.Path.{◌≡◌}
use native.Mathlib.Omega.{arith}
use Rattle.tracker.proofs.seen.seen_piece.Goals as goal

pub inc-id-requires : goal.inc-id-requires
inc-id-requires c = let a = c.args in from_room a.row a.from c.requires.2 (omega (arith, c.requires.3))

pub status_run-first-requires : goal.status_run-first-requires
status_run-first-requires c = let a = c.args in let i = c.inc-id in let n = c.rle_len in let z : n.result ≡ len_span a.row = n.ensures in (c.requires.0, omega (arith, z, c.requires.3), run_room a.both (pairs a.ka a.a.now) (pairs a.kb a.b.now) (held a.h a.e.now a.t.now) a.row a.from c.requires.2 c.requires.3 i.result i.ensures n.result n.ensures)

pub status_run-second-requires : goal.status_run-second-requires
status_run-second-requires c = let a = c.args in let i = c.inc-id in let n = c.rle_len in let r = c.status_run-first in (c.requires.1, r.ensures.some, first_room a.both (pairs a.ka a.a.now) (pairs a.kb a.b.now) (held a.h a.e.now a.t.now) a.row a.from c.requires.2 c.requires.3 i.result i.ensures n.result n.ensures r.result r.ensures)

pub returns-then-both : goal.returns-then-both
returns-then-both c = let a = c.args in let i = c.inc-id in let n = c.rle_len in let r = c.status_run-first in let z = c.status_run-second in piece_two a.both (pairs a.ka a.a.now) (pairs a.kb a.b.now) (held a.h a.e.now a.t.now) a.row a.from c.requires.2 c.requires.3 i.result i.ensures n.result n.ensures r.result r.ensures z.result z.ensures c.if-both.true c.part_with.result c.part_with.ensures

pub returns-else-both : goal.returns-else-both
returns-else-both c = let a = c.args in let i = c.inc-id in let n = c.rle_len in let r = c.status_run-first in piece_one a.both (pairs a.ka a.a.now) (pairs a.kb a.b.now) (held a.h a.e.now a.t.now) a.row a.from c.requires.2 c.requires.3 i.result i.ensures n.result n.ensures r.result r.ensures c.if-both.false c.part_with-else-both.result c.part_with-else-both.ensures
