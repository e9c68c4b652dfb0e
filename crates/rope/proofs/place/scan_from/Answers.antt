use Rattle.rope.specs.Spans.{AllOk, run_s}
use Rattle.units.specs.Place.{verdict}
use Rattle.store.specs.Row.{rows}
use Rattle.span.specs.Units.{expand}
use Rattle.span.specs.declared.span.FugueSpan.{FugueSpan}
use lib.ListN.{drop}
use Prim.Native.Nat.{ℕ}
use mathlib.Core.Bool.{false}
use mathlib.Core.List.{List, []}
use mathlib.Core.Path.{sym, ap, subst, ◌∙◌}
use Rattle.rope.proofs.Whole.{rows_part, part_long, ok_drop}
use Rattle.rope.proofs.place.scan_from.Goals as goal

pub scan-requires : goal.scan-requires
scan-requires c = let a = c.args in let p = c.requires in (part_long a.n a.at a.s.now p.1 p.0.long, subst AllOk (sym (rows_part a.n a.at a.s.now p.1)) (ok_drop a.at (rows a.n a.s.now) p.0.each), p.0)

pub returns : goal.returns
returns c = let a = c.args in let p = c.requires in let R = rows a.n a.s.now in c.scan.ensures ∙ (ap (λ (l : List FugueSpan). run_s (verdict (expand R) a.x a.o c.parent_pos-m.result a.q) [] false 0 0 l) (rows_part a.n a.at a.s.now p.1) ∙ ap (λ (m : ℕ). run_s (verdict (expand R) a.x a.o m a.q) [] false 0 0 (drop a.at R)) c.parent_pos-m.ensures)
