use Prim.Native.Nat.{ℕ}
use mathlib.Core.Path.{sym, ap, subst, ◌∙◌}
use mathlib.Core.Bool.{false}
use mathlib.Core.List.{List, []}
use native.Mathlib.Omega.{arith}
use lib.ListN.{length, drop}
use Rattle.span.specs.declared.span.FugueSpan.{FugueSpan}
use Rattle.span.specs.Units.{expand}
use Rattle.store.specs.Row.{rows}
use Rattle.units.specs.Place.{verdict}
use Rattle.rope.specs.Spans.{AllOk}
use Rattle.rope.proofs.Whole.{rows_part, part_long, ok_drop}
use Rattle.rope.proofs.WellFormed.{formed_of}
use Rattle.tracker.specs.Rows.{pairs}
use Rattle.tracker.specs.Fits.{stays_at}
use Rattle.tracker.proofs.Tight.{held_of, few_of}
use Rattle.tracker.proofs.fits.stays_from.Goals as goal

pub rows-list-requires : goal.rows-list-requires
rows-list-requires c = c.requires.0.stored.long

pub units-count-requires : goal.units-count-requires
units-count-requires c = let a = c.args in omega (arith, c.rows-list.ensures.len, few_of a.n a.s.now c.requires.0.stored)

pub parent_pos-p-requires : goal.parent_pos-p-requires
parent_pos-p-requires c = let a = c.args in held_of a.n a.s.now c.requires.0.stored c.units-count.result (c.units-count.ensures ∙ ap (λ (l : List FugueSpan). length (expand l)) c.rows-list.ensures.list)

pub stays-requires : goal.stays-requires
stays-requires c = let a = c.args in let w = c.requires.0.stored in (part_long a.n a.at a.s.now c.requires.1 w.long, subst AllOk (sym (rows_part a.n a.at a.s.now c.requires.1)) (ok_drop a.at (rows a.n a.s.now) (formed_of (rows a.n a.s.now) w.formed).each), held_of a.n a.s.now w c.units-count.result (c.units-count.ensures ∙ ap (λ (l : List FugueSpan). length (expand l)) c.rows-list.ensures.list), c.requires.0.first)

pub returns : goal.returns
returns c = let a = c.args in let R = rows a.n a.s.now in let p = c.parent_pos-p in c.stays.ensures ∙ (ap (λ (l : List FugueSpan). stays_at (pairs a.m a.v.now) (verdict (expand R) a.x a.o p.result a.q) [] false l) (rows_part a.n a.at a.s.now c.requires.1) ∙ ap (λ (k : ℕ). stays_at (pairs a.m a.v.now) (verdict (expand R) a.x a.o k a.q) [] false (drop a.at R)) p.ensures)
