use mathlib.Core.Path.{sym, ap₂, ◌∙◌}
use native.Mathlib.Omega.{arith}
use Prim.Native.Nat.{ℕ}
use mathlib.Core.List.{List}
use Rattle.span.specs.declared.span.FugueSpan.{FugueSpan}
use Rattle.words.specs.Le.{put}
use Rattle.store.specs.Row.{row_bytes}
use Rattle.rope.proofs.States.{with_none, with_many, with_full, with_done, room_head}
use Rattle.rope.proofs.state.open_with.Goals as goal
use Rattle.rope.proofs.state.open_with.Goals.{then-n-gt-UNITS-via-then-n-gt-UNITS, then-n-gt-UNITS-via-else-n-gt-UNITS+then-room-eq0}

pub returns-then-n-eq0 : goal.returns-then-n-eq0
returns-then-n-eq0 c = let a = c.args in
    let w = with_none a.s.now a.n c.if-n-eq0.true in
    (sym w.0, sym w.1)

pub returns-then-n-gt-UNITS : goal.returns-then-n-gt-UNITS
returns-then-n-gt-UNITS c = let a = c.args in
    elim c.then-n-gt-UNITS.branch [
      | then-n-gt-UNITS-via-then-n-gt-UNITS w ↦ (let v = with_many a.s.now a.n w.if-n-gt-UNITS.true in (sym v.0, sym v.1))
      | then-n-gt-UNITS-via-else-n-gt-UNITS+then-room-eq0 w ↦ (let v = with_full a.s.now a.n c.if-n-eq0.false w.if-n-gt-UNITS.false (sym w.room.ensures ∙ w.if-room-eq0.true) in (sym v.0, sym v.1))
    ]

pub put_header-requires : goal.put_header-requires
put_header-requires c = let s = c.args.s.now in
    omega (arith, room_head s (λ e. c.if-room-eq0.false (c.room.ensures ∙ e)))

pub put_row-requires : goal.put_row-requires
put_row-requires c = let s = c.args.s.now in
    omega (arith, room_head s (λ e. c.if-room-eq0.false (c.room.ensures ∙ e)), c.put_header.auto.s)

pub returns : goal.returns
returns c = let a = c.args in
    let w = with_done a.s.now a.n c.if-n-eq0.false c.if-n-gt-UNITS.false (λ e. c.if-room-eq0.false (c.room.ensures ∙ e)) in
    (sym w.0, c.put_row.ensures.bytes ∙ (ap₂ (λ (x : FugueSpan) (l : List ℕ). put 72 (row_bytes x) l) c.placeholder.ensures c.put_header.ensures ∙ sym w.1))
